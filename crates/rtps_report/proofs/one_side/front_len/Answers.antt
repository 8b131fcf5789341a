use Rattle.std.proofs.Common.{◌≡◌, ◌-◌, ◌∙◌, ap, arith, get_or, length, sym}
use Rattle.rtps_report.proofs.OneSideLemmas.{cut, front_at, front_at_end, front_ends, front_goes_on, known_at, known_further}
use Rattle.rtps_report.proofs.one_side.front_len.Goals as goal

pub returns-then-not-goes_on-clause-first : goal.returns-then-not-goes_on-clause-first
returns-then-not-goes_on-clause-first c =
    let ends = c.args.endpoints.now in
    cut ends c.loop-place.place c.requires
    (λ one. known_at ends c.loop-place.place one (c.loop-place.invariant one)
    (front_ends ends c.loop-place.place one c.loop-place-test.true (sym (c.goes_on.ensures one) ∙ c.if-not-goes_on.true)))

pub loop-place-preserved : goal.loop-place-preserved
loop-place-preserved c =
    λ one.
    let ends = c.args.endpoints.now in
    known_further ends c.loop-place.place one c.loop-place.auto.place (c.loop-place.invariant one)
    (front_goes_on ends c.loop-place.place one c.loop-place-test.true (sym (c.goes_on.ensures one) ∙ c.if-not-goes_on.false))

pub returns-clause-first : goal.returns-clause-first
returns-clause-first c =
    let ends = c.args.endpoints.now in
    let place = c.loop-place.place in
    let same : place ≡ length ends = omega (arith, c.loop-place-test.false, c.loop-place.auto.place-end, c.requires) in
    cut ends (length ends) c.requires
    (λ one. sym same
    ∙ known_at ends place one (c.loop-place.invariant one)
    (ap (λ at. front_at ends at (get_or ends (place - 1) one)) same ∙ front_at_end ends (get_or ends (place - 1) one)))
