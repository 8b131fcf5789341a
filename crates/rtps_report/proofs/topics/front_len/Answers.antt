use Rattle.std.proofs.Common.{◌≡◌, ◌-◌, ◌∙◌, ap, arith, get_or, length, sym}
use Rattle.rtps_report.proofs.TopicLemmas.{cut, front_at, front_at_end, front_ends, front_goes_on, known_at, known_further}
use Rattle.rtps_report.proofs.topics.front_len.Goals as goal

pub returns-then-not-goes_on-clause-first : goal.returns-then-not-goes_on-clause-first
returns-then-not-goes_on-clause-first c =
    let rows = c.args.rows.now in
    cut rows c.loop-place.place c.requires
    (λ row. known_at rows c.loop-place.place row (c.loop-place.invariant row)
    (front_ends rows c.loop-place.place row c.loop-place-test.true (sym (c.goes_on.ensures row) ∙ c.if-not-goes_on.true)))

pub loop-place-preserved : goal.loop-place-preserved
loop-place-preserved c =
    λ row.
    let rows = c.args.rows.now in
    known_further rows c.loop-place.place row c.loop-place.auto.place (c.loop-place.invariant row)
    (front_goes_on rows c.loop-place.place row c.loop-place-test.true (sym (c.goes_on.ensures row) ∙ c.if-not-goes_on.false))

pub returns-clause-first : goal.returns-clause-first
returns-clause-first c =
    let rows = c.args.rows.now in
    let place = c.loop-place.place in
    let same : place ≡ length rows = omega (arith, c.loop-place-test.false, c.loop-place.auto.place-end, c.requires) in
    cut rows (length rows) c.requires
    (λ row. sym same
    ∙ known_at rows place row (c.loop-place.invariant row)
    (ap (λ at. front_at rows at (get_or rows (place - 1) row)) same ∙ front_at_end rows (get_or rows (place - 1) row)))
