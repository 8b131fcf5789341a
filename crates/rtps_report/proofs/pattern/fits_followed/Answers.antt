use Rattle.std.proofs.Common.{◌∙◌, arith, sym}
use Rattle.rtps_report.proofs.FollowedLemmas.{parts_at, parts_at_end}
use Rattle.rtps_report.proofs.pattern.fits_followed.Goals as goal

pub returns-then-parts_fit : goal.returns-then-parts_fit
returns-then-parts_fit c = sym (parts_at c.args.pattern.now c.loop-place.place c.args.name.now c.args.word.now (sym c.parts_fit.ensures ∙ c.if-parts_fit.true))

pub returns : goal.returns
returns c =
    c.parts_fit-2.ensures
    ∙ parts_at_end c.args.pattern.now c.args.name.now c.args.word.now
    (λ place before. c.loop-place.invariant place (omega (arith, before, c.loop-place-test.false)))
