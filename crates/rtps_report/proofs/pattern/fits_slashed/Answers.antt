use Rattle.std.proofs.Common.{◌∙◌, ◌++◌, arith, codes, sym}
use Rattle.rtps_report.proofs.FollowedLemmas.{parts_at, parts_at_end}
use Rattle.rtps_report.proofs.pattern.fits_slashed.Goals as goal

pub returns-then-slashed_fit : goal.returns-then-slashed_fit
returns-then-slashed_fit c =
    sym (parts_at c.args.pattern.now c.loop-place.place c.args.namespace.now (codes "/" ++ c.args.name.now) (sym c.slashed_fit.ensures ∙ c.if-slashed_fit.true))

pub returns : goal.returns
returns c =
    c.slashed_fit-2.ensures
    ∙ parts_at_end c.args.pattern.now c.args.namespace.now (codes "/" ++ c.args.name.now)
    (λ place before. c.loop-place.invariant place (omega (arith, before, c.loop-place-test.false)))
