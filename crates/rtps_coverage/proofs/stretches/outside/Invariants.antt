use Rattle.rtps_coverage.proofs.OutsideLemmas.{IsRest}
use Rattle.rtps_coverage.proofs.stretches.outside.Given as goal

-- what the stretches so far leave
abbrev pub invariant-loop-stretch : goal.invariant-loop-stretch
invariant-loop-stretch l = IsRest l.stretches l.fn.from l.stretch-index l.at l.rest.items
