use Rattle.rtps_coverage.proofs.RisingLemmas.{IsRisen}
use Rattle.rtps_coverage.proofs.rising.rise.Given as goal

-- the stretches so far are made
abbrev pub invariant-loop-stretch : goal.invariant-loop-stretch
invariant-loop-stretch l = IsRisen l.stretches l.stretch-index l.hi l.rising.items
