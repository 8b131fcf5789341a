use Rattle.rtps_coverage.proofs.CountLemmas.{IsCounted}
use Rattle.rtps_coverage.proofs.stretches.count_in_order.Given as goal

-- the numbers of the stretches so far are counted
abbrev pub invariant-loop-stretch : goal.invariant-loop-stretch
invariant-loop-stretch l = IsCounted l.stretches l.fn.from l.fn.end l.stretch-index l.reached l.count
