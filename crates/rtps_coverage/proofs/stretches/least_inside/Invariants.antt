use Rattle.rtps_coverage.proofs.StretchLemmas.{IsLeastSo}
use Rattle.rtps_coverage.proofs.stretches.least_inside.Given as goal

-- the least number of the stretches so far
abbrev pub invariant-loop-stretch : goal.invariant-loop-stretch
invariant-loop-stretch l = IsLeastSo l.stretches l.fn.from l.fn.end l.stretch-index l.least
