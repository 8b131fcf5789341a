use Rattle.std.proofs.Common.{◌≡◌, take}
use Rattle.rtps_discovery.specs.Matching as matching
use Rattle.rtps_discovery.proofs.matching.reliable_pairs.Given as goal

-- the pairs so far
abbrev pub invariant-loop-one : goal.invariant-loop-one
invariant-loop-one l = l.pairs.items ≡ matching.reliable_pairs (take l.one-index l.found)
