use Rattle.std.proofs.Common.{◌≡◌, List, map, take}
use Rattle.rtps_audit.specs.Placed as placed
use Rattle.rtps_discovery.specs.declared.matching.Pair.{Pair}
use Rattle.rtps_evidence.specs.KindRuns as kind_runs
use Rattle.rtps_evidence.specs.Kinds as kinds
use Rattle.rtps_evidence.proofs.kinds.KindNumbers.of.Given as goal

-- the runs so far as ranges
abbrev pub invariant-loop-run : goal.invariant-loop-run
invariant-loop-run l = (pair : Pair) (acts : List placed.PlacedValue) → kind_runs.AreSent pair acts l.sendings l.fn.runs → l.ranges.items ≡ map (kinds.range_of pair acts) (take l.run-index l.kept)
