use Rattle.std.proofs.Common.{map, take}
use Rattle.rtps_audit.specs.Placed as placed
use Rattle.rtps_coverage.specs.Stretches as stretches
use Rattle.rtps_evidence.specs.Kinds as kinds
use Rattle.rtps_evidence.specs.Runs as runs
use Rattle.rtps_evidence.proofs.sendings.Sendings.of.Given as goal

-- by the acts so far
abbrev pub invariant-loop-placed : goal.invariant-loop-placed
invariant-loop-placed l = runs.AreSendings (stretches.stretches_have l.numbers) (kinds.first_brought l.fn.pair (map placed.placed_value (take l.placed-index l.acts))) l.sendings
