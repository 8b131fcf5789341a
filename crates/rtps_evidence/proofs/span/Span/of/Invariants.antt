use Rattle.std.proofs.Common.{map, take}
use Rattle.rtps_audit.specs.Index as index_spec
use Rattle.rtps_audit.specs.Intake as intake_spec
use Rattle.rtps_audit.specs.Placed as placed
use Rattle.rtps_evidence.specs.Newcomers as newcomers
use Rattle.rtps_evidence.proofs.span.Span.of.Given as goal

-- by the acts so far
abbrev pub invariant-loop-placed : goal.invariant-loop-placed
invariant-loop-placed l = (intake : intake_spec.Intake) → index_spec.IsIndexBy intake l.index → newcomers.IsSpanning l.fn.from l.fn.pair intake (map placed.placed_value (take l.placed-index l.placed-items)) l.spanning
