use Rattle.std.proofs.Common.{◌≡◌, ◌<◌, ◌^◌, map, take}
use Rattle.rtps_audit.specs.Delivery as delivery
use Rattle.rtps_audit.specs.Placed as placed
use Rattle.rtps_evidence.specs.Recorded as recorded
use Rattle.rtps_evidence.proofs.recorded.greatest_sent.Given as goal

-- the greatest so far
abbrev pub invariant-loop-placed : goal.invariant-loop-placed
invariant-loop-placed l = record { value : l.greatest ≡ delivery.greatest (map (recorded.number_sent l.fn.writer) (map placed.placed_value (take l.placed-index l.acts))); in_range : l.greatest < 2 ^ 63 }
