use Rattle.std.proofs.Common.{◌≡◌, ◌-◌, ℕ, cond, drop, length, map, None}
use Rattle.std.specs.BTreeMap.{get}
use Rattle.std.specs.Ordering.{nat_cmp}
use Rattle.rtps_audit.specs.Delivery as delivery
use Rattle.rtps_audit.specs.Placed as placed
use Rattle.rtps_coverage.specs.Stretches as stretches
use Rattle.rtps_evidence.specs.LastAsks as last_asks
use Rattle.rtps_evidence.specs.Locations as locations
use Rattle.rtps_evidence.proofs.last_asks.last_asks.Given as goal

-- what the last acts ask for, and what they claim
abbrev pub invariant-loop-last : goal.invariant-loop-last
invariant-loop-last l = record {
  asks : (n : ℕ) → get nat_cmp l.asks n ≡ cond (stretches.stretches_have l.fn.numbers n) (last_asks.last_ask l.fn.pair (map placed.placed_value (drop (length l.acts - l.last) l.acts)) n) None;
  below : l.below ≡ delivery.greatest (map (locations.base_said l.fn.pair.writer l.fn.pair.reader) (map placed.placed_value (drop (length l.acts - l.last) l.acts)));
}
