use Rattle.std.proofs.Common.{◌≡◌, ◌≤◌, count_by, map, take}
use Rattle.rtps_report.specs.BestEfforts as best_efforts
use Rattle.rtps_report.specs.Ways as ways
use Rattle.rtps_report.proofs.ways.counted_of_way.Given as goal

abbrev pub invariant-loop-one : goal.invariant-loop-one
invariant-loop-one l = record {
  value : l.count ≡ count_by (λ (one : best_efforts.CountedValue). ways.is_way l.way one.arrived.way) (map best_efforts.counted_value (take l.one-index l.counted));
  few : l.count ≤ l.one-index;
}
