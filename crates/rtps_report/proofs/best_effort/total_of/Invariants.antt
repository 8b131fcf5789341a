use Rattle.std.proofs.Common.{◌≡◌, ◌*◌, ◌≤◌, map, take}
use Rattle.rtps_report.specs.BestEfforts as best_efforts
use Rattle.rtps_report.proofs.best_effort.total_of.Given as goal

abbrev pub invariant-loop-one : goal.invariant-loop-one
invariant-loop-one l = record {
  counted : best_efforts.best_effort_value l.total ≡ best_efforts.total_of (map best_efforts.counted_value (take l.one-index l.counted));
  pairs : l.total.pairs ≡ l.one-index;
  numbers : l.total.numbers ≤ l.total.pairs * 18446744073709551615;
  recorded : l.total.recorded ≤ l.total.pairs * 18446744073709551615;
}
