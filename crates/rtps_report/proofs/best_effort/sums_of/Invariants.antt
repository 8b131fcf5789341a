use Rattle.std.proofs.Common.{◌≡◌, All, map, take}
use Rattle.rtps_report.specs.BestEfforts as best_efforts
use Rattle.rtps_report.proofs.BestEffortLemmas.{IsUpTo}
use Rattle.rtps_report.proofs.BestEffortSums.{gathered}
use Rattle.rtps_report.proofs.best_effort.sums_of.Given as goal

abbrev pub invariant-loop-one : goal.invariant-loop-one
invariant-loop-one l = record {
  gathered : map best_efforts.best_effort_value l.sums.items ≡ gathered (map best_efforts.counted_value (take l.one-index l.one-items));
  few : All (IsUpTo l.one-index) (map best_efforts.best_effort_value l.sums.items);
}
