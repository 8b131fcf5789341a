use Rattle.std.proofs.Common.{◌≡◌, map, take}
use Rattle.rtps_evidence.specs.Explanation as explanation
use Rattle.rtps_report.specs.Totals as totals
use Rattle.rtps_report.proofs.totals.totals_of.Given as goal

abbrev pub invariant-loop-row : goal.invariant-loop-row
invariant-loop-row l = record {
  counted : l.totals ≡ totals.totals_of l.scope (map explanation.explanation_value (take l.row-index l.rows));
  pairs : l.totals.pairs ≡ l.row-index;
  within : totals.AreWithin l.totals;
}
