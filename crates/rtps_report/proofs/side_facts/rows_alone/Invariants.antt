use Rattle.std.proofs.Common.{◌≡◌, ◌≤◌, map, take}
use Rattle.rtps_evidence.specs.Explanation as explanation
use Rattle.rtps_report.specs.SideFacts as side_facts
use Rattle.rtps_report.proofs.side_facts.rows_alone.Given as goal

abbrev pub invariant-loop-row : goal.invariant-loop-row
invariant-loop-row l = record {
  value : l.alone ≡ side_facts.rows_alone (map explanation.explanation_value (take l.row-index l.rows));
  few : l.alone ≤ l.row-index;
}
