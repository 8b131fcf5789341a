use Rattle.std.proofs.Common.{◌≡◌, ◌≤◌, count_by, map, take}
use Rattle.rtps_evidence.specs.Explanation as explanation
use Rattle.rtps_report.specs.RowFacts as row_facts
use Rattle.rtps_report.specs.Ways as ways
use Rattle.rtps_report.proofs.ways.rows_of_way.Given as goal

abbrev pub invariant-loop-row : goal.invariant-loop-row
invariant-loop-row l = record {
  value : l.count ≡ count_by (λ (row : explanation.ExplanationValue). ways.is_way l.way (row_facts.way_in row.evidence.in_span)) (map explanation.explanation_value (take l.row-index l.rows));
  few : l.count ≤ l.row-index;
}
