use Rattle.std.proofs.Common.{◌≡◌, ◌*◌, ◌≤◌, map, take}
use Rattle.rtps_evidence.specs.Explanation as explanation
use Rattle.rtps_report.specs.SideFacts as side_facts
use Rattle.rtps_report.proofs.side_facts.numbers_absent.Given as goal

abbrev pub invariant-loop-row : goal.invariant-loop-row
invariant-loop-row l = record {
  value : l.absent ≡ side_facts.numbers_absent (map explanation.explanation_value (take l.row-index l.rows));
  few : l.absent ≤ l.row-index * 18446744073709551615;
}
