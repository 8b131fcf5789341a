use Rattle.std.proofs.Common.{◌≡◌, map, take, true}
use Rattle.std.specs.List.{list_all}
use Rattle.rtps_evidence.specs.Explanation as explanation
use Rattle.rtps_report.specs.Asked as asked
use Rattle.rtps_report.specs.FullReport as full_report
use Rattle.rtps_report.proofs.row_facts.are_met.Given as goal

-- the rows so far are
abbrev pub invariant-loop-row : goal.invariant-loop-row
invariant-loop-row l = list_all (λ row. full_report.is_met (asked.asked_value l.asked) row.evidence) (map explanation.explanation_value (take l.row-index l.rows)) ≡ true
