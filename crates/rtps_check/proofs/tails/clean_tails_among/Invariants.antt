use Rattle.std.proofs.Common.{◌≡◌, filter, map, take}
use Rattle.rtps_evidence.specs.Explanation as explanation
use Rattle.rtps_report.specs.RowFacts as row_facts
use Rattle.rtps_check.proofs.tails.clean_tails_among.Given as goal

-- those among the rows so far
abbrev pub invariant-loop-row : goal.invariant-loop-row
invariant-loop-row l =
    map explanation.explanation_value l.tails.items ≡ filter (λ row. row_facts.is_clean_tail l.tail row.evidence) (map explanation.explanation_value (take l.row-index l.rows))
