use Rattle.std.proofs.Common.{◌≡◌, map, take}
use Rattle.rtps_evidence.specs.Explanation as explanation
use Rattle.rtps_report.specs.LateRows as late_rows
use Rattle.rtps_report.specs.Talk as talk
use Rattle.rtps_report.proofs.late_row.late_rows.Given as goal

-- those of the rows so far
abbrev pub invariant-loop-row : goal.invariant-loop-row
invariant-loop-row l = map late_rows.late_row_value l.late.items ≡ late_rows.late_rows (talk.talk_value l.talk) (map explanation.explanation_value (take l.row-index l.rows))
