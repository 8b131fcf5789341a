use Rattle.std.proofs.Common.{◌≡◌, map, take}
use Rattle.rtps_report.specs.LateRows as late_rows
use Rattle.rtps_lines.specs.LateNotes as late_notes
use Rattle.rtps_lines.proofs.late_notes.latest_rows.Given as goal

-- of the rows so far
abbrev pub invariant-loop-row : goal.invariant-loop-row
invariant-loop-row l = map late_rows.late_row_value l.latest.items ≡ late_notes.latest_rows (map late_rows.late_row_value (take l.row-index l.rows))
