use Rattle.std.proofs.Common.{◌≡◌, map, take}
use Rattle.std.specs.List.{flat_map}
use Rattle.std.specs.String.{string_bytes}
use Rattle.rtps_report.specs.LateRows as late_rows
use Rattle.rtps_lines.specs.LateNotes as late_notes
use Rattle.rtps_lines.proofs.late_notes.late_lines.Given as goal

abbrev pub invariant-loop-row : goal.invariant-loop-row
invariant-loop-row l = string_bytes l.lines ≡ flat_map (late_notes.late_row_text l.times) (map late_rows.late_row_value (take l.row-index l.row-items))
