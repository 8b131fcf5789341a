use Rattle.std.proofs.Common.{◌≡◌, ◌++◌, take, flat_map, string_bytes}
use Rattle.rtps_text.specs.ReportText as report_text
use Rattle.rtps_text.proofs.text.audit_text.push_rows.Given as goal

abbrev pub invariant-loop-row : goal.invariant-loop-row
invariant-loop-row l = string_bytes l.text ≡ string_bytes l.initial.text ++ flat_map report_text.row_line (take l.row-index l.rows)
