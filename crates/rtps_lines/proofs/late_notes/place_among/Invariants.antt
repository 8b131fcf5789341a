use Rattle.std.proofs.Common.{◌≡◌, map, take}
use Rattle.std.specs.Prelude.{nat_lt}
use Rattle.std.specs.List.{position_or_len}
use Rattle.rtps_report.specs.LateRows as late_rows
use Rattle.rtps_lines.proofs.late_notes.place_among.Given as goal

-- none so far is less late
abbrev pub invariant-loop-place : goal.invariant-loop-place
invariant-loop-place l = position_or_len (λ one. nat_lt one.late.delay l.fn.delay) (map late_rows.late_row_value (take l.place l.fn.rows)) ≡ l.place
