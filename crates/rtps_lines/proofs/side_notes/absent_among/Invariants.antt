use Rattle.std.proofs.Common.{◌≡◌, map, take}
use Rattle.rtps_evidence.specs.Explanation as explanation
use Rattle.rtps_lines.specs.Notes as notes
use Rattle.rtps_lines.proofs.side_notes.absent_among.Given as goal

-- those among the rows so far
abbrev pub invariant-loop-row : goal.invariant-loop-row
invariant-loop-row l = map explanation.explanation_value l.absent.items ≡ notes.absent_rows (map explanation.explanation_value (take l.row-index l.rows))
