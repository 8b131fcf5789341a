use Rattle.std.proofs.Common.{◌≡◌, map, take, flat_map, string_bytes}
use Rattle.rtps_evidence.specs.Explanation as explanation
use Rattle.rtps_check.specs.CheckText as check_text
use Rattle.rtps_check.proofs.sections.lines_of.Given as goal

abbrev pub invariant-loop-row : goal.invariant-loop-row
invariant-loop-row l = string_bytes l.lines ≡ flat_map (check_text.noted_lines (check_text.row_told l.told)) (map explanation.explanation_value (take l.row-index l.rows))
