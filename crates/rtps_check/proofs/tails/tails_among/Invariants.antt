use Rattle.std.proofs.Common.{◌≡◌, filter, map, take}
use Rattle.rtps_evidence.specs.Explanation as explanation
use Rattle.rtps_check.specs.CheckText as check_text
use Rattle.rtps_check.proofs.tails.tails_among.Given as goal

-- those among the rows so far
abbrev pub invariant-loop-row : goal.invariant-loop-row
invariant-loop-row l =
    map explanation.explanation_value l.alone.items ≡ filter (check_text.lacks_tail_alone (check_text.row_told l.told)) (map explanation.explanation_value (take l.row-index l.rows))
