use Rattle.std.proofs.Common.{◌≡◌, ◌≤◌, count_by, map, take}
use Rattle.rtps_evidence.specs.Explanation as explanation
use Rattle.rtps_report.specs.LateRows as late_rows
use Rattle.rtps_report.specs.Talk as talk
use Rattle.rtps_report.proofs.late_row.count_lacking_before.Given as goal

-- those of the rows so far
abbrev pub invariant-loop-row : goal.invariant-loop-row
invariant-loop-row l =
    (l.count ≡ count_by (late_rows.lacks_before (talk.talk_value l.talk) l.from) (map explanation.explanation_value (take l.row-index l.rows)))
    × (l.count ≤ l.row-index)
