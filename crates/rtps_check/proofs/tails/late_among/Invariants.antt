use Rattle.std.proofs.Common.{◌≡◌, filter, map, take}
use Rattle.rtps_evidence.specs.Explanation as explanation
use Rattle.rtps_report.specs.LateRows as late_rows
use Rattle.rtps_report.specs.Talk as talk
use Rattle.rtps_check.proofs.tails.late_among.Given as goal

-- those among the rows so far
abbrev pub invariant-loop-row : goal.invariant-loop-row
invariant-loop-row l =
    map explanation.explanation_value l.late.items ≡ filter (late_rows.is_late_alone (talk.talk_value l.talk) l.from) (map explanation.explanation_value (take l.row-index l.rows))
