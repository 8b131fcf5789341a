use Rattle.std.proofs.Common.{map, take}
use Rattle.rtps_evidence.specs.Explanation as explanation
use Rattle.rtps_report.specs.Events as events
use Rattle.rtps_report.specs.Talk as talk
use Rattle.rtps_report.proofs.event_rows.EventRows.of.Given as goal

-- those of the rows so far
abbrev pub invariant-loop-row : goal.invariant-loop-row
invariant-loop-row l = events.AreEventRows (talk.talk_value l.talk) l.tail (map explanation.explanation_value (take l.row-index l.rows)) l.found
