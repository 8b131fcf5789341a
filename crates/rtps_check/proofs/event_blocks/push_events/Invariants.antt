use Rattle.std.proofs.Common.{◌≡◌, ◌++◌, map, take, flat_map, string_bytes}
use Rattle.rtps_evidence.specs.Explanation as explanation
use Rattle.rtps_report.specs.Events as events
use Rattle.rtps_check.specs.CheckText as check_text
use Rattle.rtps_check.proofs.event_blocks.push_events.Given as goal

abbrev pub invariant-loop-event : goal.invariant-loop-event
invariant-loop-event l =
    string_bytes l.text ≡ string_bytes l.initial.text
    ++ flat_map (check_text.event_block (check_text.row_told l.told) (map explanation.explanation_value l.fn.rows)) (map events.event_value (take l.event-index l.events))
