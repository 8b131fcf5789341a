use Rattle.std.proofs.Common.{◌≡◌, map, take}
use Rattle.rtps_report.specs.Events.{event_value}
use Rattle.rtps_report.specs.Talk.{talk_value}
use Rattle.rtps_json.specs.EventMembers.{event_json}
use Rattle.rtps_json.specs.JsonText.{clock_times}
use Rattle.rtps_json.specs.Values.{items_json}
use Rattle.rtps_json.proofs.event_members.events_member.Given as goal

abbrev pub invariant-loop-event : goal.invariant-loop-event
invariant-loop-event l = items_json l.values.items ≡ map (event_json (clock_times l.clock) (talk_value l.talk)) (map event_value (take l.event-index l.events))
