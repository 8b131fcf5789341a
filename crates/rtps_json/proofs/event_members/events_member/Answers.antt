use Rattle.rtps_report.specs.Events.{event_value}
use Rattle.rtps_report.specs.Talk.{talk_value}
use Rattle.rtps_json.specs.EventMembers.{event_json}
use Rattle.rtps_json.specs.JsonText.{clock_times}
use Rattle.rtps_json.proofs.ValueLemmas.{view_more}
use Rattle.rtps_json.proofs.event_members.events_member.Goals as goal

pub loop-event-preserved : goal.loop-event-preserved
loop-event-preserved c =
    view_more (event_json (clock_times c.args.clock) (talk_value c.args.talk.now)) event_value c.args.events.now c.loop-event.event-index c.event-item.result c.event-item.result c.loop-event.values.items c.push.new.self.items c.in_ok-event_object.field-0
    c.loop-event-test.true c.event-item.is c.loop-event.invariant c.in_ok-event_object.ensures c.in_ok-push.ensures.items
