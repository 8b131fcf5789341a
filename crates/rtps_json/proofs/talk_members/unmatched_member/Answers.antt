use Rattle.rtps_policies.specs.Unmatched.{unmatched_value}
use Rattle.rtps_json.specs.TalkMembers.{unmatched_json}
use Rattle.rtps_json.proofs.ValueLemmas.{view_more}
use Rattle.rtps_json.proofs.talk_members.unmatched_member.Goals as goal

pub loop-one-preserved : goal.loop-one-preserved
loop-one-preserved c =
    view_more unmatched_json unmatched_value c.args.unmatched.now c.loop-one.one-index c.one-item.result c.one-item.result c.loop-one.values.items c.push.new.self.items c.in_ok-unmatched_object.field-0
    c.loop-one-test.true c.one-item.is c.loop-one.invariant c.in_ok-unmatched_object.ensures c.in_ok-push.ensures.items
