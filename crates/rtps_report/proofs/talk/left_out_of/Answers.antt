use Rattle.std.proofs.Common.{◌∙◌, [], false, get_or, refl}
use Rattle.rtps_discovery.specs.declared.matching.Match.{Match}
use Rattle.rtps_ids.specs.declared.identity.Guid.{Guid}
use Rattle.rtps_report.specs.Asked as asked
use Rattle.rtps_who.specs.Recorded as recorded
use Rattle.rtps_report.specs.Rows as rows
use Rattle.rtps_report.specs.Talk as talk_spec
use Rattle.rtps_report.specs.declared.talk.LeftOut.{LeftOut}
use Rattle.rtps_report.proofs.TalkLemmas.{left_by_topic, left_is, made_more, made_skip}
use Rattle.rtps_report.proofs.talk.left_out_of.Goals as goal
use Rattle.rtps_report.proofs.talk.left_out_of.Goals.{then-is_left_out+in_ok-push, else-is_left_out}

pub loop-found-preserved : goal.loop-found-preserved
loop-found-preserved c =
    let talk = c.args.talk.now in
    let asked = asked.asked_value c.args.read.now.asked.now in
    let chosen = rows.chosen_by asked (recorded.node_in talk.who) in
    let entries = c.args.read.now.directory.now.endpoints in
    let test = talk_spec.is_left_out_of talk.unfit talk.namings chosen entries in
    let nobody : Guid = record { prefix = record { 0 = [] }; entity = record { 0 = [] } } in
    let none : Match = record { pair = record { writer = nobody; reader = nobody }; reliable = false } in
    let found = get_or c.args.matched.now c.loop-found.found-index none in
    let one : LeftOut = record { topic = c.topic_of-topic.result; pair = found.pair } in
    let by_topic = left_by_topic talk.unfit talk.namings chosen found c.topic_of-topic.result.now _ c.is_left_out.result c.topic_of-topic.ensures c.is_left_out.ensures in
    elim c.if-is_left_out.branch [
      | then-is_left_out+in_ok-push w ↦
          rw w.left-is
          (made_more talk_spec.left_out_value (talk_spec.left_out_of entries) test c.args.matched.now c.loop-found.left.items _ c.loop-found.found-index none one c.loop-found-test.true
          (by_topic ∙ w.if-is_left_out.true) w.in_ok-push.ensures.items (left_is entries found one c.topic_of-topic.ensures refl) c.loop-found.invariant)
      | else-is_left_out w ↦
          rw w.left-is (made_skip (talk_spec.left_out_of entries) test c.args.matched.now _ c.loop-found.found-index none c.loop-found-test.true (by_topic ∙ w.if-is_left_out.false) c.loop-found.invariant)
    ]
