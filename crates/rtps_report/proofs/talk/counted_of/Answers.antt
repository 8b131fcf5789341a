use Rattle.std.proofs.Common.{◌∙◌, List, filter, map, refl, subst}
use Rattle.std.proofs.lemmas.List.{take_all}
use Rattle.rtps_discovery.specs.declared.matching.Match.{Match}
use Rattle.rtps_evidence.specs.Recorded as evidence_recorded
use Rattle.rtps_evidence.specs.declared.exchange.Extent.{Extent}
use Rattle.rtps_report.specs.Asked as asked
use Rattle.rtps_who.specs.Recorded as who_recorded
use Rattle.rtps_report.specs.Rows as rows
use Rattle.rtps_report.specs.BestEfforts as best_efforts
use Rattle.rtps_report.specs.Talk as talk_spec
use Rattle.rtps_report.proofs.TalkLemmas.{counted_by_topic, counted_more, counted_skip}
use Rattle.rtps_report.proofs.talk.counted_of.Goals as goal
use Rattle.rtps_report.proofs.talk.counted_of.Goals.{then-is_counted+in_ok-recorded+in_ok-arrived+in_ok-push, else-is_counted}

pub loop-found-preserved : goal.loop-found-preserved
loop-found-preserved c = λ intake other index beside.
    let talk = c.args.talk.now in
    let asked = asked.asked_value c.args.read.now.asked.now in
    let chosen = rows.chosen_by asked (who_recorded.node_in talk.who) in
    let entries = c.args.read.now.directory.now.endpoints in
    let test = talk_spec.is_counted_of talk.unfit talk.namings chosen entries in
    let by_topic = counted_by_topic talk.unfit talk.namings chosen _ c.topic_of-topic.result.now _ c.is_counted.result c.topic_of-topic.ensures c.is_counted.ensures in
    elim c.if-is_counted.branch [
      | then-is_counted+in_ok-recorded+in_ok-arrived+in_ok-push w ↦
          rw w.counted-is
          (counted_more asked other intake entries test c.args.matched.now c.loop-found.counted.items _ c.loop-found.found-index _ _ c.loop-found-test.true
          (by_topic ∙ w.if-is_counted.true) w.in_ok-push.ensures.items c.topic_of-topic.ensures
          (record {
            of_pair = refl;
            recorded = subst (λ (extent : Extent). evidence_recorded.IsRecordedBy extent.in_spans extent.from _ intake w.in_ok-recorded.recorded) w.extent.ensures (w.in_ok-recorded.ensures intake index);
            arrived = subst (λ (extent : Extent). evidence_recorded.IsArrivedBy extent.in_spans extent.from other _ intake w.in_ok-arrived.arrived) w.extent-then-is_counted.ensures
                (w.in_ok-arrived.ensures intake (record { other = other; times = c.args.read.now.times.now.of_datagrams }) (record { index = index; other = beside; times = refl }));
          })
          (c.loop-found.invariant intake other index beside))
      | else-is_counted w ↦
          rw w.counted-is
          (counted_skip asked other intake entries test c.args.matched.now _ c.loop-found.found-index _ c.loop-found-test.true (by_topic ∙ w.if-is_counted.false) (c.loop-found.invariant intake other index beside))
    ]

pub returns : goal.returns
returns c = λ intake other index beside.
    let asked = asked.asked_value c.args.read.now.asked.now in
    let entries = c.args.read.now.directory.now.endpoints in
    let test = talk_spec.is_counted_of c.args.talk.now.unfit c.args.talk.now.namings (rows.chosen_by asked (who_recorded.node_in c.args.talk.now.who)) entries in
    subst (λ (those : List Match). talk_spec.AreCounted asked other intake entries (filter test those) (map best_efforts.counted_value c.loop-found.counted.items))
    (take_all c.loop-found.found-index c.args.matched.now c.loop-found-test.false) (c.loop-found.invariant intake other index beside)
