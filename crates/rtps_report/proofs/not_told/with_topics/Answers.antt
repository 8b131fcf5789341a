use Rattle.std.proofs.Common.{refl}
use Rattle.rtps_report.proofs.NotToldLemmas.{ends_more}
use Rattle.rtps_report.proofs.not_told.with_topics.Goals as goal

pub loop-guid-preserved : goal.loop-guid-preserved
loop-guid-preserved c =
    ends_more c.args.directory.now.endpoints c.args.guids.now c.loop-guid.ends.items c.push.new.self.items c.loop-guid.guid-index _ _ c.loop-guid-test.true c.in_ok-push.ensures.items refl
    c.topic_of-topic.ensures c.loop-guid.invariant
