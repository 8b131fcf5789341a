use Rattle.rtps_report.proofs.TalkLemmas.{announced_more}
use Rattle.rtps_report.proofs.talk.announced_in.Goals as goal

pub loop-placed-preserved : goal.loop-placed-preserved
loop-placed-preserved c =
    announced_more c.args.announcements.now c.loop-placed.placed-index c.placed-item.result c.note.new.self c.loop-placed-test.true c.placed-item.is (c.in_ok-note.ensures.ok _ c.loop-placed.invariant)
