use Rattle.rtps_report.proofs.EndLemmas.{introduced_more}
use Rattle.rtps_report.proofs.end.introductions_of.Goals as goal

pub loop-placed-preserved : goal.loop-placed-preserved
loop-placed-preserved c =
    introduced_more c.args.announcements.now c.loop-placed.placed-index c.placed-item.result c.note.new.self c.loop-placed-test.true c.placed-item.is (c.in_ok-note.ensures _ c.loop-placed.invariant)
