use Rattle.rtps_report.proofs.EndLemmas.{told_more}
use Rattle.rtps_report.proofs.end.note_writer.Goals as goal

pub loop-placed-preserved : goal.loop-placed-preserved
loop-placed-preserved c = λ announcing before introduced were.
    told_more announcing before c.args.acts.now c.loop-placed.placed-index c.placed-item.result c.note.new.self c.loop-placed-test.true c.placed-item.is
    (c.in_ok-note.ensures announcing _ introduced (c.loop-placed.invariant announcing before introduced were))
