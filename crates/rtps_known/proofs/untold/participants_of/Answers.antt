use Rattle.rtps_known.proofs.UntoldLemmas.{participants_more}
use Rattle.rtps_known.proofs.untold.participants_of.Goals as goal

pub loop-life-preserved : goal.loop-life-preserved
loop-life-preserved c = λ prefix.
    participants_more c.args.lives.now c.loop-life.life-index _ c.loop-life.participants c.insert.new.self prefix c.loop-life-test.true (c.in_ok-insert.ensures.updates.0 prefix)
    (c.loop-life.invariant prefix)
