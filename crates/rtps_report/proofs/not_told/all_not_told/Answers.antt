use Rattle.rtps_report.specs.NotTold as not_told
use Rattle.rtps_report.proofs.NotToldLemmas.{made_more}
use Rattle.rtps_report.proofs.not_told.all_not_told.Goals as goal

pub loop-untold-preserved : goal.loop-untold-preserved
loop-untold-preserved c =
    made_more not_told.not_told_value (not_told.not_told_by c.args.directory.now.endpoints) c.args.all.now c.loop-untold.found.items c.push.new.self.items c.loop-untold.untold-index c.untold-item.result
    c.in_ok-one.one c.loop-untold-test.true c.untold-item.is c.in_ok-push.ensures.items c.in_ok-one.ensures c.loop-untold.invariant
