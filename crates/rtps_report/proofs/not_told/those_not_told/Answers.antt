use Rattle.std.specs.BTreeSet.{contains}
use Rattle.rtps_discovery.specs.GuidOrder as guid_order
use Rattle.rtps_report.proofs.NotToldLemmas.{those_more}
use Rattle.rtps_report.proofs.not_told.those_not_told.Goals as goal

pub loop-one-preserved : goal.loop-one-preserved
loop-one-preserved c = λ guid.
    those_more c.args.found.now c.loop-one.one-index c.one-item.result guid (contains guid_order.guid_cmp c.loop-one.those guid) _ c.loop-one-test.true c.one-item.is
    (c.in_ok-insert.ensures.updates.0 guid) (c.loop-one.invariant guid)
