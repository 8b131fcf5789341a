use Rattle.std.proofs.Common.{get_or}
use Rattle.std.proofs.lemmas.List.{get_or_default}
use Rattle.rtps_coverage.specs.declared.stretch.Stretch.{Stretch}
use Rattle.rtps_coverage.proofs.RisingLemmas.{risen_more}
use Rattle.rtps_coverage.proofs.rising.rise.Goals as goal

pub loop-stretch-preserved : goal.loop-stretch-preserved
loop-stretch-preserved c =
    let none : Stretch = record { lo = 0; hi = 0 } in
    let x : Stretch = get_or c.args.stretches.now c.loop-stretch.stretch-index none in
    risen_more c.args.stretches.now c.loop-stretch.stretch-index c.loop-stretch.hi c.loop-stretch.rising.items c.push.new.self.items x c.max-hi.result c.requires c.loop-stretch-test.true
    (get_or_default c.args.stretches.now c.loop-stretch.stretch-index none x c.loop-stretch-test.true) c.in_ok-push.ensures.items c.max-hi.ensures c.loop-stretch.invariant
