use Rattle.rtps_coverage.specs.declared.stretch.Stretch.{Stretch}
use Rattle.rtps_coverage.proofs.CountLemmas.{counted_end, counted_no_stretch, counted_stretch}
use Rattle.rtps_coverage.proofs.stretches.count_in_order.Goals as goal
use Rattle.rtps_coverage.proofs.stretches.count_in_order.Goals.{then-lo-hi, else-lo-hi}

pub loop-stretch-preserved : goal.loop-stretch-preserved
loop-stretch-preserved c =
    let none : Stretch = record { lo = 0; hi = 0 } in
    elim c.if-lo-hi.branch [
      | then-lo-hi w ↦ rw (w.reached-is, w.count-is) (counted_stretch c.args.stretches.now c.args.from c.args.end c.loop-stretch.stretch-index c.loop-stretch.reached c.loop-stretch.count none c.max-lo.result c.min-hi.result c.requires.sorted c.loop-stretch-test.true c.loop-stretch.invariant c.max-lo.ensures c.min-hi.ensures w.if-lo-hi.true)
      | else-lo-hi w ↦ rw (w.reached-is, w.count-is) (counted_no_stretch c.args.stretches.now c.args.from c.args.end c.loop-stretch.stretch-index c.loop-stretch.reached c.loop-stretch.count none c.max-lo.result c.min-hi.result c.loop-stretch-test.true c.loop-stretch.invariant c.max-lo.ensures c.min-hi.ensures w.if-lo-hi.false)
    ]

pub returns : goal.returns
returns c = counted_end c.args.stretches.now c.args.from c.args.end c.loop-stretch.stretch-index c.loop-stretch.reached c.loop-stretch.count c.loop-stretch-test.false c.loop-stretch.invariant
