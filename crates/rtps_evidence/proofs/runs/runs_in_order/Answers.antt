use Rattle.rtps_coverage.specs.declared.stretch.Stretch.{Stretch}
use Rattle.rtps_evidence.proofs.KindLemmas.{running_end, running_more}
use Rattle.rtps_evidence.proofs.runs.runs_in_order.Goals as goal

pub loop-stretch-preserved : goal.loop-stretch-preserved
loop-stretch-preserved c =
    let none : Stretch = record { lo = 0; hi = 0 } in
    running_more c.args.stretches.now c.args.from c.args.end c.loop-stretch.stretch-index c.loop-stretch.runs.items c.go_on.new.runs.items c.loop-stretch.run (record { lo = c.max-lo.result; hi = c.min-hi.result }) c.in_ok-run.run' none
    c.requires c.loop-stretch-test.true c.max-lo.ensures c.min-hi.ensures c.in_ok-run.ensures.at_hand c.in_ok-run.ensures.first c.loop-stretch.invariant

pub returns : goal.returns
returns c =
    running_end c.args.stretches.now c.args.from c.args.end c.loop-stretch.stretch-index c.loop-stretch.runs.items c.close.new.runs.items c.loop-stretch.run c.loop-stretch-test.false c.in_ok-close.ensures c.loop-stretch.invariant
