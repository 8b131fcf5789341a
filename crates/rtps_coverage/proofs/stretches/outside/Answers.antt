use Rattle.std.proofs.Common.{arith}
use Rattle.rtps_coverage.specs.declared.stretch.Stretch.{Stretch}
use Rattle.rtps_coverage.proofs.OutsideLemmas.{rest_end, rest_more}
use Rattle.rtps_coverage.proofs.stretches.outside.Goals as goal

pub loop-stretch-preserved : goal.loop-stretch-preserved
loop-stretch-preserved c =
    let none : Stretch = record { lo = 0; hi = 0 } in
    rest_more c.args.stretches.now c.args.from c.loop-stretch.stretch-index c.loop-stretch.at c.loop-stretch.rest.items c.push.new.self.items none c.max-at.result c.requires c.loop-stretch-test.true c.in_ok-push.ensures.items
    (let one = c.max.ensures in let two = c.max-at.ensures in omega (arith, one, two)) c.loop-stretch.invariant

pub returns : goal.returns
returns c = λ n low high.
    rest_end c.args.stretches.now c.args.from c.args.end c.loop-stretch.stretch-index c.loop-stretch.at c.loop-stretch.rest.items _ c.loop-stretch-test.false c.in_ok-push-2.ensures.items c.loop-stretch.invariant n low high
