use Rattle.std.proofs.Common.{◌≡◌, ◌+◌, ◌-◌, ◌<◌, ap, arith, length}
use Rattle.std.proofs.lemmas.Bool.Decides.{nat_tests}
use Rattle.rtps_policies.specs.Sequences as sequences
use Rattle.rtps_policies.proofs.TextLemmas.{texts_none, texts_step}
use Rattle.rtps_policies.proofs.partition.are_texts.Goals as goal

pub loop-preserved : goal.loop-preserved
loop-preserved c =
    let step = texts_step (c.args.count - c.loop.counter) c.args.order c.loop.rest.now c.in-Some.field-0-0.now c.in-Some.behind.now (omega arith) c.in-Some.ensures.0 c.in-Some.ensures.1 in
    let less : c.args.count - c.loop.counter - 1 ≡ c.args.count - (c.loop.counter + 1) = omega arith in
    omega (arith, c.loop.invariant, step, ap (λ n. length (sequences.texts_in n c.args.order c.in-Some.behind.now)) less)

pub returns-in_default : goal.returns-in_default
returns-in_default c =
    let none = texts_none (c.args.count - c.loop.counter) c.args.order c.loop.rest.now (omega arith) c.in_default.ensures in
    let short : length (sequences.texts_in c.args.count c.args.order c.args.octets.now) < c.args.count = omega (arith, c.loop.invariant, ap length none) in
    grind (arith, nat_tests)
