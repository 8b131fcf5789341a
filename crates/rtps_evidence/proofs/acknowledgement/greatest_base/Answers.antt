use Rattle.std.proofs.Common.{arith, pos}
use Rattle.rtps_receiver.specs.Said as said
use Rattle.rtps_audit.specs.declared.answer.Answer.{Answer}
use Rattle.rtps_evidence.proofs.FindLemmas.{greatest_of_each}
use Rattle.rtps_evidence.proofs.acknowledgement.greatest_base.Goals as goal

pub loop-answer-preserved : goal.loop-answer-preserved
loop-answer-preserved c =
    let none : Answer = record { datagram = 0; at = 0; base = pos 0 } in
    let past = greatest_of_each (λ (answer : Answer). said.natural answer.base) c.args.answers.now c.loop-answer.answer-index none c.loop-answer-test.true in
    let said = c.natural_base.ensures.value in
    let small = c.natural_base.ensures.in_range in
    let so_far = c.loop-answer.invariant.value in
    let low = c.loop-answer.invariant.in_range in
    let is = c.max-greatest.ensures in
    record { value = omega arith; in_range = omega arith }
