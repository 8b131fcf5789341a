use Rattle.std.proofs.Common.{◌≡◌, ◌∙◌, sym, pos, rules, arith, to_z, of_z, w64}
use Rattle.std.proofs.lemmas.Int.{ints}
use Rattle.rtps_audit.proofs.PlacedLemmas.{answer_read}
use Rattle.rtps_receiver.specs.Values as values
use Rattle.rtps_audit.proofs.answer.answer_in.Goals as goal

pub returns-clause-answer : goal.returns-clause-answer
returns-clause-answer c = λ pair.
    let number : to_z w64 (of_z w64 c.base.result) ≡ pos c.in-Act-AckNack.ack_nack.set.base = omega (arith, ints, c.base.ensures) in
    answer_read c.args.datagram (values.spoken_value c.args.act.now) c.in-Act-AckNack.ack_nack c.in_ok-answered.field-0 c.origin.result pair _ (search rules) (sym c.answered.ensures.value ∙ c.in_ok-answered.was) c.origin.ensures number
