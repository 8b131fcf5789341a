use Rattle.std.proofs.Common.{◌∙◌, ap, nat_lt, pos, sym}
use Rattle.std.proofs.lemmas.List.{get_or_default}
use Rattle.rtps_audit.specs.declared.answer.Answer.{Answer}
use Rattle.rtps_audit.proofs.SaidLemmas.{not_before, one_kept}
use Rattle.rtps_audit.proofs.said_between.answers_before.Goals as goal

pub loop-place-preserved : goal.loop-place-preserved
loop-place-preserved c =
    let none : Answer = record { datagram = 0; at = 0; base = pos 0 } in
    one_kept (λ (at : Answer). nat_lt at.datagram c.args.datagram) c.args.answers.now c.loop-place.place none c.loop-place-test.true
    (sym c.is_answer_before.ensures ∙ c.if-not-is_answer_before.false) c.loop-place.invariant

pub returns-then-not-is_answer_before-clause-next : goal.returns-then-not-is_answer_before-clause-next
returns-then-not-is_answer_before-clause-next c = λ d lt.
    let none : Answer = record { datagram = 0; at = 0; base = pos 0 } in
    let other = get_or_default c.args.answers.now c.loop-place.place d none lt in
    not_before _ c.args.datagram (ap (λ (at : Answer). nat_lt at.datagram c.args.datagram) other ∙ sym c.is_answer_before.ensures ∙ c.if-not-is_answer_before.true)
