use Rattle.std.proofs.lemmas.Grind.{common_steps}
use Rattle.std.proofs.lemmas.Bool.Decides.{nat_tests}
use Rattle.std.proofs.Common.{◌∙◌, ◌<◌, List, Some, ap, arith, length, pos, sym}
use Rattle.std.specs.Option.{option_map}
use Rattle.std.proofs.lemmas.Option.{slice_get-get_or}
use Rattle.rtps_audit.specs.declared.answer.Answer.{Answer}
use Rattle.rtps_evidence.specs.Questions as questions
use Rattle.rtps_evidence.specs.Waits as waits
use Rattle.rtps_evidence.proofs.WaitLemmas.{passed_none, passed_on}
use Rattle.rtps_evidence.proofs.waits.AnswerWalk.first_behind.Goals as goal
use Rattle.rtps_evidence.proofs.waits.AnswerWalk.first_behind.Goals.{then-precedes, else-precedes}

pub pass_answers-self-inside-requires : goal.pass_answers-self-inside-requires
pass_answers-self-inside-requires c = grind (arith, nat_tests, common_steps, then-precedes, passed_none, else-precedes, passed_on)

pub returns-clause-place : goal.returns-clause-place
returns-clause-place c =
    let none : Answer = record { datagram = 0; at = 0; base = pos 0 } in
    let answers = c.self.inside.answers.now in
    let next = c.pass_answers-self-inside.result in
    let lt : next < length answers = (let within = c.pass_answers-self-inside.ensures.passed.within in let apart = c.if-self.false in omega arith) in
    ap Some c.place_of.ensures
    ∙ sym (ap (λ (l : List Answer). waits.answered_at c.args.place l) (sym c.self.view_is) ∙ ap (option_map questions.place_of) (c.pass_answers-self-inside.ensures.next ∙ slice_get-get_or answers next none lt))
