use Rattle.std.proofs.lemmas.Grind.{common_steps}
use Rattle.std.proofs.lemmas.Bool.Decides.{nat_tests}
use Rattle.std.proofs.Common.{◌∙◌, ap, arith, sym, take, None}
use Rattle.std.specs.Prelude.{slice_get}
use Rattle.std.specs.List.{find, last_or}
use Rattle.rtps_evidence.specs.CountedAnswers as counted_answers
use Rattle.rtps_evidence.proofs.LackLemmas.{before_is_taken, passed_counted_none, passed_counted_on}
use Rattle.rtps_evidence.proofs.lost_answers.LostAnswers.lacks_around.Goals as goal
use Rattle.rtps_evidence.proofs.lost_answers.LostAnswers.lacks_around.Goals.{then-precedes, else-precedes}

pub pass_counted-self-inside-requires : goal.pass_counted-self-inside-requires
pass_counted-self-inside-requires c = grind (arith, nat_tests, common_steps, then-precedes, passed_counted_none, else-precedes, passed_counted_on)

pub returns-clause-lacks : goal.returns-clause-lacks
returns-clause-lacks c =
    let place = c.args.place in
    let counted = c.deref.result.now in
    let next = c.pass_counted-self-inside.result in
    let found = c.pass_counted-self-inside.ensures.next in
    c.lacks_before.ensures
    ∙ ap (λ l. counted_answers.lacks_counted (last_or None (take next l)) (slice_get l next)) (c.deref-2.ensures.value ∙ sym c.deref.ensures.value)
    ∙ sym (ap (λ l. counted_answers.lacks_counted (last_or None l) (find (counted_answers.stands_behind place) counted)) (before_is_taken (counted_answers.stands_behind place) counted next c.pass_counted-self-inside.ensures.passed.none found) ∙ ap (counted_answers.lacks_counted (last_or None (take next counted))) found)
    ∙ ap (λ l. counted_answers.lacks_among l place) (c.deref.ensures.value ∙ c.self.view_is)
