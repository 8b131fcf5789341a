use Rattle.std.proofs.Common.{◌∙◌, ◌++◌, ◌∷◌, [], ap, arith, subst, sym, take}
use Rattle.std.specs.List.{All}
use Rattle.std.proofs.lemmas.List.{take_all, take_more}
use Rattle.std.proofs.lemmas.List.Elements.{All-push}
use Rattle.rtps_passes.specs.Judging as judging
use Rattle.rtps_passes.specs.declared.judged_writer.JudgedWriter.{JudgedWriter}
use Rattle.rtps_passes.proofs.judging.Judging.has_questions.Goals as goal

pub loop-judged-preserved : goal.loop-judged-preserved
loop-judged-preserved c =
    let writers = c.deref-judged-items.result.now in
    let k = c.loop-judged.judged-index in
    let one = c.judged-item.result in
    let next = take_more writers k one c.loop-judged-test.true ∙ ap (λ (w : JudgedWriter). take k writers ++ w ∷ []) (sym c.judged-item.is) in
    let none = c.if-has_questions.false in
    subst (All judging.HasNoQuestions) (sym next) (All-push judging.HasNoQuestions (take k writers) one c.loop-judged.invariant (record { again = c.has_questions.ensures.again none; last = c.has_questions.ensures.last none }))

pub returns : goal.returns
returns c = λ none.
    subst (All judging.HasNoQuestions) (take_all c.loop-judged.judged-index c.deref-judged-items.result.now (omega (arith, c.loop-judged-test.false)) ∙ c.deref-judged-items.ensures.value) c.loop-judged.invariant
