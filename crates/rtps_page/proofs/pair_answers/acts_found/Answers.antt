use Rattle.std.proofs.Common.{◌≡◌, ◌<◌, ◌+◌, ◌++◌, ◌∷◌, [], ◌∙◌, List, true, ap, arith, length, map, subst, sym}
use Rattle.std.proofs.lemmas.List.{get_or_read, length-map, length_push, map-append}
use Rattle.rtps_receiver.specs.Speech as speech
use Rattle.rtps_audit.specs.Placed as placed
use Rattle.rtps_audit.specs.declared.placed.Placed.{Placed}
use Rattle.rtps_page.proofs.AnswerLemmas.{AreFound, all_found, found_more}
use Rattle.rtps_page.proofs.pair_answers.acts_found.Goals as goal

pub loop-answer-preserved : goal.loop-answer-preserved
loop-answer-preserved c =
    let acts = c.args.acts.now in
    let pair = c.args.pair in
    let found = c.loop-answer.found.items in
    let place = c.place_for-place.result in
    let x = c.index-acts-place-in-loop-answer.result in
    let lt : place < length acts = omega (arith, c.if-place-acts.false) in
    let same = get_or_read acts place x lt c.index-acts-place-in-loop-answer.is c.index-acts-place.result in
    let answers : speech.is_answer (placed.placed_value x).act pair.reader pair.writer ≡ true =
    ap (λ (y : Placed). speech.is_answer (placed.placed_value y).act pair.reader pair.writer) same ∙ sym c.answers.ensures.test ∙ c.if-not-answers.false in
    let items : c.extend_from_slice.new.self.items ≡ found ++ x ∷ [] = c.in_ok-extend_from_slice.ensures.items ∙ ap (λ (l : List Placed). found ++ l) c.from_ref.ensures.value in
    record {
      within = omega (arith, lt);
      count = omega (arith, ap length items, length_push found x, c.loop-answer.invariant.count);
      are = subst (AreFound pair acts (place + 1)) (sym (ap (λ (l : List Placed). map placed.placed_value l) items ∙ map-append placed.placed_value found (x ∷ [])))
          (found_more pair acts c.loop-answer.next place x (map placed.placed_value found) c.loop-answer.invariant.are c.place_for-place.ensures.within.0 lt c.index-acts-place-in-loop-answer.is answers);
    }

pub returns : goal.returns
returns c = λ long.
    let found = c.loop-answer.found.items in
    let end : c.loop-answer.answer-index ≡ length c.args.answers.now = omega (arith, c.loop-answer-test.false, c.loop-answer.auto.answer-index-end) in
    all_found c.args.pair c.args.acts.now c.loop-answer.next (map placed.placed_value found) c.loop-answer.invariant.are (length-map found placed.placed_value ∙ c.loop-answer.invariant.count ∙ end ∙ long)
