use Rattle.std.proofs.Common.{◌≡◌, Bor, ◌++◌, ◌∷◌, ◌∙◌, [], List, None, ap, append-nil, arith, length, map, option_copied, string_bytes, sym}
use Rattle.std.specs.Vec.Iter.{into_iter_items}
use Rattle.rtps_report.specs.BestEfforts as best_efforts
use Rattle.rtps_report.specs.declared.best_effort.HeldPair.{HeldPair}
use Rattle.rtps_report.specs.Talk as talk
use Rattle.rtps_check.specs.ArrivedText as arrived_text
use Rattle.rtps_check.proofs.ArrivedLemmas.{nothing_left, pairs_more}
use Rattle.rtps_check.proofs.arrived_block.push_pairs.Goals as goal

pub loop-one-preserved : goal.loop-one-preserved
loop-one-preserved c =
    let at = c.loop-one in
    let ends = (talk.talk_value c.args.talk.now).ends in
    let one = c.in-Some.one in
    let left = into_iter_items c.next.new.self in
    let values : List (Bor HeldPair) → List best_efforts.HeldValue = map (λ (one : Bor HeldPair). best_efforts.held_value one.now) in
    let before = option_copied at.before in
    let steps : into_iter_items at.one-iterator ≡ one ∷ left = c.in-Some.ensures.steps.0 in
    let so_far : string_bytes at.text ++ arrived_text.lossy_pairs ends before (values (one ∷ left)) ≡ string_bytes c.args.text.now ++ arrived_text.lossy_pairs ends None (values c.args.sorted.items) = ap (λ all. string_bytes at.text ++ arrived_text.lossy_pairs ends before (values all)) (sym steps) ∙ at.invariant.1 in (
      omega (arith, at.invariant.0, c.in-Some.ensures.steps.1, ap length steps),
      pairs_more ends before (best_efforts.held_value one.now) (values left) (string_bytes at.text) (string_bytes c.push_topic.new.text) (string_bytes c.push_pair.new.text) _ so_far c.in_ok-push_topic.ensures
          c.in_ok-push_pair.ensures,
    )

pub returns : goal.returns
returns c =
    let at = c.loop-one in
    let ends = (talk.talk_value c.args.talk.now).ends in
    let values : List (Bor HeldPair) → List best_efforts.HeldValue = map (λ (one : Bor HeldPair). best_efforts.held_value one.now) in
    let none : into_iter_items at.one-iterator ≡ [] = nothing_left _ (sym at.invariant.0 ∙ c.in-None.ensures.steps.0) in
    sym (append-nil (string_bytes at.text)) ∙ ap (λ all. string_bytes at.text ++ arrived_text.lossy_pairs ends (option_copied at.before) (values all)) (sym none) ∙ at.invariant.1
