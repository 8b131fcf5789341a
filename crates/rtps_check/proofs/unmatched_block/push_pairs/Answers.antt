use Rattle.std.proofs.Common.{◌≡◌, Bor, ◌++◌, ◌∷◌, ◌∙◌, [], List, None, ap, append-nil, arith, length, map, option_copied, refl, string_bytes, sym}
use Rattle.std.specs.Vec.Iter.{into_iter_items}
use Rattle.rtps_policies.specs.Unmatched as unmatched
use Rattle.rtps_policies.specs.declared.unmatched.Unmatched.{Unmatched}
use Rattle.rtps_report.specs.Talk as talk
use Rattle.rtps_check.specs.TalkText as talk_text
use Rattle.rtps_check.proofs.UnmatchedLemmas.{pairs_more}
use Rattle.rtps_check.proofs.unmatched_block.push_pairs.Goals as goal

nothing_left : {X : Type 0} (xs : List X) → length xs ≡ 0 → xs ≡ []
nothing_left [] none = refl
nothing_left (x ∷ xs) none = absurd (omega arith)

pub loop-one-preserved : goal.loop-one-preserved
loop-one-preserved c =
    let at = c.loop-one in
    let ends = (talk.talk_value c.args.talk.now).ends in
    let one = c.in-Some.one in
    let left = into_iter_items c.next.new.self in
    let values : List (Bor Unmatched) → List unmatched.UnmatchedValue = map (λ (one : Bor Unmatched). unmatched.unmatched_value one.now) in
    let before = option_copied at.before in
    let steps : into_iter_items at.one-iterator ≡ one ∷ left = c.in-Some.ensures.steps.0 in
    let so_far : string_bytes at.text ++ talk_text.unmatched_pairs ends before (values (one ∷ left)) ≡ string_bytes c.args.text.now ++ talk_text.unmatched_pairs ends None (values c.args.sorted.items) = ap (λ all. string_bytes at.text ++ talk_text.unmatched_pairs ends before (values all)) (sym steps) ∙ at.invariant.1 in (
      omega (arith, at.invariant.0, c.in-Some.ensures.steps.1, ap length steps),
      pairs_more ends before (unmatched.unmatched_value one.now) (values left) (string_bytes at.text) (string_bytes c.push_topic.new.text) (string_bytes c.push_pair.new.text) _ so_far
          c.in_ok-push_topic.ensures c.in_ok-push_pair.ensures,
    )

pub returns : goal.returns
returns c =
    let at = c.loop-one in
    let ends = (talk.talk_value c.args.talk.now).ends in
    let values : List (Bor Unmatched) → List unmatched.UnmatchedValue = map (λ (one : Bor Unmatched). unmatched.unmatched_value one.now) in
    let none : into_iter_items at.one-iterator ≡ [] = nothing_left _ (sym at.invariant.0 ∙ c.in-None.ensures.steps.0) in
    sym (append-nil (string_bytes at.text)) ∙ ap (λ all. string_bytes at.text ++ talk_text.unmatched_pairs ends (option_copied at.before) (values all)) (sym none) ∙ at.invariant.1
