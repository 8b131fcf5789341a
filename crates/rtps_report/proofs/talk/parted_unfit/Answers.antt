use Rattle.std.proofs.Common.{◌≡◌, ◌++◌, ◌∷◌, ◌∙◌, [], Bool, List, ap, append-nil, arith, filter, length, map, not, refl, sym}
use Rattle.std.specs.Vec.Iter.{into_iter_items}
use Rattle.rtps_policies.specs.Unmatched as unmatched
use Rattle.rtps_policies.specs.declared.unmatched.Unmatched.{Unmatched}
use Rattle.rtps_report.specs.Talk as talk_spec
use Rattle.rtps_report.proofs.TalkLemmas.{parted_more}
use Rattle.rtps_report.proofs.talk.parted_unfit.Goals as goal

nothing_left : {X : Type 0} (xs : List X) → length xs ≡ 0 → xs ≡ []
nothing_left [] none = refl
nothing_left (x ∷ xs) none = absurd (omega arith)

pub loop-one-preserved : goal.loop-one-preserved
loop-one-preserved c =
    let at = c.loop-one in
    let one = c.in-Some.one in
    let left = into_iter_items c.next.new.self in
    let steps : into_iter_items at.one-iterator ≡ one ∷ left = c.in-Some.ensures.steps.0 in (
      omega (arith, at.invariant.0, c.in-Some.ensures.steps.1, ap length steps),
      λ intake index.
          let so_far = at.invariant.1 intake index in
          let talk = sym (c.acknowledges-talks.ensures intake index ∙ ap (talk_spec.talks intake) c.pair_of.ensures) in (
            parted_more unmatched.unmatched_value (λ (one : unmatched.UnmatchedValue). not (talk_spec.talks intake (unmatched.pair_of one))) at.parted.silent.items c.push.new.self.silent.items left one _ (not c.acknowledges-talks.result)
                (ap not talk) c.in_ok-push.ensures.silent
                (ap (λ (all : List Unmatched). map unmatched.unmatched_value at.parted.silent.items ++ filter (λ (one : unmatched.UnmatchedValue). not (talk_spec.talks intake (unmatched.pair_of one))) (map unmatched.unmatched_value all)) (sym steps) ∙ so_far.0),
            parted_more unmatched.unmatched_value (λ (one : unmatched.UnmatchedValue). talk_spec.talks intake (unmatched.pair_of one)) at.parted.talking.items c.push.new.self.talking.items left one _ c.acknowledges-talks.result
                talk c.in_ok-push.ensures.talking
                (ap (λ (all : List Unmatched). map unmatched.unmatched_value at.parted.talking.items ++ filter (λ (one : unmatched.UnmatchedValue). talk_spec.talks intake (unmatched.pair_of one)) (map unmatched.unmatched_value all)) (sym steps) ∙ so_far.1),
          ),
    )

pub returns : goal.returns
returns c = λ intake index.
    let at = c.loop-one in
    let none : into_iter_items at.one-iterator ≡ [] = nothing_left _ (sym at.invariant.0 ∙ c.in-None.ensures.steps.0) in
    let whole = at.invariant.1 intake index in
    let last = λ (test : unmatched.UnmatchedValue → Bool) (kept : List unmatched.UnmatchedValue). sym (append-nil kept) ∙ ap (λ (all : List Unmatched). kept ++ filter test (map unmatched.unmatched_value all)) (sym none) in (
      last (λ (one : unmatched.UnmatchedValue). not (talk_spec.talks intake (unmatched.pair_of one))) (map unmatched.unmatched_value at.parted.silent.items) ∙ whole.0,
      last (λ (one : unmatched.UnmatchedValue). talk_spec.talks intake (unmatched.pair_of one)) (map unmatched.unmatched_value at.parted.talking.items) ∙ whole.1,
    )
