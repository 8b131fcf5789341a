use Rattle.std.proofs.Common.{◌≡◌, ◌∙◌, List, ℕ, ap, map, refl, rules, subst, sym, take_all, Bor}
use Rattle.std.specs.Cmp.Lexicographic.{slice_cmp}
use Rattle.std.specs.Ordering.{nat_cmp}
use Rattle.std.proofs.lemmas.Simd.{map-map}
use Rattle.std.proofs.lemmas.List.Sorted.{IsPermutation-map, answers_always}
use Rattle.rtps_policies.specs.Unmatched as unmatched
use Rattle.rtps_policies.specs.declared.unmatched.Unmatched.{Unmatched}
use Rattle.rtps_check.specs.TalkText as talk_text
use Rattle.rtps_report.proofs.Offered.{sorted_values, stable_values}
use Rattle.rtps_check.proofs.unmatched_block.unmatched_by_topic.Goals as goal

-- the same with this topic
abbrev with_topic : Bor Unmatched → List ℕ → Bor Unmatched
with_topic one topic =
    let writer = one.now.writer in
    record one { now = record one.now { writer = record writer { endpoint = record writer.endpoint { topic = record writer.endpoint.topic { now = topic } } } } }

pub returns : goal.returns
returns c =
    let refs = c.loop-one.sorted.items in
    let sorted = c.sort_by_key.new.self.items in
    let value : Bor Unmatched → unmatched.UnmatchedValue = λ one. unmatched.unmatched_value one.now in
    let all : map value refs ≡ map unmatched.unmatched_value c.args.unmatched.now =
    sym (map-map unmatched.unmatched_value (λ (one : Bor Unmatched). one.now) refs)
    ∙ ap (map unmatched.unmatched_value) (c.loop-one.invariant ∙ take_all c.loop-one.one-index c.args.unmatched.now c.loop-one-test.false) in
    subst (λ unmatched. talk_text.AreByTopic unmatched (map value sorted)) all
    (record {
      all = IsPermutation-map value refs sorted c.sort_by_key.ensures.permutation;
      by_topic = sorted_values talk_text.topic_cmp value sorted (c.in_ok-sort_by_key.ensures.sorted (λ one. one.now.writer.endpoint.topic) (answers_always _ _ _ (λ f a r g h. search rules)));
      in_order = stable_values (slice_cmp nat_cmp) (λ (one : unmatched.UnmatchedValue). one.writer.endpoint.topic) value with_topic (λ one topic. refl) refs sorted
          (c.in_ok-sort_by_key.ensures.stable (λ one. one.now.writer.endpoint.topic) (answers_always _ _ _ (λ f a r g h. search rules)));
    })
