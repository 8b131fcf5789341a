use Rattle.std.proofs.Common.{◌≡◌, ◌∙◌, Bor, List, ℕ, ap, filter, map, refl, rules, subst, take_all}
use Rattle.std.specs.Cmp.Lexicographic.{slice_cmp}
use Rattle.std.specs.Ordering.{nat_cmp}
use Rattle.std.proofs.lemmas.List.Sorted.{IsPermutation-map, answers_always}
use Rattle.rtps_report.specs.BestEfforts as best_efforts
use Rattle.rtps_report.specs.declared.best_effort.HeldPair.{HeldPair}
use Rattle.rtps_check.specs.ArrivedText as arrived_text
use Rattle.rtps_report.proofs.Offered.{sorted_values, stable_values}
use Rattle.rtps_check.proofs.arrived_block.lossy_by_topic.Goals as goal

-- the same with this topic
abbrev with_topic : Bor HeldPair → List ℕ → Bor HeldPair
with_topic one topic = record one { now = record one.now { topic = record one.now.topic { now = topic } } }

pub returns : goal.returns
returns c =
    let refs = c.loop-one.sorted.items in
    let sorted = c.sort_by_key.new.self.items in
    let value : Bor HeldPair → best_efforts.HeldValue = λ one. best_efforts.held_value one.now in
    let all : map value refs ≡ filter arrived_text.is_lossy (map best_efforts.held_value c.args.held.now) =
    c.loop-one.invariant ∙ ap (λ (pairs : List HeldPair). filter arrived_text.is_lossy (map best_efforts.held_value pairs)) (take_all c.loop-one.one-index c.args.held.now c.loop-one-test.false) in
    subst (λ lossy. arrived_text.AreByTopic lossy (map value sorted)) all
    (record {
      all = IsPermutation-map value refs sorted c.sort_by_key.ensures.permutation;
      by_topic = sorted_values arrived_text.topic_cmp value sorted (c.in_ok-sort_by_key.ensures.sorted (λ one. one.now.topic) (answers_always _ _ _ (λ f a r g h. search rules)));
      in_order = stable_values (slice_cmp nat_cmp) (λ (one : best_efforts.HeldValue). one.topic) value with_topic (λ one topic. refl) refs sorted
          (c.in_ok-sort_by_key.ensures.stable (λ one. one.now.topic) (answers_always _ _ _ (λ f a r g h. search rules)));
    })
