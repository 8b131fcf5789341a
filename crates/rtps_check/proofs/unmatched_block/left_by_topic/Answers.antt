use Rattle.std.proofs.Common.{List, ℕ, map, refl, rules, subst}
use Rattle.std.specs.Cmp.Lexicographic.{slice_cmp}
use Rattle.std.specs.Ordering.{nat_cmp}
use Rattle.std.proofs.lemmas.List.Sorted.{IsPermutation-map, answers_always}
use Rattle.rtps_report.specs.Talk as talk
use Rattle.rtps_report.specs.declared.talk.LeftOut.{LeftOut}
use Rattle.rtps_check.specs.TalkText as talk_text
use Rattle.rtps_report.proofs.Offered.{sorted_values, stable_values}
use Rattle.rtps_check.proofs.unmatched_block.left_by_topic.Goals as goal

-- the same with this topic
abbrev with_topic : LeftOut → List ℕ → LeftOut
with_topic one topic = record one { topic = record one.topic { now = topic } }

pub returns : goal.returns
returns c =
    let items = c.in_ok-sorted.sorted.items in
    let sorted = c.sort_by_key.new.self.items in
    subst (λ (left : List LeftOut). talk_text.AreLeftByTopic (map talk.left_out_value left) (map talk.left_out_value sorted)) c.in_ok-sorted.ensures.items
    (record {
      all = IsPermutation-map talk.left_out_value items sorted c.sort_by_key.ensures.permutation;
      by_topic = sorted_values talk_text.left_cmp talk.left_out_value sorted (c.in_ok-sort_by_key.ensures.sorted (λ one. one.topic) (answers_always _ _ _ (λ f a r g h. search rules)));
      in_order = stable_values (slice_cmp nat_cmp) (λ (one : talk.LeftOutValue). one.topic) talk.left_out_value with_topic (λ one topic. refl) items sorted
          (c.in_ok-sort_by_key.ensures.stable (λ one. one.topic) (answers_always _ _ _ (λ f a r g h. search rules)));
    })
