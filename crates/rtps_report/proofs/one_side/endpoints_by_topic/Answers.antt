use Rattle.std.proofs.Common.{rules, subst}
use Rattle.std.proofs.lemmas.List.Sorted.{answers_always}
use Rattle.rtps_report.specs.OneSides as one_sides
use Rattle.rtps_report.proofs.one_side.endpoints_by_topic.Goals as goal

pub returns : goal.returns
returns c =
    subst (λ ends. one_sides.AreByTopic ends c.sort_by_key.new.self.items) c.in_ok-sorted.ensures.items
    (record {
      all = c.sort_by_key.ensures.permutation;
      by_topic = c.in_ok-sort_by_key.ensures.sorted (λ endpoint. endpoint.topic) (answers_always _ _ _ (λ f a r g h. search rules));
      in_order = c.in_ok-sort_by_key.ensures.stable (λ endpoint. endpoint.topic) (answers_always _ _ _ (λ f a r g h. search rules));
    })
