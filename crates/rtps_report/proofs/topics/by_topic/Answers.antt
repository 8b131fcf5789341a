use Rattle.std.proofs.Common.{rules, subst}
use Rattle.std.proofs.lemmas.List.Sorted.{answers_always}
use Rattle.rtps_report.specs.ByTopic as by_topic
use Rattle.rtps_report.proofs.topics.by_topic.Goals as goal

pub returns : goal.returns
returns c =
    subst (λ rows. by_topic.AreByTopic rows c.sort_by_key.new.self.items) c.in_ok-sorted.ensures.items
    (record {
      all = c.sort_by_key.ensures.permutation;
      by_names = c.in_ok-sort_by_key.ensures.sorted (λ row. (row.topic, row.type_name)) (answers_always _ _ _ (λ f a r g h. search rules));
      in_order = c.in_ok-sort_by_key.ensures.stable (λ row. (row.topic, row.type_name)) (answers_always _ _ _ (λ f a r g h. search rules));
    })
