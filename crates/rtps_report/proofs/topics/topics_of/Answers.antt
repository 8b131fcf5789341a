use Rattle.std.proofs.Common.{◌++◌, ◌+◌, ◌∙◌, Bor, List, ap, arith, drop, length, length-drop, map}
use Rattle.std.proofs.lemmas.List.{map-append}
use Rattle.rtps_evidence.specs.declared.explanation.Explanation.{Explanation}
use Rattle.rtps_evidence.specs.Explanation as explanation
use Rattle.rtps_report.specs.ByTopic as by_topic
use Rattle.rtps_report.proofs.TopicLemmas.{topic_more}
use Rattle.rtps_report.proofs.topics.topics_of.Goals as goal

pub topics-preserved : goal.topics-preserved
topics-preserved c =
    let view : Bor (List Explanation) → List explanation.ExplanationValue = λ topic. map explanation.explanation_value topic.now in
    let rows = c.args.rows.now in
    let start = c.topics.start in
    let size = c.front_len-size.result in
    let left = by_topic.topics_of (map explanation.explanation_value (drop (start + size) rows)) in
    record {
      within = omega (arith, c.front_len-size.ensures.within, c.topics.invariant.within, ap length c.split_at.ensures.back, length-drop start rows);
      same = ap (λ items. map view items ++ left) c.in_ok-push.ensures.items
          ∙ ap (λ known. known ++ left) (map-append view c.topics.topics.items _)
          ∙ topic_more rows c.split_at.result.1.now c.split_at-in-topics.result.0.now start size (map view c.topics.topics.items) (by_topic.topics_of (map explanation.explanation_value rows))
          c.split_at.ensures.back c.front_len-size.ensures.first c.split_at-in-topics.ensures.front c.topics.invariant.same;
    }
