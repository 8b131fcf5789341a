use Rattle.std.proofs.Common.{◌≡◌, ◌++◌, ◌≤◌, ◌-◌, drop, length, map}
use Rattle.rtps_evidence.specs.Explanation as explanation
use Rattle.rtps_report.specs.ByTopic as by_topic
use Rattle.rtps_report.proofs.topics.topics_of.Given as goal

abbrev pub invariant-topics : goal.invariant-topics
invariant-topics l = record {
  within : l.start ≤ length l.rows;
  same : map (λ topic. map explanation.explanation_value topic.now) l.topics.items ++ by_topic.topics_of (map explanation.explanation_value (drop l.start l.rows))
      ≡ by_topic.topics_of (map explanation.explanation_value l.rows);
}

abbrev pub decreases-topics : goal.decreases-topics
decreases-topics l = length l.rows - l.start
