use Rattle.std.proofs.Common.{drop, rules}
use Rattle.std.proofs.lemmas.List.Sorted.{IsPartitionPoint-from_clause}
use Rattle.rtps_policies.proofs.Slices.{take_behind}
use Rattle.rtps_policies.proofs.TopicLemmas.{below, below_partitions, one_topic, up_to, upto_partitions}
use Rattle.rtps_policies.proofs.topic_readers.readers_of.Goals as goal

pub returns : goal.returns
returns c =
    let readers = c.args.readers.now in
    let topic = c.args.topic.now in
    let start = c.partition_point-start.result in
    let size = c.partition_point-end.result in
    let first = IsPartitionPoint-from_clause (below topic) readers start c.partition_point-start.ensures.partitioned (below_partitions topic readers c.requires) (λ a r f h. search rules) in
    let partitioned = rw (take_behind start readers) at c.partition_point-end.ensures.partitioned in
    let room = rw (take_behind start readers) at c.partition_point-end.ensures.bound in
    let last = IsPartitionPoint-from_clause (up_to topic) (drop start readers) size partitioned (upto_partitions topic readers start c.requires) (λ a r f h. search rules) in
    rw (take_behind start readers) (one_topic topic readers start size c.partition_point-start.ensures.bound room first last)
