use Rattle.std.proofs.Common.{drop, rules}
use Rattle.std.proofs.lemmas.List.Sorted.{IsPartitionPoint-from_clause}
use Rattle.rtps_discovery.specs.declared.endpoint.Endpoint.{Endpoint}
use Rattle.rtps_discovery.proofs.Slices.{take_behind}
use Rattle.rtps_discovery.proofs.Topics.{below, below_partitions, one_name, up_to, upto_partitions}
use Rattle.rtps_discovery.proofs.topic_index.readers_of.Goals as goal

pub returns : goal.returns
returns c =
    let readers = c.args.readers.now in
    let given = c.args.topic.now in
    let name = λ (reader : Endpoint). reader.topic.now in
    let start = c.partition_point-start.result in
    let size = c.partition_point-end.result in
    let first = IsPartitionPoint-from_clause (below name given) readers start c.partition_point-start.ensures.partitioned (below_partitions name given readers c.requires) (λ a r f h. search rules) in
    let partitioned = rw (take_behind start readers) at c.partition_point-end.ensures.partitioned in
    let room = rw (take_behind start readers) at c.partition_point-end.ensures.bound in
    let last = IsPartitionPoint-from_clause (up_to name given) (drop start readers) size partitioned (upto_partitions name given readers start c.requires) (λ a r f h. search rules) in
    rw (take_behind start readers) (one_name name given readers start size c.partition_point-start.ensures.bound room first last)
