use Rattle.std.proofs.Common.{ltb, rules}
use Rattle.std.proofs.lemmas.List.Sorted.{IsPartitionPoint-from_clause, IsPartitionedBy-ltb}
use Rattle.rtps_coverage.specs.declared.stretch.Stretch.{Stretch}
use Rattle.rtps_coverage.proofs.RangesLemmas.{ends_rise, parted_from_search}
use Rattle.rtps_coverage.proofs.ranges.count_before.Goals as goal

pub returns : goal.returns
returns c =
    let number = c.args.number in
    let all = c.args.ranges.now in
    let parted = IsPartitionedBy-ltb (λ (range : Stretch). range.hi) all number (ends_rise all c.requires) in
    let point = IsPartitionPoint-from_clause (λ (range : Stretch). ltb range.hi number) all c.partition_point.result c.partition_point.ensures.partitioned parted (λ a r q k. search rules) in
    parted_from_search number all c.partition_point.result c.partition_point.ensures.bound point.0 point.1
