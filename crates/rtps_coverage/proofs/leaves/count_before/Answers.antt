use Rattle.std.proofs.Common.{ltb, rules, arith}
use Rattle.std.specs.Global.{Vec}
use Rattle.std.proofs.lemmas.Bool.{ltb-false}
use Rattle.std.proofs.lemmas.List.Sorted.{IsPartitionPoint-from_clause, IsPartitionedBy-ltb}
use Rattle.rtps_coverage.specs.Ranges as ranges
use Rattle.rtps_coverage.specs.declared.stretch.Stretch.{Stretch}
use Rattle.rtps_coverage.proofs.LeavesLemmas.{front_ends, leaves_rise}
use Rattle.rtps_coverage.proofs.leaves.count_before.Goals as goal

pub returns-clause-before : goal.returns-clause-before
returns-clause-before c =
    let number = c.args.number in
    let all = c.args.leaves.now in
    let parted = IsPartitionedBy-ltb (λ (leaf : Vec Stretch). ranges.end_of leaf.items) all number (leaves_rise all c.requires.filled c.requires.apart) in
    let point = IsPartitionPoint-from_clause (λ (leaf : Vec Stretch). ltb (ranges.end_of leaf.items) number) all c.partition_point.result c.partition_point.ensures.partitioned parted (λ a r q k. search rules) in
    front_ends number c.partition_point.result all c.requires c.partition_point.ensures.bound point.0

pub returns-clause-past : goal.returns-clause-past
returns-clause-past c =
    let number = c.args.number in
    let all = c.args.leaves.now in
    let parted = IsPartitionedBy-ltb (λ (leaf : Vec Stretch). ranges.end_of leaf.items) all number (leaves_rise all c.requires.filled c.requires.apart) in
    let point = IsPartitionPoint-from_clause (λ (leaf : Vec Stretch). ltb (ranges.end_of leaf.items) number) all c.partition_point.result c.partition_point.ensures.partitioned parted (λ a r q k. search rules) in
    λ lt d. ltb-false _ _ (point.1 c.partition_point.result d (omega arith) lt)
