use Rattle.std.proofs.Common.{leb, arith, rules}
use Rattle.std.proofs.lemmas.List.Sorted.{IsPartitionPoint-from_clause, IsPartitionedBy-leb}
use Rattle.rtps_coverage.specs.declared.stretch.Stretch.{Stretch}
use Rattle.rtps_coverage.proofs.RisingLemmas.{last_reaches, none_reaches}
use Rattle.rtps_coverage.proofs.rising.end_at.Goals as goal

pub returns-then-place-eq0-clause-reach : goal.returns-then-place-eq0-clause-reach
returns-then-place-eq0-clause-reach c =
    let parted = IsPartitionedBy-leb (λ (s : Stretch). s.lo) c.args.stretches.now c.args.key c.requires.lo in
    let point = IsPartitionPoint-from_clause (λ (s : Stretch). leb s.lo c.args.key) c.args.stretches.now c.partition_point-place.result c.partition_point-place.ensures.partitioned parted (λ a r q k. search rules) in
    none_reaches c.args.stretches.now c.args.key c.partition_point-place.result point c.if-place-eq0.true

pub returns-clause-reach : goal.returns-clause-reach
returns-clause-reach c =
    let parted = IsPartitionedBy-leb (λ (s : Stretch). s.lo) c.args.stretches.now c.args.key c.requires.lo in
    let point = IsPartitionPoint-from_clause (λ (s : Stretch). leb s.lo c.args.key) c.args.stretches.now c.partition_point-place.result c.partition_point-place.ensures.partitioned parted (λ a r q k. search rules) in
    last_reaches c.args.stretches.now c.args.key c.partition_point-place.result (record { lo = 0; hi = 0 }) c.requires point (let some = c.if-place-eq0.false in omega (arith, some)) (let bound = c.partition_point-place.ensures.bound in omega (arith, bound))
