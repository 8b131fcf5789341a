use Rattle.std.proofs.Common.{◌∙◌, ◌-◌, leb, sym, arith, rules}
use Rattle.std.proofs.lemmas.List.Sorted.{IsPartitionPoint-from_clause, IsPartitionedBy-leb}
use Rattle.rtps_evidence.specs.FrameNumbers as frame_numbers
use Rattle.rtps_evidence.specs.declared.frame_numbers.FrameRun.{FrameRun}
use Rattle.rtps_evidence.proofs.FrameNumberLemmas.{last_begins, none_begins}
use Rattle.rtps_evidence.proofs.frame_numbers.run_at.Goals as goal

pub returns-then-behind-eq0 : goal.returns-then-behind-eq0
returns-then-behind-eq0 c =
    let parted = IsPartitionedBy-leb (λ (r : FrameRun). r.first) c.args.runs.now c.args.place c.requires in
    let point = IsPartitionPoint-from_clause (λ (r : FrameRun). leb r.first c.args.place) c.args.runs.now c.partition_point-behind.result c.partition_point-behind.ensures.partitioned parted (λ a r q k. search rules) in
    let zero = c.if-behind-eq0.true in
    c.of_all.ensures ∙ sym (none_begins c.args.runs.now frame_numbers.run_of_all c.args.place (λ k d lt. point.1 k d (omega (arith, zero)) lt))

pub returns : goal.returns
returns c =
    let parted = IsPartitionedBy-leb (λ (r : FrameRun). r.first) c.args.runs.now c.args.place c.requires in
    let point = IsPartitionPoint-from_clause (λ (r : FrameRun). leb r.first c.args.place) c.args.runs.now c.partition_point-behind.result c.partition_point-behind.ensures.partitioned parted (λ a r q k. search rules) in
    let some = c.if-behind-eq0.false in
    let bound = c.partition_point-behind.ensures.bound in
    sym (last_begins c.args.runs.now frame_numbers.run_of_all c.args.place (c.partition_point-behind.result - 1) (record { first = 0; frame = 0 }) (omega (arith, some, bound))
    (λ k e lt. point.0 k e (omega arith) (omega (arith, lt, some))) (λ k e le lt. point.1 k e (omega (arith, le, some)) lt))
