use Rattle.std.proofs.Common.{◌+◌, ap, length, arith}
use Rattle.std.specs.Global.{Vec}
use Rattle.rtps_coverage.specs.declared.stretch.Stretch.{Stretch}
use Rattle.rtps_coverage.proofs.LeavesLemmas.{count_more, count_within}
use Rattle.rtps_coverage.proofs.leaves.count_of.Goals as goal

pub overflow_add-count : goal.overflow_add-count
overflow_add-count c =
    let all = c.args.leaves.now in
    let i = c.loop-leaf.leaf-index in
    let leaf = c.leaf-item.result in
    let more = count_more all i leaf c.loop-leaf-test.true in
    let bound = count_within all (i + 1) c.requires in
    let here = ap (λ (l : Vec Stretch). length l.items) c.leaf-item.is in
    let so_far = c.loop-leaf.invariant in
    let len = c.len-count.ensures in
    omega (arith, more, bound, here, so_far, len)
