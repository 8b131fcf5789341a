use Rattle.std.proofs.Common.{◌≡◌, length, take}
use Rattle.rtps_coverage.specs.Leaves as leaves_spec
use Rattle.rtps_coverage.proofs.leaves.count_of.Given as goal

-- those of the leaves so far
abbrev pub invariant-loop-leaf : goal.invariant-loop-leaf
invariant-loop-leaf l = l.count ≡ length (leaves_spec.ranges_in (take l.leaf-index l.leaves))
