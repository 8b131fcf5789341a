use Rattle.std.proofs.Common.{length}
use Rattle.rtps_policies.proofs.SegmentLemmas.{AreCounted}
use Rattle.rtps_policies.proofs.name_pattern.fixed_count.Given as goal

abbrev pub invariant-loop-part : goal.invariant-loop-part
invariant-loop-part l = AreCounted l.pattern l.rest l.count

abbrev pub decreases-loop-part : goal.decreases-loop-part
decreases-loop-part l = length l.rest
