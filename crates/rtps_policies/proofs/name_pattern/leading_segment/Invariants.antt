use Rattle.std.proofs.Common.{length}
use Rattle.rtps_policies.proofs.SegmentLemmas.{IsHeld}
use Rattle.rtps_policies.proofs.name_pattern.leading_segment.Given as goal

abbrev pub invariant-loop-part : goal.invariant-loop-part
invariant-loop-part l = IsHeld l.pattern l.name l.rest l.left

abbrev pub decreases-loop-part : goal.decreases-loop-part
decreases-loop-part l = length l.rest
