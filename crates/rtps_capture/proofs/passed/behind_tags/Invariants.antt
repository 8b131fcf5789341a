use Rattle.std.proofs.Common.{◌≡◌, ◌≤◌, ◌-◌, length}
use Rattle.rtps_capture.specs.Passed as passed
use Rattle.rtps_capture.proofs.passed.behind_tags.Given as goal

-- what is behind all of them stays the same
abbrev pub invariant-loop-behind : goal.invariant-loop-behind
invariant-loop-behind l = (l.header.at ≤ length l.frame) × (passed.last_within (passed.tag_passed l.frame) (length l.frame) l.header ≡ passed.last_within (passed.tag_passed l.frame) (length l.frame) l.fn.first)

abbrev pub decreases-loop-behind : goal.decreases-loop-behind
decreases-loop-behind l = length l.frame - l.header.at
