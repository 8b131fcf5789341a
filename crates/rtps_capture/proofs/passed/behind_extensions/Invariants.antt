use Rattle.std.proofs.Common.{◌≡◌, ◌≤◌, ◌-◌, length}
use Rattle.rtps_capture.specs.Passed as passed
use Rattle.rtps_capture.proofs.passed.behind_extensions.Given as goal

-- what is behind all of them stays the same
abbrev pub invariant-loop-behind : goal.invariant-loop-behind
invariant-loop-behind l = (l.header.at ≤ length l.packet) × (passed.last_within (passed.extension_passed l.packet) (length l.packet) l.header ≡ passed.last_within (passed.extension_passed l.packet) (length l.packet) l.fn.first)

abbrev pub decreases-loop-behind : goal.decreases-loop-behind
decreases-loop-behind l = length l.packet - l.header.at
