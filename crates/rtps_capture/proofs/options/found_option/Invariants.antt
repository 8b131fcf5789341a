use Rattle.std.proofs.Common.{◌≡◌, ◌≤◌, ◌-◌, length}
use Rattle.rtps_capture.specs.Options as options
use Rattle.rtps_capture.specs.Passed as passed
use Rattle.rtps_capture.proofs.options.found_option.Given as goal

-- what is behind all of them stays the same
abbrev pub invariant-loop-behind : goal.invariant-loop-behind
invariant-loop-behind l =
    (l.header.at ≤ length l.options) × (passed.last_within (options.option_passed l.order l.code l.options) (length l.options) l.header ≡ options.found_option l.order l.code l.options)

abbrev pub decreases-loop-behind : goal.decreases-loop-behind
decreases-loop-behind l = length l.options - l.header.at
