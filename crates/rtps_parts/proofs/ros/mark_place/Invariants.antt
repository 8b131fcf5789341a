use Rattle.std.proofs.Common.{◌≡◌, ◌<◌, ℕ, drop, false, nat_eq}
use Rattle.std.specs.List.{starts_with}
use Rattle.rtps_parts.specs.RosNames as ros_names
use Rattle.rtps_parts.proofs.ros.mark_place.Given as goal

-- no mark begins before
abbrev pub invariant-loop-place : goal.invariant-loop-place
invariant-loop-place l = (before : ℕ) → before < l.place → starts_with nat_eq (drop before l.kind) ros_names.mark ≡ false
