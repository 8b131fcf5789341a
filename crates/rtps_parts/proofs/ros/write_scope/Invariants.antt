use Rattle.std.proofs.Common.{◌≡◌, ◌++◌, length, List, ℕ}
use Rattle.std.specs.Fmt.{HasWritten, IsPlainFormatter}
use Rattle.std.specs.List.{flat_map}
use Rattle.rtps_parts.specs.Names as names
use Rattle.rtps_parts.specs.RosNames as ros_names
use Rattle.rtps_parts.proofs.ros.write_scope.Given as goal

-- what is written, and then what is left
abbrev pub invariant-octets : goal.invariant-octets
invariant-octets g l =
    IsPlainFormatter l.initial.f
    → (written : List ℕ) × HasWritten g.W.Write.write_str_gives l.initial.f written l.f × (written ++ flat_map names.octet_text (ros_names.slashed l.rest) ≡ flat_map names.octet_text (ros_names.slashed l.fn.scope))

abbrev pub decreases-octets : goal.decreases-octets
decreases-octets g l = length l.rest
