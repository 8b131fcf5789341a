use Rattle.std.proofs.Common.{◌^◌, length, ◌-◌}
use Rattle.rtps_capture.specs.Held as held_spec
use Rattle.rtps_capture.proofs.frame_reader.hold_opening.Given as goal

-- what comes is held
abbrev pub invariant-opening : goal.invariant-opening
invariant-opening g l = held_spec.Fills (g.R.Read.remaining l.initial.input) (g.R.Read.remaining l.input) l.initial.held l.held

abbrev pub decreases-opening : goal.decreases-opening
decreases-opening g l = 2 ^ 64 - length l.held.octets
