use Rattle.std.proofs.Common.{◌≡◌, ◌^◌, length, ◌-◌}
use Rattle.rtps_capture.specs.Held as held_spec
use Rattle.rtps_capture.proofs.frame_reader.FrameReader.hold_next.Given as goal

-- what comes is held
abbrev pub invariant-next : goal.invariant-next
invariant-next g l =
    held_spec.Fills (g.R.Read.remaining l.initial.input) (g.R.Read.remaining l.input) l.initial.self.held l.self.held
    × (l.self.frames ≡ l.initial.self.frames) × (l.self.place ≡ l.initial.self.place)

abbrev pub decreases-next : goal.decreases-next
decreases-next g l = 2 ^ 64 - length l.self.held.octets
