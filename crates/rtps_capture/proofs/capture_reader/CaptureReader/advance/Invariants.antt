use Rattle.std.proofs.Common.{◌≡◌, ◌≤◌, ◌^◌, ◌-◌, None}
use Rattle.rtps_capture.proofs.AdvanceLemmas.{GoesOn}
use Rattle.rtps_capture.proofs.capture_reader.CaptureReader.advance.Given as goal

-- the frames so far gave no datagram
abbrev pub invariant-frames : goal.invariant-frames
invariant-frames g l =
    GoesOn (g.R.Read.remaining l.initial.input) (g.R.Read.remaining l.input) l.initial.self.notes l.initial.self.frames.held l.initial.self.frames.frames l.self.notes l.self.frames.held l.self.frames.frames
    × (l.self.found ≡ None) × (l.initial.self.frames.place ≤ l.self.frames.place)

abbrev pub decreases-frames : goal.decreases-frames
decreases-frames g l = 2 ^ 64 - l.self.frames.place
