use Rattle.std.proofs.Common.{◌-◌, ◌≤◌, length}
use Rattle.rtps_capture.specs.Held as held_spec
use Rattle.rtps_capture.proofs.held.Held.fill.Given as goal

abbrev pub invariant-reads : goal.invariant-reads
invariant-reads g l =
    (length l.initial.self.octets ≤ length l.self.octets)
    × held_spec.Fills (g.R.Read.remaining l.initial.input) (g.R.Read.remaining l.input) l.initial.self l.self

abbrev pub decreases-reads : goal.decreases-reads
decreases-reads g l = l.wanted - length l.self.octets
