use Rattle.std.proofs.Common.{map, take}
use Rattle.rtps_audit.specs.Placed as placed
use Rattle.rtps_evidence.specs.Ears as ears
use Rattle.rtps_evidence.proofs.ear.tell_all.Given as goal

-- each ear has heard the acts so far
abbrev pub invariant-loop-placed : goal.invariant-loop-placed
invariant-loop-placed g l = ears.HaveHeard g.E.Ear.has_heard l.fn.ears (map placed.placed_value (take l.placed-index l.acts)) l.ears
