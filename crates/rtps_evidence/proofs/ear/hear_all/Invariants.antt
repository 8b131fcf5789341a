use Rattle.std.proofs.Common.{map, take}
use Rattle.rtps_audit.specs.Placed as placed
use Rattle.rtps_evidence.proofs.ear.hear_all.Given as goal

-- it has heard the acts so far
abbrev pub invariant-loop-placed : goal.invariant-loop-placed
invariant-loop-placed g l = g.E.Ear.has_heard l.fn.ear (map placed.placed_value (take l.placed-index l.acts)) l.ear
