use Rattle.std.proofs.Common.{◌≡◌, map, take}
use Rattle.rtps_audit.specs.Placed as placed
use Rattle.rtps_evidence.specs.Locations as locations
use Rattle.rtps_evidence.proofs.teller.find_teller.Given as goal

-- the first so far
abbrev pub invariant-loop-placed : goal.invariant-loop-placed
invariant-loop-placed l = l.found ≡ locations.teller_of l.fn.pair.writer l.fn.pair.reader l.fn.number (map placed.placed_value (take l.placed-index l.acts))
