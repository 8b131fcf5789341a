use Rattle.std.proofs.Common.{◌≡◌, filter, map, take, None}
use Rattle.std.specs.List.{last_or}
use Rattle.std.specs.Option.{option_map}
use Rattle.rtps_audit.specs.Placed as placed
use Rattle.rtps_evidence.specs.Locations as locations
use Rattle.rtps_evidence.specs.Missed as missed
use Rattle.rtps_evidence.proofs.first_missed.last_asking.Given as goal

-- the last so far
abbrev pub invariant-loop-placed : goal.invariant-loop-placed
invariant-loop-placed l = l.last ≡ option_map locations.location_of (last_or None (filter (missed.asks_for l.fn.pair.writer l.fn.pair.reader l.fn.number) (map placed.placed_value (take l.placed-index l.acts))))
