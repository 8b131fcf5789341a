use Rattle.std.proofs.Common.{◌≡◌, map, filter, take, not}
use Rattle.rtps_audit.specs.Placed as placed
use Rattle.rtps_evidence.specs.WayRound as way_round
use Rattle.rtps_evidence.proofs.way_round.lone_among.Given as goal

-- those so far that are not
abbrev pub invariant-loop-placed : goal.invariant-loop-placed
invariant-loop-placed l = map placed.placed_value l.lone.items ≡ filter (λ at. not (way_round.is_shared (map placed.placed_value l.other) at)) (map placed.placed_value (take l.placed-index l.own))
