use Rattle.std.proofs.Common.{◌≡◌, map, filter, take}
use Rattle.rtps_audit.specs.Placed as placed
use Rattle.rtps_evidence.specs.WayRound as way_round
use Rattle.rtps_evidence.proofs.way_round.shared_among.Given as goal

-- those so far that are shared
abbrev pub invariant-loop-placed : goal.invariant-loop-placed
invariant-loop-placed l = map placed.placed_value l.shared.items ≡ filter (way_round.is_shared (map placed.placed_value l.other)) (map placed.placed_value (take l.placed-index l.own))
