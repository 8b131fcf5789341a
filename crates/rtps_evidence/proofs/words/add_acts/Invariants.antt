use Rattle.std.proofs.Common.{◌≡◌, ◌++◌, filter, map, take}
use Rattle.rtps_audit.specs.Placed as placed
use Rattle.rtps_evidence.specs.WayRound as way_round
use Rattle.rtps_evidence.proofs.words.add_acts.Given as goal

abbrev pub invariant-loop-placed : goal.invariant-loop-placed
invariant-loop-placed l = map placed.placed_value l.words.items
    ≡ map placed.placed_value l.initial.words.items ++ filter (way_round.is_said_to l.pair) (map placed.placed_value (take l.placed-index l.acts))
