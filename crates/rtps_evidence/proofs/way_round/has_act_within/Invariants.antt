use Rattle.std.proofs.Common.{◌≡◌, ◌&&◌, map, take, false, not}
use Rattle.std.specs.List.{list_any}
use Rattle.rtps_receiver.specs.Speech as speech
use Rattle.rtps_audit.specs.Placed as placed
use Rattle.rtps_evidence.specs.Locations as locations
use Rattle.rtps_evidence.specs.WayRound as way_round
use Rattle.rtps_evidence.proofs.way_round.has_act_within.Given as goal

-- none so far does
abbrev pub invariant-loop-placed : goal.invariant-loop-placed
invariant-loop-placed l =
    list_any (λ at. not (speech.is_ack_nack at.act.body) && way_round.is_within l.window.lo l.window.hi (locations.location_of at)) (map placed.placed_value (take l.placed-index l.lone)) ≡ false
