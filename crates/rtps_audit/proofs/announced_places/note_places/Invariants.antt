use Rattle.std.proofs.Common.{map, take}
use Rattle.rtps_receiver.specs.Values as values
use Rattle.rtps_audit.specs.Placed as placed
use Rattle.rtps_audit.proofs.announced_places.note_places.Given as goal

-- the places of the acts so far
abbrev pub invariant-loop-act : goal.invariant-loop-act
invariant-loop-act l = placed.AddsAnnounced l.fn.places.map l.places.map (placed.placed_at l.datagram (map values.spoken_value (take l.act-index l.acts)))
