use Rattle.std.proofs.Common.{◌-◌, length, map, take}
use Rattle.rtps_receiver.specs.Values as values
use Rattle.rtps_audit.specs.Placed as placed
use Rattle.rtps_audit.proofs.placed.note_acts.Given as goal

-- the acts so far are there
abbrev pub invariant-runs : goal.invariant-runs
invariant-runs l = placed.AddsActs l.fn.origins.map l.origins.map (placed.placed_at l.datagram (map values.spoken_value (take l.start l.acts)))

abbrev pub decreases-runs : goal.decreases-runs
decreases-runs l = length l.acts - l.start
