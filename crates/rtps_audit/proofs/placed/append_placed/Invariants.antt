use Rattle.std.proofs.Common.{◌≡◌, ◌++◌, map, take}
use Rattle.rtps_receiver.specs.Values as values
use Rattle.rtps_audit.specs.Placed as placed
use Rattle.rtps_audit.proofs.placed.append_placed.Given as goal

-- the acts so far
abbrev pub invariant-loop-act : goal.invariant-loop-act
invariant-loop-act l = map placed.placed_value l.placed.items ≡ map placed.placed_value l.fn.placed.items ++ placed.placed_at l.datagram (map values.spoken_value (take l.act-index l.acts))
