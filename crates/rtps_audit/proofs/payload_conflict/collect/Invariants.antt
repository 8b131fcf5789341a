use Rattle.std.proofs.Common.{map, take}
use Rattle.std.specs.List.{All}
use Rattle.rtps_audit.specs.PayloadConflict as payload_conflict
use Rattle.rtps_audit.specs.Placed as placed
use Rattle.rtps_audit.proofs.payload_conflict.collect.Given as goal

-- the entries are those of the acts so far
abbrev pub invariant-loop-place : goal.invariant-loop-place
invariant-loop-place l = record { sent : payload_conflict.AreSentIn (payload_conflict.asks_for l.questions) (map placed.placed_value (take l.place l.acts)) l.entries.items; in_range : All payload_conflict.IsInRange l.entries.items }
