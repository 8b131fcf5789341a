use Rattle.std.proofs.Common.{◌≤◌, ◌+◌, length, map, take}
use Rattle.std.specs.List.{flat_map}
use Rattle.rtps_wire.specs.Values as values
use Rattle.rtps_write.specs.Written as written
use Rattle.rtps_write.proofs.message.room_for.Given as goal

-- there is room for no more than the items up to here
abbrev pub invariant-loop-item : goal.invariant-loop-item
invariant-loop-item l = l.room ≤ 20 + length (flat_map written.item_octets (map values.item_value (take l.item-index l.items)))
