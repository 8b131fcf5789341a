use Rattle.std.proofs.Common.{◌≡◌, ◌≤◌, ◌++◌, map, take, vec_capacity}
use Rattle.std.specs.List.{flat_map}
use Rattle.rtps_wire.specs.Values as values
use Rattle.rtps_write.specs.Written as written
use Rattle.rtps_write.proofs.message.put_items.Given as goal

-- the items up to here are written
abbrev pub invariant-loop-item : goal.invariant-loop-item
invariant-loop-item l = record {
  items : l.out.items ≡ l.initial.out.items ++ flat_map written.item_octets (map values.item_value (take l.item-index l.items));
  room : vec_capacity l.initial.out ≤ vec_capacity l.out;
}
