use Rattle.std.proofs.Common.{◌≡◌, map, drop, take, All}
use Rattle.rtps_wire.specs.Values as values
use Rattle.rtps_write.specs.Held as held
use Rattle.rtps_write.specs.Writable as writable
use Rattle.rtps_write.proofs.message.items_refusal.Given as goal

-- there is no reason against the items up to here
abbrev pub invariant-loop-i : goal.invariant-loop-i
invariant-loop-i l =
    record {
      fault : writable.items_fault (map values.item_value (drop l.i l.items)) ≡ writable.items_fault (map values.item_value l.items);
      held : All held.IsHeldItem (map values.item_value (take l.i l.items));
    }
