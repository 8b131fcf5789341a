-- Flags as they are written. DDSI-RTPS 2.5, 9.4.5.1.2 "Flags". own: flags that have no name here are written as 0.
use Rattle.std.specs.Prelude.{ℕ, Bool, if◌then◌else◌}
use Rattle.rtps_ids.specs.declared.order.Order.{Order}
use Rattle.rtps_wire.specs.declared.layout.submessage.TheConstants as submessage

-- the flag if it is set, and else 0
abbrev pub flag_if : Bool → ℕ → ℕ
flag_if is_set flag = if is_set then flag else 0

-- the flag for an order: E is set if the lowest octet comes first
abbrev pub order_flag : Order → ℕ
order_flag Order.Big = 0
order_flag Order.Little = submessage.E
