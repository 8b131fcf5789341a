-- Which messages are written, and why others are not. DDSI-RTPS 2.5, 9.4.5.1 "Submessage Header": a submessage begins
-- at a multiple of 4 octets after the header, and octetsToNextHeader has two octets. own: the order of the conditions.
use Rattle.std.specs.Prelude.{◌==◌, ◌%◌, ◌&&◌, ◌^◌, nat_le, not, Bool, true, false, List, [], ◌∷◌, length, Option, Some, None, if◌then◌else◌}
use Rattle.rtps_ids.specs.declared.order.Order.{Order}
use Rattle.rtps_wire.specs.Values as values
use Rattle.rtps_wire.specs.declared.header.Header.{Header}
use Rattle.rtps_wire.specs.declared.layout.header.TheConstants as header_layout
use Rattle.rtps_wire.specs.declared.layout.submessage.TheConstants as submessage
use Rattle.rtps_write.specs.WrittenBodies as written_bodies
use Rattle.rtps_write.specs.Written as written
use Rattle.rtps_write.specs.declared.write_fault.WriteFault.{WriteFault}

-- whether no submessage of this order reads back as this body: one that was skipped, a HEARTBEAT with a bad range, a
-- GAP whose list has base 0, an inline QoS in the other order
abbrev pub is_not_writable : Order → values.BodyValue → Bool
is_not_writable order (values.BodyValue.Skipped id) = true
is_not_writable order (values.BodyValue.Heartbeat body) = written_bodies.is_bad_range body
is_not_writable order (values.BodyValue.Gap body) = body.list.base == 0
is_not_writable order (values.BodyValue.Data body) = written_bodies.is_other_order order body.qos
is_not_writable order _ = false

-- the first fault of an item; it matters whether the item is the last one
abbrev pub item_fault : Bool → values.ItemValue → Option WriteFault
item_fault is_last item =
    if is_not_writable item.order item.body then Some WriteFault.NotWritable
    else if nat_le (2 ^ 16) (length (written.written_body item.order item.body)) then Some WriteFault.TooLong
    else if not is_last && not (length (written.written_body item.order item.body) % submessage.ALIGNMENT == 0) then Some WriteFault.Unaligned
    else None

-- the first of two faults
abbrev pub first_of : Option WriteFault → Option WriteFault → Option WriteFault
first_of (Some fault) later = Some fault
first_of None later = later

-- whether no item is left
abbrev pub is_none_left : List values.ItemValue → Bool
is_none_left [] = true
is_none_left (item ∷ items) = false

-- the first fault of items in order
abbrev pub items_fault : List values.ItemValue → Option WriteFault
items_fault [] = None
items_fault (item ∷ items) = first_of (item_fault (is_none_left items) item) (items_fault items)

-- the first fault of a message: a header of another major version, or else the fault of its items
abbrev pub write_fault : Header → List values.ItemValue → Option WriteFault
write_fault header items = if not (header.version.major == header_layout.VERSION) then Some WriteFault.NotWritable else items_fault items
