-- The written form of a message. DDSI-RTPS 2.5, 8.3.3 "The Overall Structure of an RTPS Message", 9.4.4 "Mapping of the
-- RTPS Header" and 9.4.5 "Mapping of the RTPS Submessages". own: octetsToNextHeader is always the length of the body,
-- also if the standard allows 0, so that no submessage takes octets of the next one.
use Rattle.std.specs.Prelude.{ℕ, ◌+◌, bit_or, List, [], ◌∷◌, ◌++◌, length, Some, None}
use Rattle.std.specs.List.{flat_map}
use Rattle.rtps_ids.specs.Octets as octets
use Rattle.rtps_ids.specs.declared.order.Order.{Order}
use Rattle.rtps_wire.specs.Message as message
use Rattle.rtps_wire.specs.Values as values
use Rattle.rtps_wire.specs.declared.header.Header.{Header}
use Rattle.rtps_wire.specs.declared.layout.header.TheConstants as header_layout
use Rattle.rtps_wire.specs.declared.layout.id.TheConstants as id
use Rattle.rtps_write.specs.WrittenBodies as written_bodies
use Rattle.rtps_write.specs.Flags as flags

-- the id of the submessage of a body. One that was skipped cannot be written: its id, flags and octets are not used
abbrev pub written_id : values.BodyValue → ℕ
written_id (values.BodyValue.Data body) = id.DATA
written_id (values.BodyValue.Heartbeat body) = id.HEARTBEAT
written_id (values.BodyValue.AckNack body) = id.ACKNACK
written_id (values.BodyValue.Gap body) = id.GAP
written_id (values.BodyValue.InfoTs time) = id.INFO_TS
written_id (values.BodyValue.InfoDst prefix) = id.INFO_DST
written_id (values.BodyValue.InfoSrc version vendor prefix) = id.INFO_SRC
written_id (values.BodyValue.Skipped id) = id

-- the flags that a body has of its own
abbrev pub own_flags : values.BodyValue → ℕ
own_flags (values.BodyValue.Data body) = written_bodies.data_flags body
own_flags (values.BodyValue.Heartbeat body) = written_bodies.heartbeat_flags body
own_flags (values.BodyValue.AckNack body) = written_bodies.ack_nack_flags body
own_flags (values.BodyValue.InfoTs time) = written_bodies.info_ts_flags time
own_flags _ = 0

-- all flags of a submessage that is written
abbrev pub written_flags : Order → values.BodyValue → ℕ
written_flags order body = bit_or (flags.order_flag order) (own_flags body)

-- the octets of a body
abbrev pub written_body : Order → values.BodyValue → List ℕ
written_body order (values.BodyValue.Data body) = written_bodies.data_octets order body
written_body order (values.BodyValue.Heartbeat body) = written_bodies.heartbeat_octets order body
written_body order (values.BodyValue.AckNack body) = written_bodies.ack_nack_octets order body
written_body order (values.BodyValue.Gap body) = written_bodies.gap_octets order body
written_body order (values.BodyValue.InfoTs time) = written_bodies.info_ts_octets order time
written_body order (values.BodyValue.InfoDst prefix) = written_bodies.info_dst_octets prefix
written_body order (values.BodyValue.InfoSrc version vendor prefix) = written_bodies.info_src_octets version vendor prefix
written_body order (values.BodyValue.Skipped id) = []

-- the octets of a submessage of this body: submessageId, flags, octetsToNextHeader, and the body
abbrev pub submessage_octets : Order → values.BodyValue → List ℕ
submessage_octets order body =
    written_id body ∷ written_flags order body ∷ (octets.octets_of order 2 (length (written_body order body)) ++ written_body order body)

-- the octets of an item; its place is not used
abbrev pub item_octets : values.ItemValue → List ℕ
item_octets item = submessage_octets item.order item.body

-- the octets of a header that is written
abbrev pub header_octets : Header → List ℕ
header_octets header = header_layout.PROTOCOL ++ (header.version.major ∷ header.version.minor ∷ (header.vendor.0 ++ header.prefix.0))

-- the octets of a message: the header, and the items in order
abbrev pub message_octets : Header → List values.ItemValue → List ℕ
message_octets header items = header_octets header ++ flat_map item_octets items

-- the items at their places in a written message: each after the one before it
abbrev pub placed : ℕ → List values.ItemValue → List values.ItemValue
placed at [] = []
placed at (item ∷ items) = record item { at = at } ∷ placed (at + length (item_octets item)) items

-- the reading of such a message: its header, these items, and no refusal
abbrev pub clean_reading : Header → List values.ItemValue → message.Reading
clean_reading header items = record { header = Some header; items = placed header_layout.SIZE items; ending = None }
