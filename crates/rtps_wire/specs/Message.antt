-- A message: a header, and then submessages. DDSI-RTPS 2.5, 8.3.3 "The Overall Structure of an RTPS Message", 8.3.4.1
-- "Rules Followed By The Message Receiver" and 9.4.5.1 "Submessage Header".
use Rattle.std.specs.Prelude.{ℕ, ◌+◌, ◌≡◌, ◌==◌, ◌<◌, ◌||◌, bit_and, nat_lt, List, [], ◌∷◌, length, take, drop, slice_index, Option, Some, None, if◌then◌else◌}
use Rattle.rtps_ids.specs.Octets as octets
use Rattle.rtps_ids.specs.declared.order.Order.{Order}
use Rattle.rtps_wire.specs.AckNack as ack_nack
use Rattle.rtps_wire.specs.Data as data_spec
use Rattle.rtps_wire.specs.Gap as gap
use Rattle.rtps_wire.specs.Header as header_spec
use Rattle.rtps_wire.specs.Heartbeat as heartbeat
use Rattle.rtps_wire.specs.Info as info
use Rattle.rtps_wire.specs.Values as values
use Rattle.rtps_wire.specs.declared.fault.Refusal.{Refusal}
use Rattle.rtps_wire.specs.declared.fault.WireFault.{WireFault}
use Rattle.rtps_wire.specs.declared.header.Header.{Header}
use Rattle.rtps_wire.specs.declared.layout.header.TheConstants as header
use Rattle.rtps_wire.specs.declared.layout.id.TheConstants as id_layout
use Rattle.rtps_wire.specs.declared.layout.submessage.TheConstants as submessage

-- A submessage header is submessageId, flags and octetsToNextHeader. Below, `rest` is the octets from the first octet
-- of a submessage on.
abbrev pub id_of : List ℕ → ℕ
id_of rest = slice_index rest submessage.ID

-- the flags of the submessage
abbrev pub flags_of : List ℕ → ℕ
flags_of rest = slice_index rest submessage.FLAGS

-- flag E gives the order of all numbers of the submessage, also of octetsToNextHeader
abbrev pub order_of : ℕ → Order
order_of flags = if bit_and flags submessage.E == submessage.E then Order.Little else Order.Big

-- octetsToNextHeader
abbrev pub octets_to_next_header : List ℕ → ℕ
octets_to_next_header rest = octets.number_of (order_of (flags_of rest)) 2 (drop submessage.OCTETS_TO_NEXT rest)

-- The size of a body, by octetsToNextHeader. If that is 0, the body of a PAD or an INFO_TS is empty, and any other body
-- is all octets that are left.
abbrev pub extent_of : ℕ → ℕ → ℕ → ℕ
extent_of id declared left = if declared == 0 then (if id == id_layout.PAD || id == id_layout.INFO_TS then 0 else left) else declared

-- how many octets the body has
abbrev pub body_length : List ℕ → ℕ
body_length rest = extent_of (id_of rest) (octets_to_next_header rest) (length (drop submessage.SIZE rest))

-- the octets of the body
abbrev pub body_octets : List ℕ → List ℕ
body_octets rest = take (body_length rest) (drop submessage.SIZE rest)

-- the octets from the next submessage on
abbrev pub next_rest : List ℕ → List ℕ
next_rest rest = drop (submessage.SIZE + body_length rest) rest

-- the fault of a body; ids that are not read have none
abbrev pub body_fault : ℕ → ℕ → List ℕ → Option WireFault
body_fault id flags body =
    if id == id_layout.ACKNACK then ack_nack.ack_nack_fault (order_of flags) body
    else if id == id_layout.HEARTBEAT then heartbeat.heartbeat_fault (order_of flags) body
    else if id == id_layout.GAP then gap.gap_fault (order_of flags) body
    else if id == id_layout.INFO_TS then info.info_ts_fault flags body
    else if id == id_layout.INFO_SRC then info.info_src_fault body
    else if id == id_layout.INFO_DST then info.info_dst_fault body
    else if id == id_layout.DATA then data_spec.data_fault (order_of flags) flags body
    else None

-- the INFO_SRC that names this source
abbrev pub source_value : Header → values.BodyValue
source_value source = values.BodyValue.InfoSrc source.version source.vendor source.prefix

-- what a body without a fault says, by its id
abbrev pub body_of : ℕ → ℕ → List ℕ → values.BodyValue
body_of id flags body =
    if id == id_layout.ACKNACK then values.BodyValue.AckNack (ack_nack.ack_nack_of (order_of flags) flags body)
    else if id == id_layout.HEARTBEAT then values.BodyValue.Heartbeat (heartbeat.heartbeat_of (order_of flags) flags body)
    else if id == id_layout.GAP then values.BodyValue.Gap (gap.gap_of (order_of flags) body)
    else if id == id_layout.INFO_TS then values.BodyValue.InfoTs (info.info_ts_of (order_of flags) flags body)
    else if id == id_layout.INFO_SRC then source_value (info.info_src_of body)
    else if id == id_layout.INFO_DST then values.BodyValue.InfoDst (info.info_dst_of body)
    else if id == id_layout.DATA then values.BodyValue.Data (data_spec.data_of (order_of flags) flags body)
    else values.BodyValue.Skipped id

-- the fault of the first submessage
unfoldable pub fault_at : List ℕ → Option WireFault
fault_at rest =
    if nat_lt (length rest) submessage.SIZE then Some WireFault.CutHeader
    else if nat_lt (length (drop submessage.SIZE rest)) (octets_to_next_header rest) then Some WireFault.Overrun
    else body_fault (id_of rest) (flags_of rest) (body_octets rest)

-- the first submessage, which is at this place, if it has no fault
unfoldable pub item_at : List ℕ → ℕ → values.ItemValue
item_at rest at = record { at = at; order = order_of (flags_of rest); body = body_of (id_of rest) (flags_of rest) (body_octets rest) }

-- These octets begin at this place. They are these items, and then nothing or a refusal.
abbrev pub ReadsFrom : List ℕ → ℕ → List values.ItemValue → Option Refusal → Type 0
ReadsFrom rest at [] None = rest ≡ []
ReadsFrom rest at [] (Some refusal) = (0 < length rest) × (refusal.at ≡ at) × (fault_at rest ≡ Some refusal.fault)
ReadsFrom rest at (item ∷ items) ending =
    (0 < length rest) × (fault_at rest ≡ None) × (item ≡ item_at rest at) × ReadsFrom (next_rest rest) (at + submessage.SIZE + body_length rest) items ending

-- what a datagram says: its header, the items at their places, and the refusal that ends it, if one does
pub record Reading : Type 0 where
  pub header : Option Header
  pub items : List values.ItemValue
  pub ending : Option Refusal

-- A datagram whose header is refused has no header and no items, and its refusal is at 0.
abbrev pub ReadsWith : Option WireFault → List ℕ → Reading → Type 0
ReadsWith (Some fault) datagram reading =
    (reading.header ≡ None) × (reading.items ≡ []) × (reading.ending ≡ Some (record { at = 0; fault = fault }))
ReadsWith None datagram reading =
    (reading.header ≡ Some (header_spec.header_of datagram)) × ReadsFrom (drop header.SIZE datagram) header.SIZE reading.items reading.ending

-- the datagram says this
abbrev pub Reads : List ℕ → Reading → Type 0
Reads datagram reading = ReadsWith (header_spec.header_fault datagram) datagram reading
