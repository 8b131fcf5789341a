-- DATA. DDSI-RTPS 2.5, 8.3.8.2 "Data" and 9.4.5.4 "Data Submessage".
use Rattle.std.specs.Prelude.{ℕ, ℤ, ◌+◌, ◌==◌, ◌&&◌, ◌||◌, bit_and, pos, int_le, nat_lt, Bool, List, [], ◌∷◌, length, take, drop, is_err, Option, Some, None, if◌then◌else◌}
use Rattle.std.specs.Int.RustNames.{unsigned_abs}
use Rattle.std.specs.Result.{result_unwrap_or}
use Rattle.rtps_ids.specs.Octets as octets
use Rattle.rtps_ids.specs.declared.order.Order.{Order}
use Rattle.rtps_params.specs.Reading as reading
use Rattle.rtps_params.specs.Lists as lists
use Rattle.rtps_wire.specs.Fault as fault
use Rattle.rtps_wire.specs.Fields as fields
use Rattle.rtps_wire.specs.Values as values
use Rattle.rtps_wire.specs.declared.fault.WireFault.{WireFault}
use Rattle.rtps_wire.specs.declared.layout.data.TheConstants as data_layout

-- flag Q: inline QoS comes before the payload. Flag N has no effect
abbrev pub has_qos : ℕ → Bool
has_qos flags = bit_and flags data_layout.Q == data_layout.Q

-- flag D: the payload is a whole sample
abbrev pub has_data : ℕ → Bool
has_data flags = bit_and flags data_layout.D == data_layout.D

-- flag K: the payload is the key of a sample
abbrev pub has_key : ℕ → Bool
has_key flags = bit_and flags data_layout.K == data_layout.K

-- octetsToInlineQos, after extraFlags: how many octets are between it and the inline QoS
abbrev pub octets_to_inline_qos : Order → List ℕ → ℕ
octets_to_inline_qos order body = octets.number_of order 2 (drop data_layout.OCTETS_TO_QOS body)

-- the writer's sequence number
abbrev pub data_number : Order → List ℕ → ℤ
data_number order body = octets.sequence_number_of order (drop data_layout.NUMBER body)

-- the octets from the inline QoS on; octetsToInlineQos counts from the octet after it
abbrev pub behind_fields : Order → List ℕ → List ℕ
behind_fields order body = drop (data_layout.QOS_FROM + octets_to_inline_qos order body) body

-- why a body is no DATA. own: an octetsToInlineQos that points into the fields is bad, since these octets have a
-- meaning already
abbrev pub data_fault : Order → ℕ → List ℕ → Option WireFault
data_fault order flags body = fault.first_fault (
    (WireFault.ShortBody, nat_lt (length body) data_layout.SIZE)
    ∷ (WireFault.BadFlags, has_data flags && has_key flags)
    ∷ (WireFault.BadOffset, nat_lt (data_layout.QOS_FROM + octets_to_inline_qos order body) data_layout.SIZE || nat_lt (length body) (data_layout.QOS_FROM + octets_to_inline_qos order body))
    ∷ (WireFault.BadNumber, int_le (data_number order body) (pos 0))
    ∷ (WireFault.BadInlineQos, has_qos flags && is_err (reading.list_end order (behind_fields order body)))
    ∷ [])

-- how many octets the inline QoS takes. Its numbers have the order of the submessage
abbrev pub qos_length : Order → ℕ → List ℕ → ℕ
qos_length order flags octets = if has_qos flags then result_unwrap_or (reading.list_end order octets) 0 else 0

-- the inline QoS, if there is one
abbrev pub qos_of : Order → ℕ → List ℕ → Option lists.ListValue
qos_of order flags octets = if has_qos flags then Some (record { order = order; octets = take (qos_length order flags octets) octets }) else None

-- the payload. own: without D and K, octets that are left over are ignored
abbrev pub payload_of : ℕ → List ℕ → values.PayloadValue
payload_of flags octets = if has_data flags then values.PayloadValue.Whole octets else if has_key flags then values.PayloadValue.Key octets else values.PayloadValue.Absent

-- the octets after the inline QoS: all of them are the payload
abbrev pub behind_qos : Order → ℕ → List ℕ → List ℕ
behind_qos order flags octets = drop (qos_length order flags octets) octets

-- the DATA that a body without a fault spells
abbrev pub data_of : Order → ℕ → List ℕ → values.DataValue
data_of order flags body =
    record {
      reader = fields.entity_at data_layout.READER body;
      writer = fields.entity_at data_layout.WRITER body;
      number = unsigned_abs (data_number order body);
      qos = qos_of order flags (behind_fields order body);
      payload = payload_of flags (behind_qos order flags (behind_fields order body));
    }

-- the octets of the inline QoS
abbrev pub qos_octets : Option lists.ListValue → List ℕ
qos_octets None = []
qos_octets (Some list) = list.octets
