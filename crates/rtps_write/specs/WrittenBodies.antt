-- The flags and the octets of bodies that are written. DDSI-RTPS 2.5, 9.4.5 "Mapping of the RTPS Submessages" and
-- 9.4.2.6 "SequenceNumberSet".
use Rattle.std.specs.Prelude.{ℕ, ◌-◌, ◌-ℤ◌, ◌||◌, bit_or, not, pos, int_lt, Bool, false, List, [], ◌∷◌, ◌++◌, take, Option, Some, None}
use Rattle.std.specs.List.{flat_map}
use Rattle.rtps_ids.specs.NumberSet as number_set
use Rattle.rtps_ids.specs.Octets as octets
use Rattle.rtps_ids.specs.declared.identity.GuidPrefix.{GuidPrefix}
use Rattle.rtps_ids.specs.declared.identity.Stamp.{Stamp}
use Rattle.rtps_ids.specs.declared.identity.Vendor.{Vendor}
use Rattle.rtps_ids.specs.declared.identity.Version.{Version}
use Rattle.rtps_ids.specs.declared.order.Order.{Order}
use Rattle.rtps_params.specs.Lists as lists
use Rattle.rtps_wire.specs.Data as wire_data
use Rattle.rtps_wire.specs.Values as values
use Rattle.rtps_wire.specs.declared.body.AckNackBody.{AckNackBody}
use Rattle.rtps_wire.specs.declared.body.GapBody.{GapBody}
use Rattle.rtps_wire.specs.declared.body.HeartbeatBody.{HeartbeatBody}
use Rattle.rtps_wire.specs.declared.layout.ack_nack.TheConstants as ack_nack
use Rattle.rtps_wire.specs.declared.layout.data.TheConstants as data_layout
use Rattle.rtps_wire.specs.declared.layout.heartbeat.TheConstants as heartbeat
use Rattle.rtps_wire.specs.declared.layout.info_ts.TheConstants as info_ts
use Rattle.rtps_write.specs.Flags as flags

-- the octets of a set that is written: its base, how many bits it has, and as many words as hold the bits
abbrev pub set_octets : Order → number_set.NumberSetValue → List ℕ
set_octets order set =
    octets.sequence_number_octets order (pos set.base) ++ (octets.octets_of order 4 set.count ++ flat_map (octets.octets_of order 4) (take (number_set.words_of_count set.count) set.words))

-- the flags of an ACKNACK that is written
abbrev pub ack_nack_flags : AckNackBody → ℕ
ack_nack_flags body = flags.flag_if body.is_final ack_nack.FINAL

-- the octets of an ACKNACK that is written: readerId, writerId, the set, count
abbrev pub ack_nack_octets : Order → AckNackBody → List ℕ
ack_nack_octets order body = body.reader.0 ++ (body.writer.0 ++ (set_octets order body.set ++ octets.octets_of order 4 body.count))

-- whether there is an inline QoS in another order than the submessage
abbrev pub is_other_order : Order → Option lists.ListValue → Bool
is_other_order order None = false
is_other_order order (Some list) = not (lists.is_same_order order list.order)

-- the flag for an inline QoS
abbrev pub qos_flag : Option lists.ListValue → ℕ
qos_flag None = 0
qos_flag (Some list) = data_layout.Q

-- the flag for the kind of a payload
abbrev pub payload_flag : values.PayloadValue → ℕ
payload_flag values.PayloadValue.Absent = 0
payload_flag (values.PayloadValue.Whole octets) = data_layout.D
payload_flag (values.PayloadValue.Key octets) = data_layout.K

-- the octets of a payload; an absent one has none
abbrev pub payload_octets : values.PayloadValue → List ℕ
payload_octets values.PayloadValue.Absent = []
payload_octets (values.PayloadValue.Whole octets) = octets
payload_octets (values.PayloadValue.Key octets) = octets

-- the flags of a DATA that is written
abbrev pub data_flags : values.DataValue → ℕ
data_flags body = bit_or (qos_flag body.qos) (payload_flag body.payload)

-- the fields of a DATA that is written. own: extraFlags are 0, and the inline QoS comes right after the fields
abbrev pub field_octets : Order → values.DataValue → List ℕ
field_octets order body =
    0 ∷ 0 ∷ (octets.octets_of order 2 (data_layout.SIZE - data_layout.QOS_FROM) ++ (body.reader.0 ++ (body.writer.0 ++ octets.sequence_number_octets order (pos body.number))))

-- the octets of a DATA that is written: its fields, its inline QoS and its payload
abbrev pub data_octets : Order → values.DataValue → List ℕ
data_octets order body =
    0 ∷ 0 ∷ (octets.octets_of order 2 (data_layout.SIZE - data_layout.QOS_FROM) ++ (body.reader.0 ++ (body.writer.0 ++ (octets.sequence_number_octets order (pos body.number) ++ (wire_data.qos_octets body.qos ++ payload_octets body.payload)))))

-- the octets of a GAP that is written; it has no flag of its own
abbrev pub gap_octets : Order → GapBody → List ℕ
gap_octets order body = body.reader.0 ++ (body.writer.0 ++ (octets.sequence_number_octets order (pos body.start) ++ set_octets order body.list))

-- whether no HEARTBEAT can have these numbers: last is below 0, or below first - 1
abbrev pub is_bad_range : HeartbeatBody → Bool
is_bad_range body = int_lt body.last (pos 0) || int_lt body.last (pos body.first -ℤ pos 1)

-- the flags of a HEARTBEAT that is written
abbrev pub heartbeat_flags : HeartbeatBody → ℕ
heartbeat_flags body = bit_or (flags.flag_if body.is_final heartbeat.FINAL) (flags.flag_if body.live heartbeat.LIVELINESS)

-- the octets of a HEARTBEAT that is written: readerId, writerId, firstSN, lastSN, count
abbrev pub heartbeat_octets : Order → HeartbeatBody → List ℕ
heartbeat_octets order body =
    body.reader.0 ++ (body.writer.0 ++ (octets.sequence_number_octets order (pos body.first) ++ (octets.sequence_number_octets order body.last ++ octets.octets_of order 4 body.count)))

-- the flags of an INFO_TS that is written: I if there is no time
abbrev pub info_ts_flags : Option Stamp → ℕ
info_ts_flags None = info_ts.INVALIDATE
info_ts_flags (Some stamp) = 0

-- the octets of an INFO_TS that is written: its time, or nothing
abbrev pub info_ts_octets : Order → Option Stamp → List ℕ
info_ts_octets order None = []
info_ts_octets order (Some stamp) = octets.octets_of order 4 stamp.seconds ++ octets.octets_of order 4 stamp.fraction

-- the octets of an INFO_DST that is written; it has no flag of its own
abbrev pub info_dst_octets : GuidPrefix → List ℕ
info_dst_octets prefix = prefix.0

-- the octets of an INFO_SRC that is written; it has no flag of its own. own: the unused octets are written as 0
abbrev pub info_src_octets : Version → Vendor → GuidPrefix → List ℕ
info_src_octets version vendor prefix = 0 ∷ 0 ∷ 0 ∷ 0 ∷ version.major ∷ version.minor ∷ (vendor.0 ++ prefix.0)
