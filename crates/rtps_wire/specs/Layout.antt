-- The ids, flags, sizes and offsets of messages, as the standard has them. Each value is written only here and in
-- `layout`. DDSI-RTPS 2.5, 9.4.4 "Mapping of the RTPS Header" and 9.4.5 "Mapping of the RTPS Submessages".
use Rattle.std.specs.Prelude.{◌≡◌, [], ◌∷◌}
use Rattle.rtps_wire.specs.declared.layout.header.TheConstants as header
use Rattle.rtps_wire.specs.declared.layout.submessage.TheConstants as submessage
use Rattle.rtps_wire.specs.declared.layout.id.TheConstants as id
use Rattle.rtps_wire.specs.declared.layout.ack_nack.TheConstants as ack_nack
use Rattle.rtps_wire.specs.declared.layout.data.TheConstants as data_fields
use Rattle.rtps_wire.specs.declared.layout.data_frag.TheConstants as data_frag
use Rattle.rtps_wire.specs.declared.layout.nack_frag.TheConstants as nack_frag
use Rattle.rtps_wire.specs.declared.layout.gap.TheConstants as gap
use Rattle.rtps_wire.specs.declared.layout.heartbeat.TheConstants as heartbeat
use Rattle.rtps_wire.specs.declared.layout.info_ts.TheConstants as info_ts
use Rattle.rtps_wire.specs.declared.layout.info_dst.TheConstants as info_dst

-- The header of a message (DDSI-RTPS 2.5, 9.4.4 "Mapping of the RTPS Header"), which begins with `RTPS`, and the
-- version of the messages that are read.
abbrev pub header_is : Type 0
header_is = (header.SIZE ≡ 20) × (header.PROTOCOL ≡ 82 ∷ 84 ∷ 80 ∷ 83 ∷ []) × (header.MAJOR ≡ 4) × (header.MINOR ≡ 5) × (header.VENDOR ≡ 6) × (header.PREFIX ≡ 8) × (header.VERSION ≡ 2)

-- The header of a submessage (DDSI-RTPS 2.5, 9.4.5.1 "Submessage Header").
abbrev pub submessage_is : Type 0
submessage_is = (submessage.SIZE ≡ 4) × (submessage.ID ≡ 0) × (submessage.FLAGS ≡ 1) × (submessage.OCTETS_TO_NEXT ≡ 2) × (submessage.ALIGNMENT ≡ 4) × (submessage.E ≡ 1)

-- The ids of submessages (DDSI-RTPS 2.5, 9.4.5.1.1 "SubmessageId").
abbrev pub id_is : Type 0
id_is = (id.PAD ≡ 0x01) × (id.ACKNACK ≡ 0x06) × (id.HEARTBEAT ≡ 0x07) × (id.GAP ≡ 0x08) × (id.INFO_TS ≡ 0x09) × (id.INFO_SRC ≡ 0x0c) × (id.INFO_DST ≡ 0x0e) × (id.NACK_FRAG ≡ 0x12) × (id.HEARTBEAT_FRAG ≡ 0x13) × (id.DATA ≡ 0x15) × (id.DATA_FRAG ≡ 0x16)

-- ACKNACK (DDSI-RTPS 2.5, 9.4.5.3 "AckNack Submessage"). Its count comes after the set.
abbrev pub ack_nack_is : Type 0
ack_nack_is = (ack_nack.READER ≡ 0) × (ack_nack.WRITER ≡ 4) × (ack_nack.SET ≡ 8) × (ack_nack.LEAST ≡ 24) × (ack_nack.FINAL ≡ 2)

-- DATA (DDSI-RTPS 2.5, 9.4.5.4 "Data Submessage").
abbrev pub data_is : Type 0
data_is = (data_fields.OCTETS_TO_QOS ≡ 2) × (data_fields.QOS_FROM ≡ 4) × (data_fields.READER ≡ 4) × (data_fields.WRITER ≡ 8) × (data_fields.NUMBER ≡ 12) × (data_fields.SIZE ≡ 20) × (data_fields.Q ≡ 0x02) × (data_fields.D ≡ 0x04) × (data_fields.K ≡ 0x08) × (data_fields.N ≡ 0x10)

-- DATA_FRAG (DDSI-RTPS 2.5, 9.4.5.5 "DataFrag Submessage"). octetsToInlineQos and flag Q are as in a DATA.
abbrev pub data_frag_is : Type 0
data_frag_is = (data_frag.READER ≡ 4) × (data_frag.WRITER ≡ 8) × (data_frag.NUMBER ≡ 12) × (data_frag.FIRST ≡ 20) × (data_frag.COUNT ≡ 24) × (data_frag.FRAGMENT ≡ 26) × (data_frag.SAMPLE ≡ 28) × (data_frag.SIZE ≡ 32) × (data_frag.K ≡ 0x04)

-- NACK_FRAG (DDSI-RTPS 2.5, 9.4.5.14 "NackFrag Submessage"). Its count comes after the words of its set.
abbrev pub nack_frag_is : Type 0
nack_frag_is = (nack_frag.READER ≡ 0) × (nack_frag.WRITER ≡ 4) × (nack_frag.NUMBER ≡ 8) × (nack_frag.BASE ≡ 16) × (nack_frag.BITS ≡ 20) × (nack_frag.WORDS ≡ 24)

-- GAP (DDSI-RTPS 2.5, 9.4.5.6 "Gap Submessage").
abbrev pub gap_is : Type 0
gap_is = (gap.READER ≡ 0) × (gap.WRITER ≡ 4) × (gap.START ≡ 8) × (gap.LIST ≡ 16) × (gap.LEAST ≡ 28)

-- HEARTBEAT (DDSI-RTPS 2.5, 9.4.5.7 "Heartbeat Submessage").
abbrev pub heartbeat_is : Type 0
heartbeat_is = (heartbeat.READER ≡ 0) × (heartbeat.WRITER ≡ 4) × (heartbeat.FIRST ≡ 8) × (heartbeat.LAST ≡ 16) × (heartbeat.COUNT ≡ 24) × (heartbeat.SIZE ≡ 28) × (heartbeat.FINAL ≡ 2) × (heartbeat.LIVELINESS ≡ 4)

-- INFO_TS (DDSI-RTPS 2.5, 9.4.5.12 "InfoTimestamp Submessage").
abbrev pub info_ts_is : Type 0
info_ts_is = (info_ts.SECONDS ≡ 0) × (info_ts.FRACTION ≡ 4) × (info_ts.SIZE ≡ 8) × (info_ts.INVALIDATE ≡ 2)

-- INFO_DST (DDSI-RTPS 2.5, 9.4.5.9 "InfoDestination Submessage").
abbrev pub info_dst_is : Type 0
info_dst_is = (info_dst.PREFIX ≡ 0) × (info_dst.SIZE ≡ 12)
