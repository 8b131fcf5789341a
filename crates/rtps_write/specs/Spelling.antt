-- A grammar of messages: their parts, one after another, and between them the octets that are ignored. DDSI-RTPS 2.5,
-- 8.3.3 "The Overall Structure of an RTPS Message" and 9.4.5 "Mapping of the RTPS Submessages". own: a relation of its
-- own, to check reading and writing against. Laws: a message is read as what it spells, and as nothing else; what is
-- written spells its items. What is ignored may be anything: flags that have no name here, bits of a set past its
-- count, and the parts with the names `ignored`, `unused`, `extra_flags` and `skipped` below.
use Rattle.std.specs.Prelude.{ℕ, pos, ◌+◌, ◌-◌, ◌^◌, ◌≡◌, ◌<◌, ◌==◌, bit_and, bit_or, false, List, [], ◌∷◌, ◌++◌, All, length, map, slice_index, Option, Some, None, ⊤}
use Rattle.std.specs.List.{flat_map}
use Rattle.rtps_ids.specs.NumberSet as number_set
use Rattle.rtps_ids.specs.Octets as octets_spec
use Rattle.rtps_ids.specs.declared.identity.GuidPrefix.{GuidPrefix}
use Rattle.rtps_ids.specs.declared.identity.Stamp.{Stamp}
use Rattle.rtps_ids.specs.declared.identity.Vendor.{Vendor}
use Rattle.rtps_ids.specs.declared.identity.Version.{Version}
use Rattle.rtps_ids.specs.declared.order.Order.{Order}
use Rattle.rtps_wire.specs.Data as wire_data
use Rattle.rtps_wire.specs.Message as message
use Rattle.rtps_wire.specs.Skipped as skipped
use Rattle.rtps_wire.specs.Values as values
use Rattle.rtps_wire.specs.declared.body.AckNackBody.{AckNackBody}
use Rattle.rtps_wire.specs.declared.body.GapBody.{GapBody}
use Rattle.rtps_wire.specs.declared.body.HeartbeatBody.{HeartbeatBody}
use Rattle.rtps_wire.specs.declared.header.Header.{Header}
use Rattle.rtps_wire.specs.declared.layout.ack_nack.TheConstants as ack_nack
use Rattle.rtps_wire.specs.declared.layout.data.TheConstants as data_layout
use Rattle.rtps_wire.specs.declared.layout.heartbeat.TheConstants as heartbeat
use Rattle.rtps_wire.specs.declared.layout.header.TheConstants as header_layout
use Rattle.rtps_wire.specs.declared.layout.info_ts.TheConstants as info_ts
use Rattle.rtps_wire.specs.declared.layout.submessage.TheConstants as submessage
use Rattle.rtps_write.specs.WrittenBodies as written_bodies
use Rattle.rtps_write.specs.Written as written

-- a good set: its base, how many bits it has, and the words that have these bits (9.4.2.6 "SequenceNumberSet"). Later
-- bits of the words are ignored: they are cleared in the set
pub record SpellsSet (order : Order) (set : number_set.NumberSetValue) (octets : List ℕ) : Type 0 where
  pub words : List ℕ
  pub many : length words ≡ number_set.words_of_count set.count
  pub small : All (λ word. word < 2 ^ 32) words
  pub parts : octets ≡ octets_spec.sequence_number_octets order (pos set.base) ++ (octets_spec.octets_of order 4 set.count ++ flat_map (octets_spec.octets_of order 4) words)
  pub kept : set.words ≡ number_set.cleared_words set.count (λ i. slice_index words i)
  pub good : number_set.is_bad (pos set.base) set.count ≡ false

-- 9.4.5.7 "Heartbeat Submessage": readerId, writerId, firstSN, lastSN, count; the last is 0 or above, and no less than
-- the first less one
pub record SpellsHeartbeat (order : Order) (body : HeartbeatBody) (octets : List ℕ) : Type 0 where
  pub ignored : List ℕ
  pub parts : octets ≡ body.reader.0 ++ (body.writer.0 ++ (octets_spec.sequence_number_octets order (pos body.first) ++ (octets_spec.sequence_number_octets order body.last ++ (octets_spec.octets_of order 4 body.count ++ ignored))))
  pub range : written_bodies.is_bad_range body ≡ false

-- 9.4.5.3 "AckNack Submessage": readerId, writerId, readerSNState, count
pub record SpellsAckNack (order : Order) (body : AckNackBody) (octets : List ℕ) : Type 0 where
  pub set : List ℕ
  pub ignored : List ℕ
  pub parts : octets ≡ body.reader.0 ++ (body.writer.0 ++ (set ++ (octets_spec.octets_of order 4 body.count ++ ignored)))
  pub spelled : SpellsSet order body.set set

-- 9.4.5.6 "Gap Submessage": readerId, writerId, gapStart, gapList; the base of the list is not 0
pub record SpellsGap (order : Order) (body : GapBody) (octets : List ℕ) : Type 0 where
  pub list : List ℕ
  pub ignored : List ℕ
  pub parts : octets ≡ body.reader.0 ++ (body.writer.0 ++ (octets_spec.sequence_number_octets order (pos body.start) ++ (list ++ ignored)))
  pub spelled : SpellsSet order body.list list
  pub positive : (body.list.base == 0) ≡ false

-- a payload is all that is left; without one, what is left is ignored
abbrev pub SpellsPayload : values.PayloadValue → List ℕ → Type 0
SpellsPayload values.PayloadValue.Absent ignored = ⊤
SpellsPayload (values.PayloadValue.Whole payload) octets = octets ≡ payload
SpellsPayload (values.PayloadValue.Key payload) octets = octets ≡ payload

-- 9.4.5.4 "Data Submessage": extraFlags, octetsToInlineQos, readerId, writerId, writerSN, the inline QoS in the order
-- of the submessage, and the payload. Octets that octetsToInlineQos skips come before the inline QoS
pub record SpellsData (order : Order) (body : values.DataValue) (octets : List ℕ) : Type 0 where
  pub extra_flags : List ℕ
  pub skipped : List ℕ
  pub payload : List ℕ
  pub two : length extra_flags ≡ 2
  pub near : data_layout.SIZE - data_layout.QOS_FROM + length skipped < 2 ^ 16
  pub parts : octets ≡ extra_flags ++ (octets_spec.octets_of order 2 (data_layout.SIZE - data_layout.QOS_FROM + length skipped) ++ (body.reader.0 ++ (body.writer.0 ++ (octets_spec.sequence_number_octets order (pos body.number) ++ (skipped ++ (wire_data.qos_octets body.qos ++ payload))))))
  pub same_order : written_bodies.is_other_order order body.qos ≡ false
  pub spelled : SpellsPayload body.payload payload

-- 9.4.5.12 "InfoTimestamp Submessage": seconds and fraction; with flag I the body is ignored
abbrev pub SpellsTime : Order → Option Stamp → List ℕ → Type 0
SpellsTime order None ignored = ⊤
SpellsTime order (Some stamp) octets = (ignored : List ℕ) × (octets ≡ octets_spec.octets_of order 4 stamp.seconds ++ (octets_spec.octets_of order 4 stamp.fraction ++ ignored))

-- 9.4.5.9 "InfoDestination Submessage": guidPrefix
abbrev pub SpellsDestination : GuidPrefix → List ℕ → Type 0
SpellsDestination prefix octets = (ignored : List ℕ) × (octets ≡ prefix.0 ++ ignored)

-- 9.4.5.11 "InfoSource Submessage": four unused octets, protocolVersion, vendorId, guidPrefix
pub record SpellsSource (version : Version) (vendor : Vendor) (prefix : GuidPrefix) (octets : List ℕ) : Type 0 where
  pub unused : List ℕ
  pub ignored : List ℕ
  pub four : length unused ≡ 4
  pub parts : octets ≡ unused ++ (version.major ∷ version.minor ∷ (vendor.0 ++ (prefix.0 ++ ignored)))

-- a body, by its kind; a body that is not read may be any octets
abbrev pub SpellsBody : Order → values.BodyValue → List ℕ → Type 0
SpellsBody order (values.BodyValue.Data body) octets = SpellsData order body octets
SpellsBody order (values.BodyValue.Heartbeat body) octets = SpellsHeartbeat order body octets
SpellsBody order (values.BodyValue.AckNack body) octets = SpellsAckNack order body octets
SpellsBody order (values.BodyValue.Gap body) octets = SpellsGap order body octets
SpellsBody order (values.BodyValue.InfoTs time) octets = SpellsTime order time octets
SpellsBody order (values.BodyValue.InfoDst prefix) octets = SpellsDestination prefix octets
SpellsBody order (values.BodyValue.InfoSrc version vendor prefix) octets = SpellsSource version vendor prefix octets
SpellsBody order (values.BodyValue.Skipped id) octets = skipped.is_read id ≡ false

-- the flags that have a name for a kind; any other is ignored (9.4.5.1.2 "Flags"), and so is flag N of a DATA
abbrev pub named_flags : values.BodyValue → ℕ
named_flags (values.BodyValue.Data body) = bit_or submessage.E (bit_or data_layout.Q (bit_or data_layout.D data_layout.K))
named_flags (values.BodyValue.Heartbeat body) = bit_or submessage.E (bit_or heartbeat.FINAL heartbeat.LIVELINESS)
named_flags (values.BodyValue.AckNack body) = bit_or submessage.E ack_nack.FINAL
named_flags (values.BodyValue.InfoTs time) = bit_or submessage.E info_ts.INVALIDATE
named_flags _ = submessage.E

-- a submessage that is followed by the octets `later`: submessageId, flags, octetsToNextHeader, and the body.
-- octetsToNextHeader is the length of the body, or 0 if the body is all that is left
pub record SpellsSubmessage (order : Order) (value : values.BodyValue) (octets later : List ℕ) : Type 0 where
  pub flags : ℕ
  pub declared : ℕ
  pub body : List ℕ
  pub short : declared < 2 ^ 16
  pub parts : octets ≡ written.written_id value ∷ flags ∷ (octets_spec.octets_of order 2 declared ++ body)
  pub named : bit_and flags (named_flags value) ≡ written.written_flags order value
  pub extent : length body ≡ message.extent_of (written.written_id value) declared (length body + length later)
  pub spelled : SpellsBody order value body

-- items, one after another; their places do not matter
abbrev pub SpellsItems : List values.ItemValue → List ℕ → Type 0
SpellsItems [] octets = octets ≡ []
SpellsItems (item ∷ items) octets = (first : List ℕ) × (later : List ℕ) × (octets ≡ first ++ later) × SpellsSubmessage item.order item.body first later × SpellsItems items later

-- a message: its header, of which no octet is ignored, and its items
pub record Spells (header : Header) (items : List values.ItemValue) (message : List ℕ) : Type 0 where
  pub rest : List ℕ
  pub version : header.version.major ≡ header_layout.VERSION
  pub parts : message ≡ written.header_octets header ++ rest
  pub spelled : SpellsItems items rest

-- an item without its place
abbrev pub unplaced : values.ItemValue → values.ItemValue
unplaced item = record item { at = 0 }

-- the reading has this header and these items, at any places, and no refusal
pub record IsReadAs (header : Header) (items : List values.ItemValue) (reading : message.Reading) : Type 0 where
  pub header_is : reading.header ≡ Some header
  pub items_are : map unplaced reading.items ≡ map unplaced items
  pub clean : reading.ending ≡ None

-- two messages are alike if both spell the same header and items: they differ only in what is ignored
pub record AreAlike (message other : List ℕ) : Type 0 where
  pub header : Header
  pub items : List values.ItemValue
  pub one : Spells header items message
  pub two : Spells header items other
