-- Which of two recordings was made at which side of a pair. DDSI-RTPS 2.5, 8.3.4 "The RTPS Message Receiver": what was sent does not always
-- arrive, and what arrived was sent.
-- own: what a writer says stands in a recording of its side wherever it was lost, and an answer stands in one of the reader's side. So a
-- writer's act that the other recording alone has, or an answer that the first one alone has, tells that the two were swapped. Two
-- recordings never begin and end together: what stands before the fifth act that both have, or behind the fifth from the end, tells nothing.
use Rattle.std.specs.Prelude.{ℕ, Bool, true, false, ◌+◌, ◌*◌, ◌≡◌, ◌==◌, ◌&&◌, ◌||◌, nat_le, nat_lt, not, filter, length, List, Option, Some, None}
use Rattle.std.specs.List.{list_any}
use Rattle.std.specs.List.Sorted.{IsNonDecreasingBy}
use Rattle.std.specs.Ordering.{int_eq}
use Rattle.std.specs.Str.{bytes_eq}
use Rattle.rtps_ids.specs.NumberSet as number_set
use Rattle.rtps_ids.specs.declared.identity.GuidPrefix.{GuidPrefix}
use Rattle.rtps_params.specs.Lists as lists
use Rattle.rtps_wire.specs.Values as wire_values
use Rattle.rtps_wire.specs.declared.body.AckNackBody.{AckNackBody}
use Rattle.rtps_wire.specs.declared.body.GapBody.{GapBody}
use Rattle.rtps_wire.specs.declared.body.HeartbeatBody.{HeartbeatBody}
use Rattle.rtps_wire.specs.declared.data_frag.Shape.{Shape}
use Rattle.rtps_wire.specs.declared.nack_frag.NackFrag.{NackFrag as NackFragBody}
use Rattle.rtps_receiver.specs.Said as said
use Rattle.rtps_receiver.specs.Speech as speech
use Rattle.rtps_receiver.specs.Values as receiver_values
use Rattle.rtps_discovery.specs.declared.matching.Pair.{Pair}
use Rattle.rtps_audit.specs.Placed as placed
use Rattle.rtps_audit.specs.declared.placed.Placed.{Placed}
use Rattle.rtps_evidence.specs.Locations as locations
use Rattle.rtps_evidence.specs.declared.location.Location.{Location}
use Rattle.rtps_evidence.specs.declared.way.Way.{Way}

-- ---- two acts are the same: in source, destination and body

-- two flags
abbrev pub is_same_flag : Bool → Bool → Bool
is_same_flag true other = other
is_same_flag false other = not other

-- two sets of numbers
abbrev pub is_same_set : number_set.NumberSetValue → number_set.NumberSetValue → Bool
is_same_set one other = (one.base == other.base) && ((one.count == other.count) && bytes_eq one.words other.words)

-- two payloads
abbrev pub is_same_payload : wire_values.PayloadValue → wire_values.PayloadValue → Bool
is_same_payload wire_values.PayloadValue.Absent wire_values.PayloadValue.Absent = true
is_same_payload (wire_values.PayloadValue.Whole one) (wire_values.PayloadValue.Whole other) = bytes_eq one other
is_same_payload (wire_values.PayloadValue.Key one) (wire_values.PayloadValue.Key other) = bytes_eq one other
is_same_payload _ _ = false

-- two ways to send a sample in fragments
abbrev pub is_same_shape : Shape → Shape → Bool
is_same_shape one other = (one.sample == other.sample) && ((one.fragment == other.fragment) && is_same_flag one.is_key other.is_key)

-- the fragments of two DATA_FRAGs, where they send some
abbrev pub is_same_part : Option receiver_values.SentPartValue → Option receiver_values.SentPartValue → Bool
is_same_part None None = true
is_same_part (Some one) (Some other) = (one.first == other.first) && (is_same_shape one.shape other.shape && bytes_eq one.octets other.octets)
is_same_part _ _ = false

-- what a sample was put together to, if it was
abbrev pub is_same_told : Option wire_values.PayloadValue → Option wire_values.PayloadValue → Bool
is_same_told None None = true
is_same_told (Some one) (Some other) = is_same_payload one other
is_same_told _ _ = false

-- two parameter lists, where there are some
abbrev pub is_same_qos : Option lists.ListValue → Option lists.ListValue → Bool
is_same_qos None None = true
is_same_qos (Some one) (Some other) = lists.is_same_order one.order other.order && bytes_eq one.octets other.octets
is_same_qos _ _ = false

-- two DATA
abbrev pub is_same_data : wire_values.DataValue → wire_values.DataValue → Bool
is_same_data one other =
    speech.is_entity one.reader other.reader && (speech.is_entity one.writer other.writer && ((one.number == other.number)
    && (is_same_qos one.qos other.qos && is_same_payload one.payload other.payload)))

-- two HEARTBEATs
abbrev pub is_same_heartbeat : HeartbeatBody → HeartbeatBody → Bool
is_same_heartbeat one other =
    speech.is_entity one.reader other.reader && (speech.is_entity one.writer other.writer && ((one.first == other.first) && (int_eq one.last other.last
    && ((one.count == other.count) && (is_same_flag one.is_final other.is_final && is_same_flag one.live other.live)))))

-- two ACKNACKs
abbrev pub is_same_ack_nack : AckNackBody → AckNackBody → Bool
is_same_ack_nack one other =
    speech.is_entity one.reader other.reader && (speech.is_entity one.writer other.writer && (is_same_set one.set other.set
    && ((one.count == other.count) && is_same_flag one.is_final other.is_final)))

-- two GAPs
abbrev pub is_same_gap : GapBody → GapBody → Bool
is_same_gap one other =
    speech.is_entity one.reader other.reader && (speech.is_entity one.writer other.writer && ((one.start == other.start) && is_same_set one.list other.list))

-- two DATA_FRAGs
abbrev pub is_same_fragment : receiver_values.FragmentValue → receiver_values.FragmentValue → Bool
is_same_fragment one other =
    speech.is_entity one.reader other.reader && (speech.is_entity one.writer other.writer && ((one.number == other.number)
    && (is_same_part one.sent other.sent && is_same_told one.told other.told)))

-- two NACK_FRAGs
abbrev pub is_same_nack_frag : NackFragBody → NackFragBody → Bool
is_same_nack_frag one other =
    speech.is_entity one.reader other.reader && (speech.is_entity one.writer other.writer && ((one.number == other.number)
    && (is_same_set one.set other.set && (one.count == other.count))))

-- two bodies: they are of one kind, and the same
abbrev pub is_same_body : receiver_values.ActBodyValue → receiver_values.ActBodyValue → Bool
is_same_body (receiver_values.ActBodyValue.Data one) (receiver_values.ActBodyValue.Data other) = is_same_data one other
is_same_body (receiver_values.ActBodyValue.Heartbeat one) (receiver_values.ActBodyValue.Heartbeat other) = is_same_heartbeat one other
is_same_body (receiver_values.ActBodyValue.AckNack one) (receiver_values.ActBodyValue.AckNack other) = is_same_ack_nack one other
is_same_body (receiver_values.ActBodyValue.Gap one) (receiver_values.ActBodyValue.Gap other) = is_same_gap one other
is_same_body (receiver_values.ActBodyValue.DataFrag one) (receiver_values.ActBodyValue.DataFrag other) = is_same_fragment one other
is_same_body (receiver_values.ActBodyValue.NackFrag one) (receiver_values.ActBodyValue.NackFrag other) = is_same_nack_frag one other
is_same_body _ _ = false

-- two destinations, where there are some
abbrev pub is_same_dest : Option GuidPrefix → Option GuidPrefix → Bool
is_same_dest None None = true
is_same_dest (Some one) (Some other) = speech.is_prefix one other
is_same_dest _ _ = false

-- two acts, wherever in their datagrams they stand
unfoldable pub is_same_act : receiver_values.ActValue → receiver_values.ActValue → Bool
is_same_act one other = speech.is_prefix one.source other.source && (is_same_dest one.dest other.dest && is_same_body one.body other.body)

-- the same, in whichever datagrams they stand
abbrev pub is_same : placed.PlacedValue → placed.PlacedValue → Bool
is_same one other = is_same_act one.act other.act

-- ---- what a pair said

-- the writer says it and the reader hears it
abbrev pub is_said_to : Pair → placed.PlacedValue → Bool
is_said_to pair at = speech.is_spoken_by at.act pair.writer && speech.is_heard_by at.act pair.reader

-- the writer says it and the reader hears it, or the reader answers the writer
abbrev pub is_between : Pair → placed.PlacedValue → Bool
is_between pair at = is_said_to pair at || speech.is_answer at.act pair.reader pair.writer

-- of these acts, what a pair said
abbrev pub words_of : Pair → List placed.PlacedValue → List placed.PlacedValue
words_of pair acts = filter (is_between pair) acts

-- the other recording has the same act
unfoldable pub is_shared : List placed.PlacedValue → placed.PlacedValue → Bool
is_shared other at = list_any (is_same at) other

-- of acts of one recording, at least five that the other has stand before it, and at least five behind it
abbrev pub is_inside : List placed.PlacedValue → List placed.PlacedValue → placed.PlacedValue → Bool
is_inside own other at =
    nat_le 5 (length (filter (λ one. is_shared other one && locations.is_before (locations.location_of at) one) own))
    && nat_le 5 (length (filter (λ one. is_shared other one && locations.is_behind (Some (locations.location_of at)) one) own))

-- the other recording lacks it, in the midst of what both have
abbrev pub is_alone : List placed.PlacedValue → List placed.PlacedValue → placed.PlacedValue → Bool
is_alone own other at = not (is_shared other at) && is_inside own other at

-- such an act of the writer
abbrev pub has_lone_act : List placed.PlacedValue → List placed.PlacedValue → Bool
has_lone_act own other = list_any (λ at. not (speech.is_ack_nack at.act.body) && is_alone own other at) own

-- such an answer of the reader
abbrev pub has_lone_answer : List placed.PlacedValue → List placed.PlacedValue → Bool
has_lone_answer own other = list_any (λ at. speech.is_ack_nack at.act.body && is_alone own other at) own

-- ---- which way round they are

-- by what tells the one, and by what tells the other
abbrev pub way_by : Bool → Bool → Way
way_by true true = Way.Both
way_by true false = Way.Right
way_by false true = Way.Wrong
way_by false false = Way.Alike

-- the first has an act of the writer that the second lacks, or the second an answer that the first lacks; and the opposite
unfoldable pub way_between : List placed.PlacedValue → List placed.PlacedValue → Way
way_between first second =
    way_by (has_lone_act first second || has_lone_answer second first) (has_lone_act second first || has_lone_answer first second)

-- the same of a pair, by the acts of two recordings
abbrev pub way_of_pair : Pair → List (List receiver_values.ActValue) → List (List receiver_values.ActValue) → Way
way_of_pair pair first second = way_between (words_of pair (placed.placed_in first)) (words_of pair (placed.placed_in second))

-- they are the wrong way round
abbrev pub is_wrong : Way → Bool
is_wrong Way.Wrong = true
is_wrong Way.Right = false
is_wrong Way.Both = false
is_wrong Way.Alike = false

-- each test passes as often among these as among those: they are the same acts, in whichever order
abbrev pub AreAsOften : List placed.PlacedValue → List placed.PlacedValue → Type 0
AreAsOften these those = (test : placed.PlacedValue → Bool) → length (filter test these) ≡ length (filter test those)

-- ---- where an act is looked for

-- of two acts that are the same these are the same: the number of a sample, of a GAP's first, of a HEARTBEAT's last or of an ACKNACK's base,
-- and the count
abbrev pub key_by : ℕ → ℕ → ℕ
key_by number count = number * 4294967296 + count

-- the key of a body
abbrev pub key_of_body : receiver_values.ActBodyValue → ℕ
key_of_body (receiver_values.ActBodyValue.Data value) = key_by value.number 0
key_of_body (receiver_values.ActBodyValue.Heartbeat value) = key_by (said.natural value.last) value.count
key_of_body (receiver_values.ActBodyValue.AckNack value) = key_by value.set.base value.count
key_of_body (receiver_values.ActBodyValue.Gap value) = key_by value.start 0
key_of_body (receiver_values.ActBodyValue.DataFrag value) = key_by value.number 0
key_of_body (receiver_values.ActBodyValue.NackFrag value) = key_by value.number value.count

-- the key of an act
abbrev pub key_of : placed.PlacedValue → ℕ
key_of at = key_of_body at.act.body

-- acts stand by their keys
abbrev pub AreByKey : List Placed → Type 0
AreByKey acts = IsNonDecreasingBy (λ one. key_of (placed.placed_value one)) acts

-- ---- the window

-- one place stands before another
abbrev pub goes_before : Location → Location → Bool
goes_before one other = nat_lt one.datagram other.datagram || ((one.datagram == other.datagram) && nat_lt one.at other.at)

-- behind lo stands what has at least five of these places before it, and before hi what has at least five behind it
pub record IsWindow (places : List Location) (lo hi : Location) : Type 0 where
  pub low : (place : Location) → nat_le 5 (length (filter (λ one. goes_before one place) places)) ≡ goes_before lo place
  pub high : (place : Location) → nat_le 5 (length (filter (goes_before place) places)) ≡ goes_before place hi

-- a place stands in it
abbrev pub is_within : Location → Location → Location → Bool
is_within lo hi place = goes_before lo place && goes_before place hi
