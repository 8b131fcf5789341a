-- Answers of a reader that a recording lacks. DDSI-RTPS 2.5, 8.3.8.1 "AckNack": the count of an ACKNACK goes up with each new one that the
-- reader sends; 8.3.8.12 "NackFrag". own: where counts are left out between two answers, the reader said something in between that is not
-- here. A datagram with a NACK_FRAG alone may take a count, too: some readers count the ACKNACK that they leave out of it. Acts are those of
-- the datagrams that a row is by.
use Rattle.std.specs.Prelude.{ℕ, Bool, false, ◌+◌, ◌-◌, ◌^◌, ◌%◌, ◌==◌, ◌&&◌, nat_lt, if◌then◌else◌, not, List, [], ◌∷◌, Option, Some, None}
use Rattle.std.specs.List.{before_first, find, list_any}
use Rattle.rtps_ids.specs.declared.identity.Guid.{Guid}
use Rattle.rtps_receiver.specs.Said as said
use Rattle.rtps_receiver.specs.Speech as speech
use Rattle.rtps_receiver.specs.Values as values
use Rattle.rtps_audit.specs.Placed as placed_spec
use Rattle.rtps_coverage.specs.Counts as counts
use Rattle.rtps_evidence.specs.Locations as locations
use Rattle.rtps_evidence.specs.Received as received
use Rattle.rtps_evidence.specs.declared.location.Location.{Location}

-- ---- what answers say

-- an act of the reader answers the writer
abbrev pub answers : Guid → Guid → placed_spec.PlacedValue → Bool
answers writer reader placed = speech.is_answer placed.act reader writer

-- an answer says that the reader lacks n
abbrev pub lacks_by_answer : Guid → Guid → ℕ → placed_spec.PlacedValue → Bool
lacks_by_answer writer reader n placed = answers writer reader placed && (said.said placed.act.body).lacked n

-- what stands behind the last act that passes; nothing, where none does
abbrev pub behind_last : (placed_spec.PlacedValue → Bool) → List placed_spec.PlacedValue → List placed_spec.PlacedValue
behind_last test [] = []
behind_last test (placed ∷ acts) = if list_any test acts then behind_last test acts else if test placed then acts else []

-- an answer claims n, behind the last one that says that the reader lacks it
abbrev pub is_claimed_then : Guid → Guid → List placed_spec.PlacedValue → ℕ → Bool
is_claimed_then writer reader acts n = list_any (received.claims writer reader n) (behind_last (lacks_by_answer writer reader n) acts)

-- it is another writer than this one, if there is one
abbrev pub is_another : Guid → Option Guid → Bool
is_another writer (Some other) = not (placed_spec.is_guid writer other)
is_another writer None = false

-- an act of the reader answers another writer
abbrev pub answers_another : Guid → Guid → placed_spec.PlacedValue → Bool
answers_another writer reader placed = placed_spec.is_from reader placed && is_another writer (speech.writer_answered placed.act)

-- ---- what is left out between two answers

-- the count of an ACKNACK
abbrev pub count_of : values.ActBodyValue → ℕ
count_of (values.ActBodyValue.AckNack value) = value.count
count_of (values.ActBodyValue.Data value) = 0
count_of (values.ActBodyValue.Heartbeat value) = 0
count_of (values.ActBodyValue.Gap value) = 0
count_of (values.ActBodyValue.DataFrag value) = 0
count_of (values.ActBodyValue.NackFrag value) = 0

-- how many counts are left out between one and another behind it; counts go round at 2^32
abbrev pub left_out : ℕ → ℕ → ℕ
left_out one other = (other + (2 ^ 32 - 1) - one) % 2 ^ 32

-- an act is a NACK_FRAG of the reader to the writer
abbrev pub asks_for_fragments : Guid → Guid → placed_spec.PlacedValue → Bool
asks_for_fragments writer reader placed = speech.is_request placed.act reader writer && not (speech.is_ack_nack placed.act.body)

-- it is, and stands in a datagram
abbrev pub asks_for_fragments_in : ℕ → Guid → Guid → placed_spec.PlacedValue → Bool
asks_for_fragments_in datagram writer reader placed = (placed.datagram == datagram) && asks_for_fragments writer reader placed

-- an act in a datagram is an ACKNACK of the reader, to whomever
abbrev pub is_ack_nack_in : ℕ → Guid → placed_spec.PlacedValue → Bool
is_ack_nack_in datagram reader placed = (placed.datagram == datagram) && (placed_spec.is_from reader placed && speech.is_ack_nack placed.act.body)

-- a datagram has a NACK_FRAG of the reader to the writer, and no ACKNACK of the reader
abbrev pub asks_for_fragments_alone : Guid → Guid → List placed_spec.PlacedValue → ℕ → Bool
asks_for_fragments_alone writer reader acts datagram =
    list_any (asks_for_fragments_in datagram writer reader) acts && not (list_any (is_ack_nack_in datagram reader) acts)

-- So many counts are left out that an answer lacks: more than there are such datagrams in between. Where 2^31 or more are left out, the
-- counts go back
abbrev pub is_more : ℕ → ℕ → Bool
is_more alone left = nat_lt alone left && nat_lt left (2 ^ 31)

-- an answer lacks between two
abbrev pub lacks_between : Guid → Guid → List placed_spec.PlacedValue → Option placed_spec.PlacedValue → Option placed_spec.PlacedValue → Bool
lacks_between writer reader acts (Some one) (Some other) =
    is_more (counts.count_in (asks_for_fragments_alone writer reader acts) one.datagram other.datagram) (left_out (count_of one.act.body) (count_of other.act.body))
lacks_between writer reader acts (Some one) None = false
lacks_between writer reader acts None other = false

-- an act is an answer behind a place
abbrev pub answers_behind : Location → Guid → Guid → placed_spec.PlacedValue → Bool
answers_behind place writer reader placed = locations.is_behind (Some place) placed && answers writer reader placed

-- an answer lacks around a place: between the first one behind it, and the last one in front of that
abbrev pub lacks_around : Guid → Guid → List placed_spec.PlacedValue → Location → Bool
lacks_around writer reader acts place =
    lacks_between writer reader acts (locations.find_last (answers writer reader) (before_first (answers_behind place writer reader) acts))
    (find (answers_behind place writer reader) acts)
