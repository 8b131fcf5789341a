-- Where a recording shows what a pair said: who announced a number, who told it, what was sent for it, and what was
-- answered. DDSI-RTPS 2.5, 8.3.8.1 "AckNack", 8.3.8.2 "Data", 8.3.8.3 "DataFrag", 8.3.8.4 "Gap" and 8.3.8.6
-- "Heartbeat". Acts are those of a recording, by datagram and then by place.
use Rattle.std.specs.Prelude.{ℕ, pos, Bool, true, false, ◌≡◌, ◌==◌, ◌&&◌, ◌||◌, nat_lt, if◌then◌else◌, List, filter, map, Option, Some, None, is_some, not, unwrap_or}
use Rattle.std.specs.List.{find, last_or}
use Rattle.std.specs.Option.{option_map}
use Rattle.std.specs.Str.{bytes_eq}
use Rattle.rtps_ids.specs.declared.identity.Guid.{Guid}
use Rattle.rtps_wire.specs.Values as wire_values
use Rattle.rtps_receiver.specs.Said as said
use Rattle.rtps_receiver.specs.Speech as receiver_speech
use Rattle.rtps_receiver.specs.Values as receiver_values
use Rattle.rtps_audit.specs.Delivery as delivery
use Rattle.rtps_audit.specs.Placed as placed
use Rattle.rtps_audit.specs.Speech as audit_speech
use Rattle.rtps_audit.specs.declared.answer.Answer.{Answer}
use Rattle.rtps_evidence.specs.declared.location.Location.{Location}
use Rattle.rtps_evidence.specs.declared.location.Kind.{Kind}
use Rattle.rtps_evidence.specs.declared.last_announcement.Announcement.{Announcement}
use Rattle.rtps_evidence.specs.declared.acknowledgement.Claim.{Claim}
use Rattle.rtps_evidence.specs.declared.teller.Teller.{Teller}
use Rattle.rtps_evidence.specs.declared.sent_payload.Sent.{Sent}

-- where an act stands
abbrev pub location_of : placed.PlacedValue → Location
location_of placed = record { datagram = placed.datagram; at = placed.act.at }

-- an act stands behind a place: in a later datagram, or as a later submessage of the same one. Behind no place stands all
abbrev pub is_behind : Option Location → placed.PlacedValue → Bool
is_behind None placed = true
is_behind (Some place) placed = nat_lt place.datagram placed.datagram || ((place.datagram == placed.datagram) && nat_lt place.at placed.act.at)

-- an act stands before a place: in an earlier datagram, or as an earlier submessage of the same one
abbrev pub is_before : Location → placed.PlacedValue → Bool
is_before place placed = nat_lt placed.datagram place.datagram || ((placed.datagram == place.datagram) && nat_lt placed.act.at place.at)

-- the last act that passes
abbrev pub find_last : (placed.PlacedValue → Bool) → List placed.PlacedValue → Option placed.PlacedValue
find_last test acts = last_or None (filter test acts)

-- which submessage it is
abbrev pub kind_of : receiver_values.ActBodyValue → Kind
kind_of (receiver_values.ActBodyValue.Data value) = Kind.Data
kind_of (receiver_values.ActBodyValue.Heartbeat value) = Kind.Heartbeat
kind_of (receiver_values.ActBodyValue.AckNack value) = Kind.AckNack
kind_of (receiver_values.ActBodyValue.Gap value) = Kind.Gap
kind_of (receiver_values.ActBodyValue.DataFrag value) = Kind.DataFrag
kind_of (receiver_values.ActBodyValue.NackFrag value) = Kind.NackFrag

-- it is a GAP
abbrev pub is_gap : receiver_values.ActBodyValue → Bool
is_gap (receiver_values.ActBodyValue.Gap value) = true
is_gap (receiver_values.ActBodyValue.Data value) = false
is_gap (receiver_values.ActBodyValue.Heartbeat value) = false
is_gap (receiver_values.ActBodyValue.AckNack value) = false
is_gap (receiver_values.ActBodyValue.DataFrag value) = false
is_gap (receiver_values.ActBodyValue.NackFrag value) = false

-- what an act says of numbers to the reader, where it hears the act from the writer
abbrev pub said_to : Guid → Guid → placed.PlacedValue → said.SaidValue
said_to writer reader placed = if receiver_speech.is_spoken_by placed.act writer && receiver_speech.is_heard_by placed.act reader then said.said placed.act.body else said.nothing

-- the number that the writer announces by an act, whoever hears it, or 0
abbrev pub number_said : Guid → placed.PlacedValue → ℕ
number_said writer placed = unwrap_or (audit_speech.announced_for writer placed.act) 0

-- the base by which an act of the reader answers the writer, or 0
abbrev pub base_said : Guid → Guid → placed.PlacedValue → ℕ
base_said writer reader placed = unwrap_or (audit_speech.base_for writer reader placed.act) 0

-- the reader hears a word for n from the writer
abbrev pub tells : Guid → Guid → ℕ → placed.PlacedValue → Bool
tells writer reader n placed = is_some (audit_speech.word_for writer reader placed.act n)

-- the payload of a word
abbrev pub payload_in : Option delivery.Word → Option wire_values.PayloadValue
payload_in (Some (delivery.Word.Told payload)) = Some payload
payload_in (Some delivery.Word.Gone) = None
payload_in None = None

-- the payload that the reader hears for n from the writer
abbrev pub payload_for : Guid → Guid → ℕ → placed.PlacedValue → Option wire_values.PayloadValue
payload_for writer reader n placed = payload_in (audit_speech.word_for writer reader placed.act n)

-- the reader hears one
abbrev pub sends : Guid → Guid → ℕ → placed.PlacedValue → Bool
sends writer reader n placed = is_some (payload_for writer reader n placed)

-- two payloads are of one kind, with the same octets
abbrev pub is_same : wire_values.PayloadValue → wire_values.PayloadValue → Bool
is_same wire_values.PayloadValue.Absent wire_values.PayloadValue.Absent = true
is_same (wire_values.PayloadValue.Whole one) (wire_values.PayloadValue.Whole other) = bytes_eq one other
is_same (wire_values.PayloadValue.Key one) (wire_values.PayloadValue.Key other) = bytes_eq one other
is_same _ _ = false

-- the second is there, and is another
abbrev pub differs : wire_values.PayloadValue → Option wire_values.PayloadValue → Bool
differs one None = false
differs one (Some other) = not (is_same one other)

-- an act as the announcement of a number
abbrev pub announcement_at : ℕ → placed.PlacedValue → Announcement
announcement_at number placed = record { number = pos number; kind = kind_of placed.act.body; place = location_of placed }

-- the first act that announces this number, where it is asked for
abbrev pub announcement_of : ℕ → Guid → ℕ → List placed.PlacedValue → Option Announcement
announcement_of from writer number acts =
    if delivery.is_asked from number then option_map (announcement_at number) (find (λ placed. number_said writer placed == number) acts) else None

-- an act as an answer of the reader to the writer
abbrev pub claim_at : Guid → Guid → placed.PlacedValue → Claim
claim_at writer reader placed = record { below = pos (base_said writer reader placed); place = location_of placed }

-- an answer that is kept, as a claim
abbrev pub claim_in : Answer → Claim
claim_in answer = record { below = pos (said.natural answer.base); place = record { datagram = answer.datagram; at = answer.at } }

-- the greatest base of all answers of the reader to the writer, or 0
abbrev pub greatest_base : Guid → Guid → List placed.PlacedValue → ℕ
greatest_base writer reader acts = delivery.greatest (map (base_said writer reader) acts)

-- the reader acknowledges some number of the writer, by whatever answer: its base is above 1
abbrev pub acknowledges : Guid → Guid → List placed.PlacedValue → Bool
acknowledges writer reader acts = nat_lt 1 (greatest_base writer reader acts)

-- the first answer with the greatest base of all answers, where that is above the first number that is asked for
abbrev pub acknowledgement_of : ℕ → Guid → Guid → List placed.PlacedValue → Option Claim
acknowledgement_of from writer reader acts =
    if nat_lt from (greatest_base writer reader acts)
    then option_map (claim_at writer reader) (find (λ placed. base_said writer reader placed == greatest_base writer reader acts) acts)
    else None

-- the first answer in a datagram that claims n: its base is above it
abbrev pub claim_of : Guid → Guid → ℕ → ℕ → List placed.PlacedValue → Option Claim
claim_of writer reader datagram n acts =
    option_map (claim_at writer reader) (find (λ placed. (placed.datagram == datagram) && nat_lt n (base_said writer reader placed)) acts)

-- an act as one that tells a number
abbrev pub teller_at : placed.PlacedValue → Teller
teller_at placed = record { kind = kind_of placed.act.body; place = location_of placed }

-- the first act that tells n
abbrev pub teller_of : Guid → Guid → ℕ → List placed.PlacedValue → Option Teller
teller_of writer reader n acts = option_map teller_at (find (tells writer reader n) acts)

-- a payload, and where it stands
pub record SentValue : Type 0 where
  pub payload : Option wire_values.PayloadValue
  pub place : Location

-- what a payload of the code, with its place, stands for
abbrev pub sent_value : Sent → SentValue
sent_value sent = record { payload = Some (wire_values.payload_value sent.payload); place = sent.place }

-- what an act sends for n, and where it stands
abbrev pub sent_at : Guid → Guid → ℕ → placed.PlacedValue → SentValue
sent_at writer reader n placed = record { payload = payload_for writer reader n placed; place = location_of placed }

-- the first act with a payload for n
abbrev pub first_sending : Guid → Guid → ℕ → List placed.PlacedValue → Option placed.PlacedValue
first_sending writer reader n acts = find (sends writer reader n) acts

-- the first act with another payload for n than this one. What stands before the first one has none, so this stands behind it
abbrev pub other_sending : Guid → Guid → ℕ → Option wire_values.PayloadValue → List placed.PlacedValue → Option placed.PlacedValue
other_sending writer reader n None acts = None
other_sending writer reader n (Some payload) acts = find (λ placed. differs payload (payload_for writer reader n placed)) acts

-- the payload for n of an act, if there is one
abbrev pub payload_at : Guid → Guid → ℕ → Option placed.PlacedValue → Option wire_values.PayloadValue
payload_at writer reader n None = None
payload_at writer reader n (Some placed) = payload_for writer reader n placed

-- what the first act with a payload for n sends
abbrev pub first_sent : Guid → Guid → ℕ → List placed.PlacedValue → Option SentValue
first_sent writer reader n acts = option_map (sent_at writer reader n) (first_sending writer reader n acts)

-- what the first act with another payload for n than that one sends
abbrev pub other_sent : Guid → Guid → ℕ → List placed.PlacedValue → Option SentValue
other_sent writer reader n acts =
    option_map (sent_at writer reader n) (other_sending writer reader n (payload_at writer reader n (first_sending writer reader n acts)) acts)

-- it is what these acts send for n at first, and what the first of them sends that has another payload
pub record AreSent (writer reader : Guid) (n : ℕ) (acts : List placed.PlacedValue) (first other : Option SentValue) : Type 0 where
  pub first_is : first ≡ first_sent writer reader n acts
  pub other_is : other ≡ other_sent writer reader n acts
