-- Which numbers a reader missed. DDSI-RTPS 2.5, 8.3.8.1 "AckNack": the set of an ACKNACK names the numbers that the reader lacks.
-- own: a number that is not received mostly came all the same; one that was asked for and not sent, or sent and asked for again, is the
-- alarm. It is none where the number is sent again, an answer lacks around that, and the reader claims the number then: what lacks may have said
-- that the reader has it. Acts are those of the datagrams that a row is by; `since` is the place behind which the reader is there (None: everywhere);
-- `there` says which numbers another recording has a payload of, which was made at the reader's host (none, where there is none).
use Rattle.std.specs.Prelude.{ℕ, Bool, false, ◌+◌, ◌≡◌, ◌&&◌, ◌||◌, not, is_some, List, [], ◌∷◌, Option, Some, None}
use Rattle.std.specs.List.{find, list_any}
use Rattle.std.specs.Option.{option_map}
use Rattle.rtps_ids.specs.declared.identity.Guid.{Guid}
use Rattle.rtps_receiver.specs.Said as said
use Rattle.rtps_receiver.specs.Speech as speech
use Rattle.rtps_discovery.specs.Endpoint as endpoint
use Rattle.rtps_discovery.specs.Notice as notice
use Rattle.rtps_audit.specs.Placed as placed
use Rattle.rtps_audit.specs.declared.announced_places.AnnouncedPlace.{AnnouncedPlace}
use Rattle.rtps_coverage.specs.Counts as counts
use Rattle.rtps_evidence.specs.Locations as locations
use Rattle.rtps_evidence.specs.LostAnswers as lost_answers
use Rattle.rtps_evidence.specs.Received as received
use Rattle.rtps_evidence.specs.declared.location.Location.{Location}
use Rattle.rtps_evidence.specs.declared.first_missed.FirstMissed.{FirstMissed}
use Rattle.rtps_evidence.specs.declared.missed.Missed.{Missed}
use Rattle.rtps_evidence.specs.declared.teller.Teller.{Teller}

-- the reader says to the writer that it lacks n
abbrev pub asks_for : Guid → Guid → ℕ → placed.PlacedValue → Bool
asks_for writer reader n placed = speech.is_request placed.act reader writer && (said.said placed.act.body).lacked n

-- the endpoint, if there is one, has this GUID
abbrev pub has_guid : Guid → Option endpoint.EndpointValue → Bool
has_guid guid (Some endpoint) = placed.is_guid guid endpoint.guid
has_guid guid None = false

-- an act announces the endpoint of this GUID, as a writer or a reader of whatever topic
abbrev pub announces : Guid → placed.PlacedValue → Bool
announces guid placed = has_guid guid (notice.endpoint_in (notice.announcement_of placed.act))

-- where it is announced first
abbrev pub place_announced : Guid → List placed.PlacedValue → Option Location
place_announced guid acts = option_map locations.location_of (find (announces guid) acts)

-- the first of these places
abbrev pub first_place : List AnnouncedPlace → Option Location
first_place [] = None
first_place (place ∷ places) = Some (record { datagram = place.datagram; at = place.at })

-- the reader hears from the writer a payload for n, or fragments of one
abbrev pub brings : Guid → Guid → ℕ → placed.PlacedValue → Bool
brings writer reader n placed = (speech.is_spoken_by placed.act writer && speech.is_heard_by placed.act reader) && said.is_at n (said.said placed.act.body).brought

-- the same behind a place
abbrev pub brings_behind : Option Location → Guid → Guid → ℕ → placed.PlacedValue → Bool
brings_behind place writer reader n placed = locations.is_behind place placed && brings writer reader n placed

-- the same of whatever number
abbrev pub brings_some : Option Location → Guid → Guid → placed.PlacedValue → Bool
brings_some place writer reader placed =
    locations.is_behind place placed && ((speech.is_spoken_by placed.act writer && speech.is_heard_by placed.act reader) && is_some (said.said placed.act.body).brought)

-- the same of n since the reader is there, and before a place
abbrev pub brings_before : Option Location → Location → Guid → Guid → ℕ → placed.PlacedValue → Bool
brings_before since place writer reader n placed = locations.is_before place placed && brings_behind since writer reader n placed

-- of the last act that asks for n: none behind it brings n, or one before it does, since the reader is there
abbrev pub is_asked_in_vain : Option Location → Guid → Guid → List placed.PlacedValue → ℕ → Option placed.PlacedValue → Bool
is_asked_in_vain since writer reader acts n None = false
is_asked_in_vain since writer reader acts n (Some asking) =
    not (list_any (brings_behind (Some (locations.location_of asking)) writer reader n) acts) || list_any (brings_before since (locations.location_of asking) writer reader n) acts

-- n is asked for so, whatever else is true of it
abbrev pub is_wanting : Option Location → Guid → Guid → List placed.PlacedValue → ℕ → Bool
is_wanting since writer reader acts n = is_asked_in_vain since writer reader acts n (locations.find_last (asks_for writer reader n) acts)

-- the reader hears, behind a place, that n will not come
abbrev pub withdraws_behind : Location → Guid → Guid → ℕ → placed.PlacedValue → Bool
withdraws_behind place writer reader n placed = locations.is_behind (Some place) placed && received.withdraws writer reader n placed

-- the first act behind a place by which the reader hears that n will not come
abbrev pub gone_behind : Location → Guid → Guid → ℕ → List placed.PlacedValue → Option Teller
gone_behind place writer reader n acts = option_map locations.teller_at (find (withdraws_behind place writer reader n) acts)

-- where the first act behind a place stands that brings n
abbrev pub again_behind : Location → Guid → Guid → ℕ → List placed.PlacedValue → Option Location
again_behind place writer reader n acts = option_map locations.location_of (find (brings_behind (Some place) writer reader n) acts)

-- an answer lacks around a place, if there is one
abbrev pub lacks_there : Guid → Guid → List placed.PlacedValue → Option Location → Bool
lacks_there writer reader acts None = false
lacks_there writer reader acts (Some place) = lost_answers.lacks_around writer reader acts place

-- of the last answer that lacks n: an answer claims n behind it, and an answer lacks around the first act behind it that brings n
abbrev pub is_excused_by : Guid → Guid → List placed.PlacedValue → ℕ → Option placed.PlacedValue → Bool
is_excused_by writer reader acts n None = false
is_excused_by writer reader acts n (Some asking) =
    lost_answers.is_claimed_then writer reader acts n && lacks_there writer reader acts (again_behind (locations.location_of asking) writer reader n acts)

-- That n is asked for in vain is no matter, for an answer that lacks. It is told only of a reader that answers no other writer: some readers
-- count their answers to all writers together
abbrev pub is_excused : Guid → Guid → List placed.PlacedValue → ℕ → Bool
is_excused writer reader acts n =
    not (list_any (lost_answers.answers_another writer reader) acts) && is_excused_by writer reader acts n (locations.find_last (lost_answers.lacks_by_answer writer reader n) acts)

-- n is not received, and asked for in vain
abbrev pub is_unmet : Option Location → Guid → Guid → List placed.PlacedValue → ℕ → Bool
is_unmet since writer reader acts n = not (received.is_received writer reader acts n) && is_wanting since writer reader acts n

-- n is missed: it is so, and no answer that lacks excuses it
abbrev pub is_missed : Option Location → Guid → Guid → List placed.PlacedValue → ℕ → Bool
is_missed since writer reader acts n = is_unmet since writer reader acts n && not (is_excused writer reader acts n)

-- n as a number that is missed, by the last act that asks for it: where it is sent again behind that, the first act behind that which tells
-- it gone, and whether any act brings it
abbrev pub missed_at : Guid → Guid → ℕ → List placed.PlacedValue → placed.PlacedValue → FirstMissed
missed_at writer reader n acts asking =
    record {
      number = n;
      asked = locations.location_of asking;
      again = again_behind (locations.location_of asking) writer reader n acts;
      gone = gone_behind (locations.location_of asking) writer reader n acts;
      is_sent = list_any (brings writer reader n) acts;
    }

-- it is a number that is asked for last at a place, by these acts of the writer
pub record IsMissedBy (writer reader : Guid) (asked : Location) (acts : List placed.PlacedValue) (missed : FirstMissed) : Type 0 where
  pub asked_is : missed.asked ≡ asked
  pub again : missed.again ≡ again_behind missed.asked writer reader missed.number acts
  pub gone : missed.gone ≡ gone_behind missed.asked writer reader missed.number acts
  pub sent : missed.is_sent ≡ list_any (brings writer reader missed.number) acts

-- the same of a number, if there is one
abbrev pub missed_by : Guid → Guid → List placed.PlacedValue → Option ℕ → Option FirstMissed
missed_by writer reader acts None = None
missed_by writer reader acts (Some n) = option_map (missed_at writer reader n acts) (locations.find_last (asks_for writer reader n) acts)

-- n is missed, and it is not there: it did not reach the reader's host by another way either
abbrev pub is_missed_for_good : (ℕ → Bool) → Option Location → Guid → Guid → List placed.PlacedValue → ℕ → Bool
is_missed_for_good there since writer reader acts n = is_missed since writer reader acts n && not (there n)

-- the least number from `from` on, up to the last one, that is missed and not there
abbrev pub first_missed_of : (ℕ → Bool) → ℕ → ℕ → Option Location → Guid → Guid → List placed.PlacedValue → Option FirstMissed
first_missed_of there from last since writer reader acts =
    missed_by writer reader acts (received.least_in (is_missed_for_good there since writer reader acts) from (last + 1))

-- of the numbers from `from` on, up to the last one: how many are missed and not there, and the least of them
pub record AreMissed (there : ℕ → Bool) (from last : ℕ) (since : Option Location) (writer reader : Guid) (acts : List placed.PlacedValue)
    (missed : Missed) : Type 0 where
  pub count : missed.count ≡ counts.count_in (is_missed_for_good there since writer reader acts) from (last + 1)
  pub first : missed.first ≡ first_missed_of there from last since writer reader acts
