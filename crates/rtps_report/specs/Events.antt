-- Which rows belong together, and how many numbers they lost. own: what happens once, as a process that is killed or a link that fails for
-- some seconds, leaves many rows that are not clean. Told as one event, it is seen once, and first what cost most.
use Rattle.std.specs.Prelude.{ℕ, ◌≡◌, ◌-◌, ◌&&◌, nat_lt, Bool, true, false, not, if◌then◌else◌, is_none, is_some, count_by, filter, fold, map, sum_by, List, [], ◌∷◌, Option, Some, None}
use Rattle.std.specs.Borrow.{Bor}
use Rattle.std.specs.BTreeMap.{BTreeMap, get}
use Rattle.std.specs.Cmp.Lexicographic.{slice_cmp}
use Rattle.std.specs.List.Sorted.{IsSortedBy}
use Rattle.std.specs.Option.{option_cmp}
use Rattle.std.specs.Ordering.{nat_cmp, ordering_then}
use Rattle.std.specs.Global.{Vec}
use Rattle.std.specs.declared.cmp.Ordering.{Ordering}
use Rattle.rtps_ids.specs.declared.identity.GuidPrefix.{GuidPrefix}
use Rattle.rtps_receiver.specs.Speech as speech
use Rattle.rtps_discovery.specs.declared.matching.Pair.{Pair}
use Rattle.rtps_evidence.specs.Explanation as explanation
use Rattle.rtps_evidence.specs.Kinds as kinds
use Rattle.rtps_evidence.specs.Waits as waits
use Rattle.rtps_evidence.specs.declared.sendings.SentSpan.{SentSpan}
use Rattle.rtps_policies.specs.Announcing as announcing
use Rattle.rtps_report.specs.Asked as asked
use Rattle.rtps_report.specs.FullReport as full_report
use Rattle.rtps_report.specs.RowFacts as row_facts
use Rattle.rtps_report.specs.Silences as silences
use Rattle.rtps_report.specs.Talk as talk
use Rattle.rtps_report.specs.Totals as totals
use Rattle.rtps_evidence.specs.declared.explanation.Explanation.{Explanation}
use Rattle.rtps_evidence.specs.declared.in_span.InSpan.{InSpan}
use Rattle.rtps_evidence.specs.declared.location.Location.{Location}
use Rattle.rtps_report.specs.declared.event_rows.EventKey.{EventKey}
use Rattle.rtps_report.specs.declared.event_rows.EventRows.{EventRows}
use Rattle.rtps_report.specs.declared.events.Event.{Event}
use Rattle.rtps_report.specs.declared.silences.Silences.{Silences}

-- ---- which event a row belongs to

-- two participants are the same, or there is neither
abbrev pub is_second : Option GuidPrefix → Option GuidPrefix → Bool
is_second None None = true
is_second None (Some other) = false
is_second (Some one) None = false
is_second (Some one) (Some other) = speech.is_prefix one other

-- two events are the same
abbrev pub is_key : EventKey → EventKey → Bool
is_key one other = speech.is_prefix one.first other.first && is_second one.second other.second

-- the event of a participant that is silent
abbrev pub alone : GuidPrefix → EventKey
alone silent = record { first = silent; second = None }

-- the event of two participants
abbrev pub between : GuidPrefix → GuidPrefix → EventKey
between writer reader = record { first = writer; second = Some reader }

-- the event that a row of this pair belongs to: that of its reader's participant, where it is silent; else that of its writer's, where that
-- is; else that of both
abbrev pub key_by : Silences → Pair → EventKey
key_by silences pair =
    if is_some silences.reader then alone pair.reader.prefix
    else (if is_some silences.writer then alone pair.writer.prefix else between pair.writer.prefix pair.reader.prefix)

-- that of a row that someone has to look at; None of another one
abbrev pub noted_key : talk.TalkValue → ℕ → explanation.ExplanationValue → Option EventKey
noted_key talk tail row =
    if row_facts.is_noted (silences.silences_of talk row.pair) tail row.evidence then Some (key_by (silences.silences_of talk row.pair) row.pair) else None

-- there is an event, and it is this one
abbrev pub is_that : EventKey → Option EventKey → Bool
is_that key None = false
is_that key (Some other) = is_key key other

-- the rows of an event, in their order
abbrev pub rows_with : talk.TalkValue → ℕ → List explanation.ExplanationValue → EventKey → List explanation.ExplanationValue
rows_with talk tail rows key = filter (λ row. is_that key (noted_key talk tail row)) rows

-- an event that may not be there, before others
abbrev pub before_others : Option EventKey → List EventKey → List EventKey
before_others None keys = keys
before_others (Some key) keys = key ∷ filter (λ other. not (is_key key other)) keys

-- which events there are, each once, by their first rows
abbrev pub keys_of : talk.TalkValue → ℕ → List explanation.ExplanationValue → List EventKey
keys_of talk tail [] = []
keys_of talk tail (row ∷ rows) = before_others (noted_key talk tail row) (keys_of talk tail rows)

-- ---- what is told of an event

-- how many numbers of a row are lost: of those that are asked about, the ones that are neither received nor arrived; where it is not held,
-- the ones that are neither likely nor unconfirmed either, which are missed, unsent or unanswered
abbrev pub numbers_lost : ℕ → explanation.EvidenceValue → ℕ
numbers_lost from evidence =
    let left = totals.numbers_of from evidence - (row_facts.outcomes_of evidence).received - (row_facts.outcomes_of evidence).arrived in
    if row_facts.is_held_in evidence.in_span then left else left - (row_facts.outcomes_of evidence).likely - (row_facts.outcomes_of evidence).unconfirmed

-- between which places the lost numbers of a row are sent first, those that are sent; None where none is
abbrev pub sent_in : List kinds.LostValue → explanation.ExplanationValue → Option SentSpan
sent_in lost row = (explanation.lost_at lost row.place).sent

-- its end that lies in front
abbrev pub first_end : Option SentSpan → Option Location
first_end None = None
first_end (Some span) = Some span.first

-- its end that lies behind
abbrev pub last_end : Option SentSpan → Option Location
last_end None = None
last_end (Some span) = Some span.last

-- where the first of these numbers is sent first
abbrev pub first_sent : List kinds.LostValue → explanation.ExplanationValue → Option Location
first_sent lost row = first_end (sent_in lost row)

-- where the last of these numbers is sent first
abbrev pub last_sent : List kinds.LostValue → explanation.ExplanationValue → Option Location
last_sent lost row = last_end (sent_in lost row)

-- where the reader of a row was asked first for an answer behind its last one
abbrev pub waiting_in : Option InSpan → Option Location
waiting_in None = None
waiting_in (Some in_span) = in_span.waiting

-- the same, where the participant of the reader is the silent one of an event
abbrev pub asked_in : EventKey → explanation.ExplanationValue → Option Location
asked_in key row = if is_none key.second && speech.is_prefix key.first row.pair.reader.prefix then waiting_in row.evidence.in_span else None

-- the earlier of two places, where there are two
abbrev pub earlier : Option Location → Option Location → Option Location
earlier None other = other
earlier (Some one) None = Some one
earlier (Some one) (Some other) = Some (if waits.precedes other one then other else one)

-- the later of them
abbrev pub later : Option Location → Option Location → Option Location
later None other = other
later (Some one) None = Some one
later (Some one) (Some other) = Some (if waits.precedes one other then other else one)

-- the first of the places of rows where a lost number is sent first
abbrev pub first_among : List kinds.LostValue → List explanation.ExplanationValue → Option Location
first_among lost rows = fold (λ first row. earlier first (first_sent lost row)) None rows

-- the last of those places
abbrev pub last_among : List kinds.LostValue → List explanation.ExplanationValue → Option Location
last_among lost rows = fold (λ last row. later last (last_sent lost row)) None rows

-- where the silent participant of an event was asked first for an answer behind its last one, of any of these rows
abbrev pub asked_among : EventKey → List explanation.ExplanationValue → Option Location
asked_among key rows = fold (λ asked row. earlier asked (asked_in key row)) None rows

-- the last datagram of the silent participant of an event; None of two participants
abbrev pub heard_by : talk.TalkValue → GuidPrefix → Option GuidPrefix → Option ℕ
heard_by talk first None = silences.silence_among talk.participants (announcing.participant_of first)
heard_by talk first (Some second) = None

-- that of an event with this key
abbrev pub heard_in : talk.TalkValue → EventKey → Option ℕ
heard_in talk key = heard_by talk key.first key.second

-- an event: whose it is, the places of its rows, how many of their numbers are lost, where the first and the last of those that are sent are sent first, where
-- the silent participant was asked first for an answer behind its last one, and its last datagram
pub record EventValue : Type 0 where
  pub key : EventKey
  pub places : List ℕ
  pub numbers : ℕ
  pub first : Option Location
  pub last : Option Location
  pub asked : Option Location
  pub heard : Option ℕ

-- that of the code, as a value
abbrev pub event_value : Event → EventValue
event_value event =
    record {
      key = event.key;
      places = event.places.items;
      numbers = event.numbers;
      first = event.first;
      last = event.last;
      asked = event.asked;
      heard = event.heard;
    }

-- what is told of an event with these rows
abbrev pub event_with : asked.AskedValue → talk.TalkValue → List kinds.LostValue → EventKey → List explanation.ExplanationValue → EventValue
event_with asked talk lost key rows =
    record {
      key = key;
      places = map (λ row. row.place) rows;
      numbers = sum_by (λ row. numbers_lost asked.from row.evidence) rows;
      first = first_among lost rows;
      last = last_among lost rows;
      asked = asked_among key rows;
      heard = heard_in talk key;
    }

-- an event among these rows: all that belong to it
abbrev pub event_of : asked.AskedValue → talk.TalkValue → List kinds.LostValue → List explanation.ExplanationValue → EventKey → EventValue
event_of asked talk lost rows key = event_with asked talk lost key (rows_with talk asked.tail rows key)

-- the events of these rows, by their first rows
abbrev pub events_in : asked.AskedValue → talk.TalkValue → List kinds.LostValue → List explanation.ExplanationValue → List EventValue
events_in asked talk lost rows = map (event_of asked talk lost rows) (keys_of talk asked.tail rows)

-- an event before others that stand in their order: behind those that lost more
abbrev pub placed : EventValue → List EventValue → List EventValue
placed event [] = event ∷ []
placed event (other ∷ others) = if nat_lt event.numbers other.numbers then other ∷ placed event others else event ∷ other ∷ others

-- by their numbers, the most first; those with as many stay in their order
abbrev pub worst_first : List EventValue → List EventValue
worst_first [] = []
worst_first (event ∷ events) = placed event (worst_first events)

-- the events of these rows: the one with most numbers first; those with as many stand by their first rows
abbrev pub events_by : asked.AskedValue → talk.TalkValue → List kinds.LostValue → List explanation.ExplanationValue → List EventValue
events_by asked talk lost rows = worst_first (events_in asked talk lost rows)

-- those of a report
abbrev pub events_of : asked.AskedValue → full_report.ReportValue → List EventValue
events_of asked report = events_by asked report.talk (full_report.lost_of report) (full_report.rows_of report)

-- ---- what holds of events

-- there are no rows
abbrev pub has_none : List explanation.ExplanationValue → Bool
has_none [] = true
has_none (row ∷ rows) = false

-- the rows that someone has to look at
abbrev pub noted_among : talk.TalkValue → ℕ → List explanation.ExplanationValue → List explanation.ExplanationValue
noted_among talk tail rows = filter (λ row. is_some (noted_key talk tail row)) rows

-- These are events of rows: one of each key that some row has, and no other one, so that each row that someone has to look at is of exactly one
-- event; together they lost as many numbers as these rows did; and none lost more than the one before it.
pub record AreWhole (asked : asked.AskedValue) (talk : talk.TalkValue) (rows : List explanation.ExplanationValue) (events : List EventValue) : Type 0 where
  pub once : (key : EventKey) → count_by (λ event. is_key event.key key) events ≡ (if has_none (rows_with talk asked.tail rows key) then 0 else 1)
  pub numbers : sum_by (λ event. event.numbers) events ≡ sum_by (λ row. numbers_lost asked.from row.evidence) (noted_among talk asked.tail rows)
  pub falling : IsSortedBy (λ one other. nat_lt other.numbers one.numbers) events

-- it is so of what is asked of each report
abbrev pub EventsAreWhole : Type 0
EventsAreWhole = (asked : asked.AskedValue) (report : full_report.ReportValue) → AreWhole asked report.talk (full_report.rows_of report) (events_of asked report)

-- ---- the same of the code

-- the order of participants: octet by octet
abbrev pub prefix_cmp : GuidPrefix → GuidPrefix → Ordering
prefix_cmp one other = slice_cmp nat_cmp one.0 other.0

-- the order of keys: by the first participant, and then by the second one, where none stands first
abbrev pub key_cmp : EventKey → EventKey → Ordering
key_cmp one other = ordering_then (prefix_cmp one.first other.first) (option_cmp prefix_cmp one.second other.second)

-- rows that are borrowed, as values
abbrev pub rows_value : List (Bor Explanation) → List explanation.ExplanationValue
rows_value rows = map (λ row. explanation.explanation_value row.now) rows

-- those that are kept of an event, if any are
abbrev pub rows_in : Option (Vec (Bor Explanation)) → List explanation.ExplanationValue
rows_in None = []
rows_in (Some rows) = rows_value rows.items

-- those that are kept at a key of a map
abbrev pub rows_at : BTreeMap EventKey (Vec (Bor Explanation)) → EventKey → List explanation.ExplanationValue
rows_at kept key = rows_in (get key_cmp kept key)

-- what is kept is of these rows: those of each event, and which events there are
pub record AreEventRows (talk : talk.TalkValue) (tail : ℕ) (rows : List explanation.ExplanationValue) (kept : EventRows) : Type 0 where
  pub each : (key : EventKey) → rows_at kept.map key ≡ rows_with talk tail rows key
  pub keys : kept.keys.items ≡ keys_of talk tail rows
