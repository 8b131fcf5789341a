-- For how long a reader let a writer wait for an answer. DDSI-RTPS 2.5, 8.3.8.6 "Heartbeat": one without the final flag asks for an
-- answer. own: how long an answer takes is told by the times of two datagrams, and to which question it is by places alone.
use Rattle.std.specs.Prelude.{ℕ, Bool, ◌-◌, ◌^◌, ◌≡◌, ◌≤◌, ◌==◌, ◌&&◌, ◌||◌, nat_lt, if◌then◌else◌, filter, length, map, take, List, Option, Some, None}
use Rattle.std.specs.List.{filter_map, find}
use Rattle.std.specs.Option.{option_map}
use Rattle.rtps_discovery.specs.declared.matching.Pair.{Pair}
use Rattle.rtps_receiver.specs.Values as values
use Rattle.rtps_audit.specs.Delivery as delivery
use Rattle.rtps_audit.specs.Placed as placed
use Rattle.rtps_audit.specs.Said as said
use Rattle.rtps_audit.specs.declared.answer.Answer.{Answer}
use Rattle.rtps_evidence.specs.Locations as locations
use Rattle.rtps_evidence.specs.Questions as questions
use Rattle.rtps_evidence.specs.Spans as spans
use Rattle.rtps_evidence.specs.Times as times_spec
use Rattle.rtps_evidence.specs.declared.location.Location.{Location}
use Rattle.rtps_evidence.specs.declared.span.Span.{Span}
use Rattle.rtps_evidence.specs.declared.waits.Wait.{Wait}

-- ---- the answer to a question

-- a place stands before another: in an earlier datagram, or further to the front of the same one
abbrev pub precedes : Location → Location → Bool
precedes one other = nat_lt one.datagram other.datagram || ((one.datagram == other.datagram) && nat_lt one.at other.at)

-- an answer stands behind a place
abbrev pub answers_behind : Location → Answer → Bool
answers_behind place answer = precedes place (questions.place_of answer)

-- where the first one does, of answers in the order of sending
abbrev pub answered_at : Location → List Answer → Option Location
answered_at place answers = option_map questions.place_of (find (answers_behind place) answers)

-- none of the first of these answers stands behind a place
pub record HasPassed (answers : List Answer) (passed : ℕ) (place : Location) : Type 0 where
  pub within : passed ≤ length answers
  pub none : find (answers_behind place) (take passed answers) ≡ None

-- ---- waits

-- when a wait ends: with the answer, or else with the end of the datagrams
abbrev pub ended_at : List (Option ℕ) → Option ℕ → Option Location → Option ℕ
ended_at times end (Some place) = times_spec.time_of times place.datagram
ended_at times end None = end

-- a wait from one time to another, where there are both; it takes no time where the second is the earlier one
abbrev pub wait_of : Location → Option Location → Option ℕ → Option ℕ → Option Wait
wait_of asked answered None until = None
wait_of asked answered (Some since) None = None
wait_of asked answered (Some since) (Some until) =
    Some (record { nanoseconds = until - since; asked = asked; answered = answered })

-- the wait from a question to its answer, if it has one
abbrev pub wait_between : List (Option ℕ) → Option ℕ → Location → Option Location → Option Wait
wait_between times end asked answered = wait_of asked answered (times_spec.time_of times asked.datagram) (ended_at times end answered)

-- the same, to its first answer behind it
abbrev pub wait_from : List (Option ℕ) → Option ℕ → List Answer → placed.PlacedValue → Option Wait
wait_from times end answers question = wait_between times end (locations.location_of question) (answered_at (locations.location_of question) answers)

-- of these acts, the HEARTBEATs that ask and that the pair's reader hears behind the place where it is there
abbrev pub questions_of : Option Location → Pair → List placed.PlacedValue → List placed.PlacedValue
questions_of since pair acts = filter (questions.questions_behind since pair.writer pair.reader) acts

-- the waits from these questions, in their order
abbrev pub waits_of : List (Option ℕ) → Option ℕ → List Answer → List placed.PlacedValue → List Wait
waits_of times end answers questions = filter_map (wait_from times end answers) questions

-- ---- the longest

-- how long a wait is
abbrev pub length_of : Wait → ℕ
length_of wait = wait.nanoseconds

-- the first of the longest of these waits
abbrev pub longest : List Wait → Option Wait
longest waits = find (λ wait. wait.nanoseconds == delivery.greatest (map length_of waits)) waits

-- the longer of two waits, where there are two; of equal ones the first
abbrev pub longer_of : Option Wait → Option Wait → Option Wait
longer_of None other = other
longer_of (Some one) None = Some one
longer_of (Some one) (Some other) = if nat_lt one.nanoseconds other.nanoseconds then Some other else Some one

-- a wait is longer than a second
abbrev pub is_told : Wait → Bool
is_told wait = nat_lt (10 ^ 9) wait.nanoseconds

-- a wait is told only where it is
abbrev pub told_of : Option Wait → Option Wait
told_of None = None
told_of (Some wait) = if is_told wait then Some wait else None

-- ---- the longest wait of a row

-- by these datagrams, which end at a time
abbrev pub longest_in : Span → Pair → List (Option ℕ) → Option ℕ → List (List values.ActValue) → Option Wait
longest_in span pair times end recording =
    longest (waits_of times end (placed.answers_among pair (placed.placed_in recording)) (questions_of (spans.since_of span) pair (placed.placed_in recording)))

-- by the datagrams of a span, where it is told; the span ends before the datagram in which the reader leaves
abbrev pub told_wait : Span → Pair → List (Option ℕ) → List (List values.ActValue) → Option Wait
told_wait span pair times recording = told_of (longest_in span pair times (times_spec.end_of (said.datagrams_until span.until times)) recording)
