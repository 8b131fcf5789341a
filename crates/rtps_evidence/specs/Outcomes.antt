-- What became of each number that is asked about. DDSI-RTPS 2.5, 8.3.8.1 "AckNack": the set of an ACKNACK names the numbers that the
-- reader lacks; 8.3.8.6 "Heartbeat": one without the final flag asks for an answer. own: of a number that is not received for certain,
-- what the two said tells mostly whether it came, and a recording made at the reader's host tells what came to that host. Acts are those
-- of the datagrams that a row is by, and `times` are when all datagrams came; `since` is the place behind which the reader is there
-- (None: everywhere); `there` says which numbers the other recording has a payload of that the reader hears (none, where the pair is not
-- held against one).
use Rattle.std.specs.Prelude.{ℕ, Bool, true, false, ◌+◌, ◌-◌, ◌≡◌, ◌==◌, ◌&&◌, ◌||◌, nat_le, nat_lt, not, if◌then◌else◌, filter, is_some, List, [], ◌∷◌, Option}
use Rattle.std.specs.List.{list_any}
use Rattle.rtps_discovery.specs.declared.matching.Pair.{Pair}
use Rattle.rtps_receiver.specs.Values as values
use Rattle.rtps_audit.specs.Delivery as delivery
use Rattle.rtps_audit.specs.Placed as placed
use Rattle.rtps_receiver.specs.Said as said
use Rattle.rtps_audit.specs.Speech as speech
use Rattle.rtps_audit.specs.declared.answer.Answer.{Answer}
use Rattle.rtps_coverage.specs.Counts as counts
use Rattle.rtps_evidence.specs.Amount as amount
use Rattle.rtps_evidence.specs.FirstNumbers as first_numbers
use Rattle.rtps_evidence.specs.Locations as locations
use Rattle.rtps_evidence.specs.Missed as missed
use Rattle.rtps_evidence.specs.Questions as questions
use Rattle.rtps_evidence.specs.Received as received_spec
use Rattle.rtps_evidence.specs.Times as times_spec
use Rattle.rtps_evidence.specs.declared.location.Location.{Location}
use Rattle.rtps_evidence.specs.declared.outcome.Outcome.{Outcome}
use Rattle.rtps_evidence.specs.declared.outcome.Outcomes.{Outcomes}

-- ---- unsent

-- the reader hears n, or a fragment of it, since it is there
abbrev pub is_brought : Option Location → Pair → List placed.PlacedValue → ℕ → Bool
is_brought since pair acts n = list_any (missed.brings_behind since pair.writer pair.reader n) acts

-- ---- unanswered: asked about again and again while the writer had it, and no answer for 100 ms, until it was told gone

-- a HEARTBEAT says that the writer has n
abbrev pub is_offered : values.ActBodyValue → ℕ → Bool
is_offered (values.ActBodyValue.Heartbeat value) n = nat_le value.first n && nat_le n (said.natural value.last)
is_offered (values.ActBodyValue.Data value) n = false
is_offered (values.ActBodyValue.AckNack value) n = false
is_offered (values.ActBodyValue.Gap value) n = false
is_offered (values.ActBodyValue.DataFrag value) n = false
is_offered (values.ActBodyValue.NackFrag value) n = false

-- how far it came with a number, as the acts go by
pub data Silence : Type 0 where
  -- nobody asked about it
  Unasked : Silence
  -- one HEARTBEAT asked about it, in this datagram
  Once : (asked : ℕ) → Silence
  -- two or more did, the first of them in this datagram
  Again : (asked : ℕ) → Silence
  -- the reader answered behind the first of them
  Answered : Silence
  -- it was told gone, and was asked about again and again for long without an answer
  Silent : Silence
  -- it was told gone otherwise
  Ended : Silence

-- behind an answer
abbrev pub answered : Silence → Silence
answered Unasked = Unasked
answered (Once asked) = Answered
answered (Again asked) = Answered
answered Answered = Answered
answered Silent = Silent
answered Ended = Ended

-- behind a HEARTBEAT in a datagram that asks about it
abbrev pub asked_about : ℕ → Silence → Silence
asked_about datagram Unasked = Once datagram
asked_about datagram (Once asked) = Again asked
asked_about datagram (Again asked) = Again asked
asked_about datagram Answered = Answered
asked_about datagram Silent = Silent
asked_about datagram Ended = Ended

-- Behind an act in a datagram that tells it gone: the first one counts. A healthy reader answers some milliseconds late, and a writer that
-- keeps few numbers moves on before that
abbrev pub told_gone : List (Option ℕ) → ℕ → Silence → Silence
told_gone times datagram Unasked = Ended
told_gone times datagram (Once asked) = Ended
told_gone times datagram (Again asked) = if times_spec.is_long_between times asked datagram then Silent else Ended
told_gone times datagram Answered = Ended
told_gone times datagram Silent = Silent
told_gone times datagram Ended = Ended

-- behind an act of the writer
abbrev pub heard : List (Option ℕ) → Option Location → Pair → ℕ → placed.PlacedValue → Silence → Silence
heard times since pair n placed silence =
    if received_spec.withdraws pair.writer pair.reader n placed then told_gone times placed.datagram silence
    else if questions.questions_behind since pair.writer pair.reader placed && is_offered placed.act.body n then asked_about placed.datagram silence
    else silence

-- an answer stands before a place
abbrev pub answers_before : Location → Answer → Bool
answers_before place answer = nat_lt answer.datagram place.datagram || ((answer.datagram == place.datagram) && nat_lt answer.at place.at)

-- the answers behind those that stand before an act
abbrev pub answers_left : Location → List Answer → List Answer
answers_left place [] = []
answers_left place (answer ∷ answers) = if answers_before place answer then answers_left place answers else answer ∷ answers

-- some of them stand before it
abbrev pub is_answered : Location → List Answer → Bool
is_answered place [] = false
is_answered place (answer ∷ answers) = answers_before place answer

-- the answers that are left, and how far it came
pub record Walk : Type 0 where
  pub answers : List Answer
  pub silence : Silence

-- behind one act of the writer more, and the answers before it
abbrev pub walked : List (Option ℕ) → Option Location → Pair → ℕ → Walk → placed.PlacedValue → Walk
walked times since pair n walk placed =
    record {
      answers = answers_left (locations.location_of placed) walk.answers;
      silence = heard times since pair n placed (if is_answered (locations.location_of placed) walk.answers then answered walk.silence else walk.silence);
    }

-- behind these acts of the writer, one after another
abbrev pub walked_all : List (Option ℕ) → Option Location → Pair → ℕ → Walk → List placed.PlacedValue → Walk
walked_all times since pair n walk [] = walk
walked_all times since pair n walk (placed ∷ acts) = walked_all times since pair n (walked times since pair n walk placed) acts

-- it ends in silence
abbrev pub is_silent : Silence → Bool
is_silent Silent = true
is_silent Unasked = false
is_silent (Once asked) = false
is_silent (Again asked) = false
is_silent Answered = false
is_silent Ended = false

-- the writer's acts and the reader's answers, one after another, end in silence
abbrev pub is_unanswered : List (Option ℕ) → Option Location → Pair → List placed.PlacedValue → ℕ → Bool
is_unanswered times since pair acts n =
    is_silent (walked_all times since pair n (record { answers = placed.answers_among pair acts; silence = Unasked }) (filter (placed.is_from pair.writer) acts)).silence

-- ---- each number has one outcome

-- what became of a number: the first that fits
unfoldable pub outcome_of : (ℕ → Bool) → List (Option ℕ) → Option Location → Pair → List placed.PlacedValue → ℕ → Outcome
outcome_of there times since pair acts n =
    if received_spec.is_received pair.writer pair.reader acts n then Outcome.Received
    else if there n then Outcome.Arrived
    else if missed.is_wanting since pair.writer pair.reader acts n then (if missed.is_excused pair.writer pair.reader acts n then Outcome.Likely else Outcome.Missed)
    else if not (is_brought since pair acts n) then Outcome.Unsent
    else if is_unanswered times since pair acts n then Outcome.Unanswered
    else if is_some (received_spec.first_claiming pair.writer pair.reader n acts) then Outcome.Likely
    else Outcome.Unconfirmed

-- two outcomes are the same
abbrev pub is_outcome : Outcome → Outcome → Bool
is_outcome Outcome.Received Outcome.Received = true
is_outcome Outcome.Arrived Outcome.Arrived = true
is_outcome Outcome.Missed Outcome.Missed = true
is_outcome Outcome.Unsent Outcome.Unsent = true
is_outcome Outcome.Unanswered Outcome.Unanswered = true
is_outcome Outcome.Likely Outcome.Likely = true
is_outcome Outcome.Unconfirmed Outcome.Unconfirmed = true
is_outcome _ _ = false

-- how many of the numbers from lo on and below hi have this outcome
abbrev pub count_of : Outcome → (ℕ → Outcome) → ℕ → ℕ → ℕ
count_of outcome outcomes lo hi = counts.count_in (λ n. is_outcome outcome (outcomes n)) lo hi

-- of the numbers from `from` on, up to the last one: how many have each outcome
pub record AreOutcomes (there : ℕ → Bool) (from last : ℕ) (times : List (Option ℕ)) (since : Option Location) (pair : Pair) (acts : List placed.PlacedValue) (outcomes : Outcomes) : Type 0 where
  pub received : outcomes.received ≡ count_of Outcome.Received (outcome_of there times since pair acts) from (last + 1)
  pub arrived : outcomes.arrived ≡ count_of Outcome.Arrived (outcome_of there times since pair acts) from (last + 1)
  pub missed : outcomes.missed ≡ count_of Outcome.Missed (outcome_of there times since pair acts) from (last + 1)
  pub unsent : outcomes.unsent ≡ count_of Outcome.Unsent (outcome_of there times since pair acts) from (last + 1)
  pub unanswered : outcomes.unanswered ≡ count_of Outcome.Unanswered (outcome_of there times since pair acts) from (last + 1)
  pub likely : outcomes.likely ≡ count_of Outcome.Likely (outcome_of there times since pair acts) from (last + 1)
  pub unconfirmed : outcomes.unconfirmed ≡ count_of Outcome.Unconfirmed (outcome_of there times since pair acts) from (last + 1)

-- how many they are together
abbrev pub all_of : Outcomes → ℕ
all_of outcomes = outcomes.received + outcomes.arrived + outcomes.missed + outcomes.unsent + outcomes.unanswered + outcomes.likely + outcomes.unconfirmed

-- of a pair that is held against another recording: how many of these numbers are received though they are not there
abbrev pub absent_of : Bool → (ℕ → Bool) → ℕ → ℕ → Pair → List placed.PlacedValue → ℕ
absent_of held there from last pair acts =
    if held then counts.count_in (λ n. received_spec.is_received pair.writer pair.reader acts n && not (there n)) from (last + 1) else 0

-- of a pair that is held against another recording: the first ten of these numbers that are neither received nor there
abbrev pub lacking_of : Bool → (ℕ → Bool) → ℕ → ℕ → Pair → List placed.PlacedValue → List ℕ
lacking_of held there from last pair acts =
    if held then first_numbers.first_ten (λ n. not (received_spec.is_received pair.writer pair.reader acts n) && not (there n)) from (last + 1) else []

-- no number is there: there is no other recording, or the pair is not held against it
abbrev pub nowhere : ℕ → Bool
nowhere n = false

-- ---- laws

-- they add up to the numbers that are asked about
abbrev pub OutcomesAddUp : Type 0
OutcomesAddUp =
    (there : ℕ → Bool) (from last : ℕ) (times : List (Option ℕ)) (since : Option Location) (pair : Pair) (acts : List placed.PlacedValue) (outcomes : Outcomes)
    → AreOutcomes there from last times since pair acts outcomes → all_of outcomes ≡ last + 1 - from

-- what another recording changes of a number: nothing, where it is not there, or is received; else it arrived
pub record IsChangedAlone (there : ℕ → Bool) (times : List (Option ℕ)) (since : Option Location) (pair : Pair) (acts : List placed.PlacedValue) (n : ℕ) : Type 0 where
  pub elsewhere : there n ≡ false → outcome_of there times since pair acts n ≡ outcome_of nowhere times since pair acts n
  pub received : received_spec.is_received pair.writer pair.reader acts n ≡ true → outcome_of there times since pair acts n ≡ outcome_of nowhere times since pair acts n
  pub arrived : there n ≡ true → received_spec.is_received pair.writer pair.reader acts n ≡ false → outcome_of there times since pair acts n ≡ Outcome.Arrived

-- it changes no more; and where no number is there, none arrived
abbrev pub ArrivedIsAllThatChanges : Type 0
ArrivedIsAllThatChanges =
    ((there : ℕ → Bool) (times : List (Option ℕ)) (since : Option Location) (pair : Pair) (acts : List placed.PlacedValue) (n : ℕ) → IsChangedAlone there times since pair acts n)
    × ((there : ℕ → Bool) (from last : ℕ) (times : List (Option ℕ)) (since : Option Location) (pair : Pair) (acts : List placed.PlacedValue) (outcomes : Outcomes)
    → ((n : ℕ) → there n ≡ false) → AreOutcomes there from last times since pair acts outcomes → outcomes.arrived ≡ 0)

-- where no payload of a number is told to the reader, no run ends with one
abbrev pub UnsentIsNotHeld : Type 0
UnsentIsNotHeld =
    (from : ℕ) (pair : Pair) (recording : List (List values.ActValue)) (n : ℕ) → amount.is_sent pair.writer pair.reader (placed.placed_in recording) n ≡ false
    → (end : delivery.DeliveryState) → delivery.Ends from (speech.speech_by pair.writer pair.reader recording) end → ¬ received_spec.HoldsPayload end n
