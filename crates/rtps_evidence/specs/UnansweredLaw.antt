-- What an unanswered number is, with no walk. DDSI-RTPS 2.5, 8.3.8.6 "Heartbeat": one without the final flag asks for an answer. own: the
-- definition in `Outcomes` goes on act by act, as the code does; these are the words that say what it is for.
use Rattle.std.specs.Prelude.{ℕ, Bool, true, false, ◌+◌, ◌^◌, ◌≡◌, ◌≤◌, ◌↔◌, ◌==◌, ◌&&◌, ◌||◌, not, filter, length, List, [], ◌∷◌, Option, Some}
use Rattle.std.specs.List.{find, list_any}
use Rattle.rtps_discovery.specs.declared.matching.Pair.{Pair}
use Rattle.rtps_receiver.specs.Speech as receiver_speech
use Rattle.rtps_receiver.specs.Values as values
use Rattle.rtps_audit.specs.Placed as placed
use Rattle.rtps_audit.specs.Said as said
use Rattle.rtps_audit.specs.Speech as audit_speech
use Rattle.rtps_evidence.specs.Locations as locations
use Rattle.rtps_evidence.specs.Outcomes as outcomes
use Rattle.rtps_evidence.specs.Questions as questions
use Rattle.rtps_evidence.specs.Received as received
use Rattle.rtps_evidence.specs.Times as times_spec
use Rattle.rtps_evidence.specs.declared.location.Location.{Location}

-- ---- the order of acts

-- the submessage is a DATA_FRAG
abbrev pub is_data_frag : values.ActBodyValue → Bool
is_data_frag (values.ActBodyValue.DataFrag value) = true
is_data_frag (values.ActBodyValue.Data value) = false
is_data_frag (values.ActBodyValue.Heartbeat value) = false
is_data_frag (values.ActBodyValue.AckNack value) = false
is_data_frag (values.ActBodyValue.Gap value) = false
is_data_frag (values.ActBodyValue.NackFrag value) = false

-- An act stands behind another, or at its place, where both are DATA_FRAG: a sample that is put together is told at the place of its last
-- fragment. Each other act is alone at its place
abbrev pub stands_next : placed.PlacedValue → placed.PlacedValue → Bool
stands_next one other =
    locations.is_behind (Some (locations.location_of one)) other
    || (((one.datagram == other.datagram) && (one.act.at == other.act.at)) && (is_data_frag one.act.body && is_data_frag other.act.body))

-- each of these acts stands so behind the one before it
abbrev pub AreInOrder : List placed.PlacedValue → Type 0
AreInOrder [] = Unit {0}
AreInOrder (one ∷ []) = Unit {0}
AreInOrder (one ∷ other ∷ acts) = (stands_next one other ≡ true) × AreInOrder (other ∷ acts)

-- ---- the words

-- since the reader is there, it hears a HEARTBEAT of the writer without the final flag, with n from its first number to its last
abbrev pub asks_about : Option Location → Pair → ℕ → placed.PlacedValue → Bool
asks_about since pair n placed = questions.questions_behind since pair.writer pair.reader placed && outcomes.is_offered placed.act.body n

-- it does before a place
abbrev pub asks_before : Location → Option Location → Pair → ℕ → placed.PlacedValue → Bool
asks_before place since pair n placed = locations.is_before place placed && asks_about since pair n placed

-- The reader answers the writer between two places. An answer before the first of them is not between, and none at the second or behind it;
-- one at the first would be, but a HEARTBEAT is alone at its place
abbrev pub answers_between : Location → Location → Pair → placed.PlacedValue → Bool
answers_between first last pair placed = locations.is_before last placed && (not (locations.is_before first placed) && receiver_speech.is_answer placed.act pair.reader pair.writer)

-- n is unanswered: some act that the reader hears tells it gone; before the first such act stand two or more HEARTBEATs that ask about it;
-- no answer of the reader to the writer stands between the first of these and that act; and, where both have times, the first of these came
-- 100 ms or more before that act
pub record IsUnanswered (times : List (Option ℕ)) (since : Option Location) (pair : Pair) (acts : List placed.PlacedValue) (n : ℕ) : Type 0 where
  pub gone : placed.PlacedValue
  pub is_gone : find (received.withdraws pair.writer pair.reader n) acts ≡ Some gone
  pub asked : 2 ≤ length (filter (asks_before (locations.location_of gone) since pair n) acts)
  pub first : placed.PlacedValue
  pub is_first : find (asks_before (locations.location_of gone) since pair n) acts ≡ Some first
  pub silent : list_any (answers_between (locations.location_of first) (locations.location_of gone) pair) acts ≡ false
  pub long : (asked told : ℕ) → times_spec.time_of times first.datagram ≡ Some asked → times_spec.time_of times gone.datagram ≡ Some told → asked + 10 ^ 8 ≤ told

-- ---- laws

-- of acts in the order of their places, the walk ends in silence exactly where these words are true
abbrev pub UnansweredIsByItsWords : Type 0
UnansweredIsByItsWords =
    (times : List (Option ℕ)) (since : Option Location) (pair : Pair) (acts : List placed.PlacedValue) (n : ℕ) → AreInOrder acts → (outcomes.is_unanswered times since pair acts n ≡ true) ↔ IsUnanswered times since pair acts n

-- the acts of a recording of octets, or of its first datagrams, are in that order
abbrev pub RecordingsAreInOrder : Type 0
RecordingsAreInOrder = (until : Option ℕ) (recording : List (List ℕ)) → AreInOrder (placed.placed_in (said.datagrams_until until (audit_speech.acts_by_datagram recording)))
