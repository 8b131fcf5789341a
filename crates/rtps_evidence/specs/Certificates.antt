-- What each verdict says, from what can be seen at a few places of a recording, with no verdict asked for. own: a reader of
-- the evidence need not believe the audit.
use Rattle.std.specs.Prelude.{ℕ, ◌≡◌, ◌≤◌, ◌<◌, List, Contains, Some, None}
use Rattle.rtps_discovery.specs.declared.matching.Pair.{Pair}
use Rattle.rtps_wire.specs.Values as wire_values
use Rattle.rtps_receiver.specs.Values as receiver_values
use Rattle.rtps_audit.specs.Delivery as delivery
use Rattle.rtps_audit.specs.Placed as placed
use Rattle.rtps_audit.specs.RunVerdict as run_verdict
use Rattle.rtps_audit.specs.Speech as speech
use Rattle.rtps_evidence.specs.Locations as locations

-- an act of the recording is an answer whose base is above n
pub record ClaimsAt (pair : Pair) (recording : List (List receiver_values.ActValue)) (n : ℕ) (at : placed.PlacedValue) : Type 0 where
  pub among : Contains (placed.placed_in recording) at
  pub above : n < locations.base_said pair.writer pair.reader at

-- an act of the recording announces n or a greater number
pub record AnnouncesAt (pair : Pair) (recording : List (List receiver_values.ActValue)) (n : ℕ) (at : placed.PlacedValue) : Type 0 where
  pub among : Contains (placed.placed_in recording) at
  pub reached : n ≤ locations.number_said pair.writer at

-- an act of the recording has this payload for n
pub record SendsAt (pair : Pair) (recording : List (List receiver_values.ActValue)) (n : ℕ) (payload : wire_values.PayloadValue) (at : placed.PlacedValue) : Type 0 where
  pub among : Contains (placed.placed_in recording) at
  pub carried : locations.payload_for pair.writer pair.reader n at ≡ Some payload

-- no act of an earlier datagram has a word for n
abbrev pub IsUntoldBefore : Pair → List (List receiver_values.ActValue) → ℕ → ℕ → Type 0
IsUntoldBefore pair recording n datagram = (at : placed.PlacedValue) → Contains (placed.placed_in recording) at → at.datagram < datagram → speech.word_for pair.writer pair.reader at.act n ≡ None

-- no answer of the recording has a base above n
abbrev pub IsUnclaimedBy : Pair → List (List receiver_values.ActValue) → ℕ → Type 0
IsUnclaimedBy pair recording n = (at : placed.PlacedValue) → Contains (placed.placed_in recording) at → locations.base_said pair.writer pair.reader at ≤ n

-- no number that is asked for has two payloads
abbrev pub HasOnePayload : ℕ → Pair → List (List receiver_values.ActValue) → Type 0
HasOnePayload from pair recording =
    (n : ℕ) (one other : placed.PlacedValue) (x y : wire_values.PayloadValue) → delivery.IsAsked from n → SendsAt pair recording n x one → SendsAt pair recording n y other → x ≡ y

-- unfounded: n is asked for, a claim of it stands at its place, and no act of an earlier datagram has a word for it; so there is
-- no run
abbrev pub UnfoundedIsShown : Type 0
UnfoundedIsShown =
    (from : ℕ) (pair : Pair) (recording : List (List receiver_values.ActValue)) (n : ℕ) (at : placed.PlacedValue) → delivery.IsAsked from n → ClaimsAt pair recording n at → IsUntoldBefore pair recording n at.datagram
    → ¬ delivery.HasRun from (speech.speech_by pair.writer pair.reader recording)

-- open: n is asked for, it or a greater number is announced, and no answer's base is above n; so where a run exists, some run
-- ends without a word for n
abbrev pub OpenIsShown : Type 0
OpenIsShown =
    (from : ℕ) (pair : Pair) (recording : List (List receiver_values.ActValue)) (n : ℕ) (at : placed.PlacedValue) → delivery.IsAsked from n → AnnouncesAt pair recording n at → IsUnclaimedBy pair recording n
    → delivery.HasRun from (speech.speech_by pair.writer pair.reader recording) → run_verdict.EndsWithout from (speech.speech_by pair.writer pair.reader recording) n

-- conflict: n is asked for, and two places give these payloads for it; so where a run exists, some run ends with both. Where
-- they differ, that is a conflict
abbrev pub ConflictIsShown : Type 0
ConflictIsShown =
    (from : ℕ) (pair : Pair) (recording : List (List receiver_values.ActValue)) (n : ℕ) (one other : placed.PlacedValue) (x y : wire_values.PayloadValue) → delivery.IsAsked from n → SendsAt pair recording n x one → SendsAt pair recording n y other
    → delivery.HasRun from (speech.speech_by pair.writer pair.reader recording)
    → (end : delivery.DeliveryState) × delivery.Ends from (speech.speech_by pair.writer pair.reader recording) end × Contains end.held (n, delivery.Word.Told x) × Contains end.held (n, delivery.Word.Told y)

-- it ends with a word for the number, and with one payload at most
pub record HoldsOne (end : delivery.DeliveryState) (n : ℕ) : Type 0 where
  pub held : delivery.Holds end n
  pub one_payload : (x y : wire_values.PayloadValue) → Contains end.held (n, delivery.Word.Told x) → Contains end.held (n, delivery.Word.Told y) → x ≡ y

-- complete: each number that is asked for, up to the last announced one, is claimed by an answer, and none has two payloads;
-- so every run ends with each of them. That each of them is told follows where a run exists
abbrev pub CompleteIsShown : Type 0
CompleteIsShown =
    (from : ℕ) (pair : Pair) (recording : List (List receiver_values.ActValue))
    → ((n : ℕ) → delivery.IsAsked from n → n ≤ delivery.last_announced_from from (speech.speech_by pair.writer pair.reader recording) → (at : placed.PlacedValue) × ClaimsAt pair recording n at)
    → HasOnePayload from pair recording
    → (end : delivery.DeliveryState) → delivery.Ends from (speech.speech_by pair.writer pair.reader recording) end
    → (n : ℕ) → delivery.IsAsked from n → n ≤ delivery.last_announced_from from (speech.speech_by pair.writer pair.reader recording) → HoldsOne end n
