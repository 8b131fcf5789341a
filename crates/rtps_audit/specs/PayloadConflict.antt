-- Different payloads for one number, and who hears them. own: a number has one payload, so a reader that hears two of
-- them is in doubt. Who hears an act: DDSI-RTPS 2.5, 8.3.4 "The RTPS Message Receiver", 8.3.8.2 "Data" and 8.3.8.3
-- "DataFrag".
use Rattle.std.specs.Prelude.{ℕ, Bool, true, ◌&&◌, ◌||◌, ◌-◌, ◌==◌, ◌≡◌, ◌≢◌, ◌↔◌, ◌<◌, ◌≤◌, ◌^◌, if◌then◌else◌, Contains, List, Option, Some, None}
use Rattle.rtps_receiver.specs.Speech as receiver_speech
use Rattle.rtps_receiver.specs.Values as receiver_values
use Rattle.rtps_wire.specs.Values as wire_values
use Rattle.rtps_audit.specs.Delivery as delivery
use Rattle.rtps_audit.specs.Placed as placed_spec
use Rattle.rtps_audit.specs.Speech as speech
use Rattle.rtps_coverage.specs.MergedRanges as merged_ranges
use Rattle.rtps_audit.specs.declared.payload_conflict.AddressedPayload.{AddressedPayload}
use Rattle.rtps_audit.specs.declared.payload_conflict.Questions.{Questions}

-- whether a number is in question, where a payload of each number of a set came again: it is asked for, and in the set, or the
-- greatest number, which no set has
abbrev pub is_in_question : ℕ → (ℕ → Bool) → ℕ → Bool
is_in_question from set n = delivery.is_asked from n && ((n == 2 ^ 63 - 1) || set n)

-- whether these ask for it
abbrev pub asks_for : Questions → ℕ → Bool
asks_for questions n = is_in_question questions.from (merged_ranges.covered_of questions.again.now) n

-- the number by which an entry stands
abbrev pub number_in : AddressedPayload → ℕ
number_in entry = entry.number

-- the number is a sequence number
abbrev pub IsInRange : AddressedPayload → Type 0
IsInRange entry = (1 ≤ entry.number) × (entry.number < 2 ^ 63)

-- the entry is the payload that an act tells, and whom it is for
pub record IsSentBy (act : receiver_values.ActValue) (entry : AddressedPayload) : Type 0 where
  pub dest : act.dest ≡ entry.dest.now
  pub reader : receiver_speech.reader_named act.body ≡ Some entry.reader
  pub says : (n : ℕ) → speech.word_of act.body n ≡ (if n == entry.number then Some (delivery.Word.Told (wire_values.payload_value entry.payload.now)) else None)

-- the entries are the payloads that these acts tell for numbers that are wanted
pub record AreSentIn (wanted : ℕ → Bool) (placed : List placed_spec.PlacedValue) (entries : List AddressedPayload) : Type 0 where
  pub sent : (entry : AddressedPayload) → Contains entries entry → (wanted entry.number ≡ true) × ((at : placed_spec.PlacedValue) × Contains placed at × IsSentBy at.act entry)
  pub all : (at : placed_spec.PlacedValue) (n : ℕ) (x : wire_values.PayloadValue) → Contains placed at → wanted n ≡ true → speech.word_of at.act.body n ≡ Some (delivery.Word.Told x) → (entry : AddressedPayload) × Contains entries entry × IsSentBy at.act entry

-- two of these entries have different payloads for the number
pub record HasTwo (Among : AddressedPayload → Type 0) (n : ℕ) : Type 0 where
  pub one : AddressedPayload
  pub other : AddressedPayload
  pub one_among : Among one
  pub other_among : Among other
  pub one_number : one.number ≡ n
  pub other_number : other.number ≡ n
  pub differ : wire_values.payload_value one.payload.now ≢ wire_values.payload_value other.payload.now

-- kept are those of the entries whose number has two different payloads
abbrev pub AreConflictsAmong : List AddressedPayload → List AddressedPayload → Type 0
AreConflictsAmong entries kept = (entry : AddressedPayload) → Contains kept entry ↔ (Contains entries entry × HasTwo (Contains entries) entry.number)

-- kept are the payloads that these acts tell for the numbers that are wanted and have two different ones
pub record AreConflictsOf (wanted : ℕ → Bool) (kept : List AddressedPayload) (placed : List placed_spec.PlacedValue) : Type 0 where
  pub entries : List AddressedPayload
  pub sent : AreSentIn wanted placed entries
  pub conflicts : AreConflictsAmong entries kept

-- there is an entry before this one, with another payload for the same number
abbrev pub IsAnother : Option AddressedPayload → AddressedPayload → Type 0
IsAnother None here = ⊥
IsAnother (Some before) here = (before.number ≡ here.number) × (wire_values.payload_value before.payload.now ≢ wire_values.payload_value here.payload.now)
