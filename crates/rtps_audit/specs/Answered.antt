-- The verdict by what a reader hears and by its answers. own: of an answer, what counts is whether each number that it claims
-- was told before it; a reader claims only what it was told (DDSI-RTPS 2.5, 8.4.2.3 "Required RTPS Reader Behavior").
use Rattle.std.specs.Prelude.{ℕ, ◌≡◌, ℤ, pos, int_lt, nat_le, nat_lt, Bool, true, ◌&&◌, Option, Some, None, if◌then◌else◌, ◌≢◌, ◌≤◌, ◌<◌, ◌-◌, ◌^◌, ◌<ℤ◌, ◌≤ℤ◌, List, Contains, map, MatchOption}
use Rattle.std.specs.List.{filter_map, All}
use Rattle.rtps_ids.specs.declared.identity.Guid.{Guid}
use Rattle.rtps_wire.specs.Values as values
use Rattle.rtps_audit.specs.declared.verdict.Untold.{Untold}
use Rattle.rtps_audit.specs.declared.verdict.Verdict.{Verdict}
use Rattle.rtps_audit.specs.Delivery as delivery
use Rattle.rtps_audit.specs.Placed as placed_spec
use Rattle.rtps_receiver.specs.Said as said
use Rattle.rtps_audit.specs.Speech as speech
use Rattle.rtps_audit.specs.declared.answer.Answer.{Answer}

-- whether a datagram stands before that of the claim which is known
abbrev pub is_earlier : ℕ → Option Untold → Bool
is_earlier datagram None = true
is_earlier datagram (Some untold) = nat_lt datagram untold.datagram

-- the front is one if it is below the base and the datagram is the first
abbrev pub FindsUntold : Option Untold → Option Untold → ℕ → ℤ → ℕ → Type 0
FindsUntold old new datagram front base = new ≡ (if is_earlier datagram old && int_lt front (pos base) then Some (record { datagram = datagram; number = front }) else old)

-- the verdict, where the first claim that no earlier datagram tells is known, the least number that two payloads are
-- spoken for, the least number that is asked for and not claimed, and the last number announced: the first of the four
-- that holds
abbrev pub verdict_by : Option Untold → Option ℕ → ℕ → ℕ → Verdict
verdict_by (Some untold) conflict base last = Verdict.Unfounded untold.datagram untold.number
verdict_by None (Some number) base last = Verdict.Conflict (pos number)
verdict_by None None base last = if nat_le base last then Verdict.Open (pos base) else Verdict.Complete (pos last)

-- the reader hears this word for n from the writer, by one of these acts
pub record IsHeard (writer reader : Guid) (placed : List placed_spec.PlacedValue) (n : ℕ) (word : delivery.Word) : Type 0 where
  pub at : placed_spec.PlacedValue
  pub among : Contains placed at
  pub says : speech.word_for writer reader at.act n ≡ Some word

-- up to that datagram it hears some word for n
abbrev pub IsToldBy : Guid → Guid → List placed_spec.PlacedValue → ℕ → ℕ → Type 0
IsToldBy writer reader placed datagram n = (word : delivery.Word) × ((heard : IsHeard writer reader placed n word) × (heard.at.datagram ≤ datagram))

-- the least number that is asked for and for which it does not, as far as a set reaches
pub record IsFrontBy (from : ℕ) (writer reader : Guid) (placed : List placed_spec.PlacedValue) (datagram : ℕ) (front : ℤ) : Type 0 where
  pub positive : pos 1 ≤ℤ front
  pub outside : (n : ℕ) → pos n ≡ front → n < 2 ^ 63 - 1 → delivery.IsAsked from n × ¬ IsToldBy writer reader placed datagram n
  pub below : (n : ℕ) → delivery.IsAsked from n → n < 2 ^ 63 - 1 → pos n <ℤ front → IsToldBy writer reader placed datagram n

-- it hears two different payloads for n, which is asked for
abbrev pub HearsTwo : ℕ → Guid → Guid → List placed_spec.PlacedValue → ℕ → Type 0
HearsTwo from writer reader placed n = delivery.IsAsked from n × ((x : values.PayloadValue) × (y : values.PayloadValue) × IsHeard writer reader placed n (delivery.Word.Told x) × IsHeard writer reader placed n (delivery.Word.Told y) × (x ≢ y))

-- the last number that the writer announces by these acts, or 0
abbrev pub last_among : Guid → List placed_spec.PlacedValue → ℕ
last_among writer placed = delivery.greatest (filter_map (λ at. speech.announced_for writer at.act) placed)

-- each number that the answer claims, and that is asked for, is told by an earlier datagram
abbrev pub IsToldAll : ℕ → Guid → Guid → List placed_spec.PlacedValue → Answer → Type 0
IsToldAll from writer reader placed answer = (n : ℕ) → delivery.IsAsked from n → pos n <ℤ answer.base → IsToldBy writer reader placed (answer.datagram - 1) n

-- the first of these answers that claims a number which none tells, by datagram, and the least such number
pub record IsFirstAmong (from : ℕ) (writer reader : Guid) (placed : List placed_spec.PlacedValue) (answers : List Answer) (untold : Untold) : Type 0 where
  pub answer : Answer
  pub among : Contains answers answer
  pub datagram : untold.datagram ≡ answer.datagram
  pub below : untold.number <ℤ answer.base
  pub small : untold.number <ℤ pos (2 ^ 63 - 1)
  pub front : IsFrontBy from writer reader placed (answer.datagram - 1) untold.number
  pub first : All (λ other. other.datagram < untold.datagram → IsToldAll from writer reader placed other) answers

-- the first answer that claims what no earlier datagram told the reader, or none where there is no such answer
abbrev pub IsUntoldAmong : ℕ → Guid → Guid → List placed_spec.PlacedValue → List Answer → Option Untold → Type 0
IsUntoldAmong from writer reader placed answers untold =
    MatchOption untold (All (IsToldAll from writer reader placed) answers) (IsFirstAmong from writer reader placed answers)

-- the greatest base of an answer, or 0
abbrev pub base_among : List Answer → ℕ
base_among answers = delivery.greatest (map (λ answer. said.natural answer.base) answers)
