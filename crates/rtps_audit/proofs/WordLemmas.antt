-- The numbers that the words of one act more add.
use Rattle.std.proofs.Common.{◌≡◌, ℕ, ◌≤◌, ◌+◌, Bool, true, false, ◌&&◌, ◌||◌, nat_le, nat_lt, max, refl, arith, Option, Some, None, sym, ◌∙◌, ap}
use Rattle.std.proofs.lemmas.Bool.Decides.{nat_tests}
use Rattle.std.proofs.lemmas.Bool.{eqb-true}
use Rattle.std.specs.Option.{option_map}
use Rattle.std.specs.Prelude.{◌==◌, if◌then◌else◌, is_some}
use Rattle.std.proofs.Math.Bool.{or-false, or_assoc}
use Rattle.rtps_wire.specs.Values as wire_values
use Rattle.rtps_receiver.specs.Said as said
use Rattle.rtps_receiver.specs.declared.said.SaidNumbers.{SaidNumbers}
use Rattle.rtps_coverage.specs.Coverage as coverage
use Rattle.rtps_receiver.specs.Values as receiver_values
use Rattle.rtps_audit.specs.Speech as speech
use Rattle.rtps_audit.specs.Delivery as delivery

-- ---- words

-- a number that some word is for
pub some_word : (o : Option delivery.Word) → is_some o ≡ true → (word : delivery.Word) × (o ≡ Some word)
some_word None e = cc
some_word (Some word) e = (word, refl)

pub word_some : (o : Option delivery.Word) (word : delivery.Word) → o ≡ Some word → is_some o ≡ true
word_some o word e = ap is_some e

-- a number has a word where it is gone, or its payload is told
word_is : (value : said.SaidValue) (n : ℕ) → is_some (speech.word_in value n) ≡ (value.gone n || said.is_at n (said.told_of value))
word_is value n = by (value.gone n) value.brought value.payload
  where
    if_same : {X : Type 0} (b : Bool) (x : X) → is_some (if b then Some x else None) ≡ b
    if_same true x = refl
    if_same false x = refl

    never : (b : Bool) → (let none : Option delivery.Word = if b then None else None in is_some none) ≡ false
    never true = refl
    never false = refl

    by : (gone : Bool) (brought : Option ℕ) (payload : Option wire_values.PayloadValue)
        → is_some (if gone then Some delivery.Word.Gone else if said.is_at n brought then option_map delivery.Word.Told payload else None) ≡ (gone || said.is_at n (if is_some payload then brought else None))
    by true brought payload = refl
    by false None None = refl
    by false None (Some payload) = refl
    by false (Some number) None = never (number == n)
    by false (Some number) (Some payload) = if_same (number == n) (delivery.Word.Told payload)

-- a payload is told of the number that the act announces, and of no other
pub payload_number : (body : receiver_values.ActBodyValue) (n : ℕ) (x : wire_values.PayloadValue) → speech.word_of body n ≡ Some (delivery.Word.Told x) → (speech.announced_of_body body ≡ Some n) × (said.told_of (said.said body) ≡ Some n)
payload_number body n x says = by body says
  where
    at : (number : ℕ) (b : Bool) (o : Option wire_values.PayloadValue) → (number == n) ≡ b → (let none : Option delivery.Word = None in if b then option_map delivery.Word.Told o else none) ≡ Some (delivery.Word.Told x) → (number ≡ n) × (is_some o ≡ true)
    at number true None e f = cc
    at number true (Some y) e f = (eqb-true number n e, refl)
    at number false o e f = cc

    gone : (b : Bool) → (let none : Option delivery.Word = None in if b then Some delivery.Word.Gone else none) ≡ Some (delivery.Word.Told x) → ⊥
    gone true e = cc
    gone false e = cc

    by : (body : receiver_values.ActBodyValue) → speech.word_of body n ≡ Some (delivery.Word.Told x) → (speech.announced_of_body body ≡ Some n) × (said.told_of (said.said body) ≡ Some n)
    by (receiver_values.ActBodyValue.Data value) e = let is = at value.number (value.number == n) (Some value.payload) refl e in (ap Some is.0, ap Some is.0)
    by (receiver_values.ActBodyValue.Heartbeat value) e = absurd (gone (nat_lt n value.first) e)
    by (receiver_values.ActBodyValue.Gap value) e = absurd (gone (said.is_in_gap value n) e)
    by (receiver_values.ActBodyValue.DataFrag value) e = let is = at value.number (value.number == n) value.told refl e in (ap Some is.0, ap (λ b. if b then Some value.number else None) is.1 ∙ ap Some is.0)
    by (receiver_values.ActBodyValue.AckNack value) e = cc
    by (receiver_values.ActBodyValue.NackFrag value) e = cc

-- ---- numbers that are told

-- the same numbers by another test
pub tells_same : (old new more other : ℕ → Bool) → ((n : ℕ) → 1 ≤ n → other n ≡ more n) → coverage.TellsMore old new more → coverage.TellsMore old new other
tells_same old new more other same tells n positive small = tells n positive small ∙ ap (λ b. old n || b) (sym (same n positive))

-- none yet
pub tells_none : (old more : ℕ → Bool) → ((n : ℕ) → more n ≡ false) → coverage.TellsMore old old more
tells_none old more none n positive small = sym (ap (λ b. old n || b) (none n) ∙ or-false (old n))

-- some, and then others
pub tells_both : (old mid new one two both : ℕ → Bool) → ((n : ℕ) → 1 ≤ n → both n ≡ (one n || two n)) → coverage.TellsMore old mid one → coverage.TellsMore mid new two → coverage.TellsMore old new both
tells_both old mid new one two both split first next n positive small =
    next n positive small ∙ ap (λ b. b || two n) (first n positive small) ∙ or_assoc (old n) (one n) (two n) ∙ ap (λ b. old n || b) (sym (split n positive))

-- those that are gone, where no payload is told
pub tells_gone : (old new : ℕ → Bool) (value : said.SaidValue) (numbers : SaidNumbers) → said.Says value numbers → numbers.told ≡ None → coverage.TellsMore old new (said.numbers_have numbers.gone)
    → coverage.TellsMore old new (λ n. is_some (speech.word_in value n))
tells_gone old new value numbers says none = tells_same old new (said.numbers_have numbers.gone) _
    (λ n positive. word_is value n ∙ ap (λ told. value.gone n || said.is_at n told) (sym says.told ∙ none) ∙ or-false (value.gone n) ∙ sym (says.gone n))

-- those, and the number whose payload is told
pub tells_payload : (old mid new : ℕ → Bool) (value : said.SaidValue) (numbers : SaidNumbers) (number : ℕ) → said.Says value numbers → numbers.told ≡ Some number → coverage.TellsMore old mid (said.numbers_have numbers.gone)
    → coverage.TellsMore mid new (λ n. nat_le number n && nat_lt n (number + 1)) → coverage.TellsMore old new (λ n. is_some (speech.word_in value n))
tells_payload old mid new value numbers number says is = tells_both old mid new (said.numbers_have numbers.gone) _ _
    (λ n positive. word_is value n ∙ ap (λ told. value.gone n || said.is_at n told) (sym says.told ∙ is) ∙ ap (λ b. b || (number == n)) (sym (says.gone n)) ∙ ap (λ b. said.numbers_have numbers.gone n || b) (at_one n))
  where
    at_one : (n : ℕ) → (number == n) ≡ (nat_le number n && nat_lt n (number + 1))
    at_one n = grind (arith, nat_tests)

-- the positive numbers of a range
pub from_one : (lo hi start n : ℕ) → start ≡ max lo 1 → 1 ≤ n → (nat_le lo n && nat_lt n hi) ≡ (nat_le start n && nat_lt n hi)
from_one lo hi start n is positive = rw is (grind (arith, nat_tests))
