-- A written set of sequence numbers: its length, and how its words are read.
use Rattle.std.proofs.Common.{◌≤◌, ◌≡◌, ◌<◌, ◌+◌, ◌*◌, ◌/◌, ◌^◌, ℕ, zero, suc, pos, List, [], ◌∷◌, ◌++◌, false, length, take, drop, get_or, map, refl, ap, ◌∙◌, append_assoc, arith, inl, inr}
use Rattle.std.specs.Prelude.{nat_lt}
use Rattle.std.specs.List.{flat_map, range_with_len}
use Rattle.std.proofs.lemmas.Bool.{cases_lt}
use Rattle.std.proofs.lemmas.Bool.Decides.{nat_tests}
use Rattle.std.proofs.lemmas.List.{length-append, length-take-le}
use Rattle.rtps_ids.specs.NumberSet as number_set
use Rattle.rtps_ids.specs.Octets as octets
use Rattle.rtps_ids.specs.declared.order.Order.{Order}
use Rattle.rtps_ids.proofs.Offered.{length-octets_of, length-sequence_number_octets}
use Rattle.rtps_write.proofs.WrittenFields.{past, word_read}
use Rattle.rtps_write.specs.Held as held
use Rattle.rtps_write.specs.WrittenBodies as written_bodies

pub length-words : (order : Order) (words : List ℕ) → length (flat_map (octets.octets_of order 4) words) ≡ 4 * length words
length-words order [] = refl
length-words order (word ∷ words) = omega (arith, length-append {A = ℕ}, length-octets_of order 4 word, length-words order words)

pub set_parts : (order : Order) (set : number_set.NumberSetValue) → length (written_bodies.set_octets order set) ≡ 12 + length (flat_map (octets.octets_of order 4) (take (number_set.words_of_count set.count) set.words))
set_parts order set =
    let words = flat_map (octets.octets_of order 4) (take (number_set.words_of_count set.count) set.words) in
    omega (arith, length-append (octets.sequence_number_octets order (pos set.base)) (octets.octets_of order 4 set.count ++ words), length-append (octets.octets_of order 4 set.count) words, length-sequence_number_octets order (pos set.base), length-octets_of order 4 set.count)

-- the words up to one, and that one, are no longer than all that are written
pub words_within : (order : Order) (words : List ℕ) (i count : ℕ) → i < count → count ≤ length words
    → length (flat_map (octets.octets_of order 4) (take i words)) + 4 ≤ length (flat_map (octets.octets_of order 4) (take count words))
words_within order words i count inside whole =
    omega (arith, length-words order (take i words), length-words order (take count words), length-take-le i words (omega arith), length-take-le count words whole)

pub words_read : (order : Order) (words rest : List ℕ) (i : ℕ) → ((k : ℕ) → k < length words → get_or words k 0 < 2 ^ 32) → i < length words
    → octets.number_of order 4 (drop (4 * i) (flat_map (octets.octets_of order 4) words ++ rest)) ≡ get_or words i 0
words_read order [] rest i small inside = absurd (omega arith)
words_read order (word ∷ words) rest zero small inside =
    word_read order word (flat_map (octets.octets_of order 4) words ++ rest) _ (small 0 (omega arith)) (append_assoc (octets.octets_of order 4 word) (flat_map (octets.octets_of order 4) words) rest)
words_read order (word ∷ words) rest (suc i) small inside =
    ap (λ xs. octets.number_of order 4 (drop (4 * suc i) xs)) (append_assoc (octets.octets_of order 4 word) (flat_map (octets.octets_of order 4) words) rest)
    ∙ (ap (octets.number_of order 4) (past (octets.octets_of order 4 word) (flat_map (octets.octets_of order 4) words ++ rest) (4 * suc i) (4 * i) (omega (arith, length-octets_of order 4 word)))
    ∙ words_read order words rest i (λ k h. small (suc k) (omega arith)) (omega arith))

-- how many words hold so many bits
abbrev word_count : ℕ → ℕ
word_count count = (count + 31) / 32

kept_words : number_set.NumberSetValue → List ℕ
kept_words set = take (word_count set.count) set.words

kept_words-length : (set : number_set.NumberSetValue) → held.IsHeldSet set → length (kept_words set) ≡ word_count set.count
unfolding kept_words
kept_words-length set held =
    let few = held.kept.few in
    let eight = held.kept.eight in
    length-take-le (word_count set.count) set.words (omega arith)

pub length-set_octets : (order : Order) (set : number_set.NumberSetValue) → held.IsHeldSet set → length (written_bodies.set_octets order set) ≡ number_set.octets_of_count set.count
unfolding kept_words
length-set_octets order set held =
    omega (arith, length-append {A = ℕ}, length-sequence_number_octets order (pos set.base), length-octets_of order 4 set.count, length-words order (kept_words set), kept_words-length set held)

pub set_good : (set : number_set.NumberSetValue) → held.IsHeldSet set → number_set.is_bad (pos set.base) set.count ≡ false
unfolding number_set.is_bad
set_good set held =
    let few = held.kept.few in
    let start = held.kept.start in
    let end = held.kept.end in
    by_base set.base set.count few start end
  where
    by_base : (base count : ℕ) → count < 257 → (base ≡ 0 → count ≡ 0) → (0 < base → base + count < 2 ^ 63 + 1) → number_set.is_bad (pos base) count ≡ false
    by_base zero count few start end = let none : count ≡ 0 = start refl in grind (arith, nat_tests)
    by_base (suc base) count few start end = let fits : suc base + count < 2 ^ 63 + 1 = end (omega arith) in grind (arith, nat_tests)

-- what a set at the beginning of octets spells
pub record SpellsSet (order : Order) (set : number_set.NumberSetValue) (octets : List ℕ) : Type 0 where
  pub base : number_set.spelled_base order octets ≡ pos set.base
  pub count : number_set.spelled_count order octets ≡ set.count
  pub whole : number_set.spelled_set order octets ≡ set

cleared_same : (count i word other : ℕ) → (32 * i < count → word ≡ other) → number_set.cleared count word i ≡ number_set.cleared count other i
cleared_same count i word other same =
    elim (cases_lt (32 * i) count) [
      | inl before ↦ ap (λ w. number_set.cleared count w i) (same before)
      | inr past_it ↦ let none : nat_lt (32 * i) count ≡ false = grind (arith, nat_tests) in rw none refl
    ]

map_same : (f g : ℕ → ℕ) (xs : List ℕ) → ((i : ℕ) → f i ≡ g i) → map f xs ≡ map g xs
map_same f g [] same = refl
map_same f g (x ∷ xs) same = let one = same x in let more = map_same f g xs same in cc

pub cleared_words_same : (count : ℕ) (word other : ℕ → ℕ) → ((i : ℕ) → 32 * i < count → word i ≡ other i) → number_set.cleared_words count word ≡ number_set.cleared_words count other
unfolding number_set.cleared_words
cleared_words_same count word other same = map_same _ _ (range_with_len 0 8) (λ i. cleared_same count i (word i) (other i) (same i))

pub made : (base base' count count' : ℕ) (words words' : List ℕ) → base ≡ base' → count ≡ count' → words ≡ words'
    → ◌≡◌ {A = number_set.NumberSetValue} (record { base = base; count = count; words = words }) (record { base = base'; count = count'; words = words' })
made base base' count count' words words' p q r = cc
