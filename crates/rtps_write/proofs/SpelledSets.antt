-- A set that is read is spelled by the octets from which it was read.
use Rattle.std.proofs.Common.{◌≡◌, ◌<◌, ◌≤◌, ◌+◌, ◌-◌, ◌*◌, ◌/◌, ◌^◌, ℕ, ℤ, zero, suc, pos, List, [], ◌∷◌, ◌++◌, Bool, true, false, length, drop, get_or, refl, ap, sym, ◌∙◌, append_assoc, arith, All}
use Rattle.std.specs.Prelude.{int_le, nat_lt, slice_index}
use Rattle.std.specs.Int.RustNames.{unsigned_abs}
use Rattle.std.specs.List.{flat_map}
use Rattle.std.proofs.lemmas.Bool.Decides.{nat_tests}
use Rattle.std.proofs.lemmas.Int.{ints}
use Rattle.std.proofs.Math.Nat.{div-add-mod', mul-add-div, zero-div}
use Rattle.std.proofs.lemmas.List.{drop-drop, length-drop}
use Rattle.std.proofs.lemmas.List.FromFn.{fill_by_all, get_or-map-range_with_len, length-map-range_with_len}
use Rattle.std.proofs.lemmas.Nat.{pow_pos}
use Rattle.rtps_ids.proofs.Offered.{at_most_256}
use Rattle.rtps_ids.specs.NumberSet as number_set
use Rattle.rtps_ids.specs.Octets as octets_spec
use Rattle.rtps_ids.specs.declared.order.Order.{Order}
use Rattle.rtps_wire.proofs.Offered.{AreOctets, octets-drop}
use Rattle.rtps_write.proofs.SpelledFields.{number_stands, pos-unsigned_abs, word_below, word_stands}
use Rattle.rtps_write.proofs.WrittenSets.{cleared_words_same, set_good}
use Rattle.rtps_write.specs.Held as held
use Rattle.rtps_write.specs.Spelling as spelling

-- ---- words that stand one behind another

words_at : Order → ℕ → List ℕ → List ℕ
words_at order zero octets = []
words_at order (suc n) octets = octets_spec.number_of order 4 octets ∷ words_at order n (drop 4 octets)

length-words_at : (order : Order) (n : ℕ) (octets : List ℕ) → length (words_at order n octets) ≡ n
unfolding words_at
length-words_at order zero octets = refl
length-words_at order (suc n) octets = omega (arith, length-words_at order n (drop 4 octets))

word-words_at : (order : Order) (n i : ℕ) (octets : List ℕ) → i < n → get_or (words_at order n octets) i 0 ≡ octets_spec.number_of order 4 (drop (4 * i) octets)
unfolding words_at
word-words_at order zero i octets inside = absurd (omega arith)
word-words_at order (suc n) zero octets inside = refl
word-words_at order (suc n) (suc i) octets inside =
    let place : 4 + 4 * i ≡ 4 * suc i = omega arith in
    word-words_at order n i (drop 4 octets) (omega arith) ∙ ap (octets_spec.number_of order 4) (drop-drop (4 * i) 4 octets ∙ ap (λ at. drop at octets) place)

words_stand : (order : Order) (n : ℕ) (octets : List ℕ) → 4 * n ≤ length octets → AreOctets octets
    → octets ≡ flat_map (octets_spec.octets_of order 4) (words_at order n octets) ++ drop (4 * n) octets
unfolding words_at
words_stand order zero octets inside small = refl
words_stand order (suc n) octets inside small =
    let first = octets_spec.octets_of order 4 (octets_spec.number_of order 4 octets) in
    let more = flat_map (octets_spec.octets_of order 4) (words_at order n (drop 4 octets)) in
    let place : 4 + 4 * n ≡ 4 * suc n = omega arith in
    word_stands order octets 0 4 refl (omega arith) small
    ∙ (ap (λ xs. first ++ xs) (words_stand order n (drop 4 octets) (omega (arith, length-drop 4 octets)) (octets-drop octets 4 small))
    ∙ (sym (append_assoc first more _) ∙ ap (λ xs. (first ++ more) ++ xs) (drop-drop (4 * n) 4 octets ∙ ap (λ at. drop at octets) place)))

words_small : (order : Order) (n : ℕ) (octets : List ℕ) → 4 * n ≤ length octets → AreOctets octets → All (λ word. word < 2 ^ 32) (words_at order n octets)
unfolding words_at
words_small order zero octets inside small k d among = absurd (omega arith)
words_small order (suc n) octets inside small zero d among = word_below order octets (omega arith) small
words_small order (suc n) octets inside small (suc k) d among =
    words_small order n (drop 4 octets) (omega (arith, length-drop 4 octets)) (octets-drop octets 4 small) k d (omega arith)

-- ---- the set

good_base : (base : ℤ) (count : ℕ) → number_set.is_bad base count ≡ false → int_le (pos 0) base ≡ true
unfolding number_set.is_bad
good_base base count good = grind (arith, ints, nat_tests)

good_again : (base : ℤ) (n count : ℕ) → pos n ≡ base → number_set.is_bad base count ≡ false → number_set.is_bad (pos n) count ≡ false
good_again base n count same good = ap (λ b. number_set.is_bad b count) same ∙ good

-- octets begin with a set, and it is spelled so
pub record SetStands (order : Order) (octets : List ℕ) : Type 0 where
  pub set : List ℕ
  pub stands : octets ≡ set ++ drop (number_set.octets_of_count (number_set.spelled_count order octets)) octets
  pub spelled : spelling.SpellsSet order (number_set.spelled_set order octets) set

pub set_stands : (order : Order) (octets : List ℕ) → number_set.is_bad (number_set.spelled_base order octets) (number_set.spelled_count order octets) ≡ false
    → number_set.octets_of_count (number_set.spelled_count order octets) ≤ length octets → AreOctets octets → SetStands order octets
set_stands order octets good whole small =
    let count = number_set.spelled_count order octets in
    let many = (count + 31) / 32 in
    let base_good = good_base (number_set.spelled_base order octets) count good in
    let base_is = pos-unsigned_abs (number_set.spelled_base order octets) base_good in
    let few = at_most_256 (number_set.spelled_base order octets) count good in
    let words = words_at order many (drop 12 octets) in
    let b = octets_spec.sequence_number_octets order (pos (unsigned_abs (number_set.spelled_base order octets))) in
    let c = octets_spec.octets_of order 4 count in
    let ws = flat_map (octets_spec.octets_of order 4) words in
    let rest = drop (number_set.octets_of_count count) octets in
    let base_low = ap (int_le (pos 0)) base_is ∙ base_good in
    let words_there = words_stand order many (drop 12 octets) (omega (arith, length-drop 12 octets)) (octets-drop octets 12 small)
    ∙ ap (λ xs. ws ++ xs) (drop-drop (4 * many) 12 octets) in
    let there = number_stands order octets 0 8 (pos (unsigned_abs (number_set.spelled_base order octets))) refl (omega arith) small (sym base_is) base_low
    ∙ ap (λ xs. b ++ xs) (word_stands order octets 8 12 refl (omega arith) small ∙ ap (λ xs. c ++ xs) words_there) in
    let grouped = append_assoc b (c ++ ws) rest ∙ ap (λ xs. b ++ xs) (append_assoc c ws rest) in
    let word_is : (j : ℕ) → j < many → slice_index words j ≡ number_set.spelled_word order octets j = λ j inside.
    word-words_at order many j (drop 12 octets) inside ∙ ap (octets_spec.number_of order 4) (drop-drop (4 * j) 12 octets) in
    record {
      set = b ++ (c ++ ws);
      stands = there ∙ sym grouped;
      spelled = record {
        words = words;
        many = length-words_at order many (drop 12 octets);
        parts = refl;
        small = words_small order many (drop 12 octets) (omega (arith, length-drop 12 octets)) (octets-drop octets 12 small);
        kept = cleared_words_same count (number_set.spelled_word order octets) (λ i. slice_index words i) (λ j before. sym (word_is j (omega arith)));
        good = good_again (number_set.spelled_base order octets) _ count base_is good;
      };
    }

-- ---- what every set has that is read or kept

pub record IsFit (set : number_set.NumberSetValue) : Type 0 where
  pub few : set.count < 257
  pub eight : length set.words ≡ 8
  pub small : All (λ word. word < 2 ^ 32) set.words
  pub clear : set.words ≡ number_set.cleared_words set.count (λ i. slice_index set.words i)
  pub good : number_set.is_bad (pos set.base) set.count ≡ false

pub held_fits : (set : number_set.NumberSetValue) → held.IsHeldSet set → IsFit set
held_fits set held = record { few = held.kept.few; eight = held.kept.eight; small = held.words; clear = held.kept.clear; good = set_good set held }

-- a word that is cleared is no greater, and stays as it is when it is cleared again
cleared-below : (count word i : ℕ) → (32 * i < count → word < 2 ^ 32) → number_set.cleared count word i < 2 ^ 32
cleared-below count word i small = by (nat_lt (32 * i) count) refl
  where
    by : (begun : Bool) → nat_lt (32 * i) count ≡ begun → number_set.cleared count word i < 2 ^ 32
    by true e =
        let before : 32 * i < count = grind (arith, nat_tests) in
        let parts = div-add-mod' word (2 ^ (32 - number_set.kept_bits count i)) in
        let bound = small before in
        rw e (omega arith)
    by false e = rw e (omega arith)

without_low-twice : (word m : ℕ) → word / 2 ^ m * 2 ^ m / 2 ^ m * 2 ^ m ≡ word / 2 ^ m * 2 ^ m
without_low-twice word m =
    let room : zero < 2 ^ m = pow_pos m in
    let turned : 2 ^ m * (word / 2 ^ m) + 0 ≡ word / 2 ^ m * 2 ^ m = omega arith in
    let divided : (2 ^ m * (word / 2 ^ m) + 0) / 2 ^ m ≡ word / 2 ^ m + 0 / 2 ^ m = mul-add-div room (word / 2 ^ m) 0 in
    let nothing : 0 / 2 ^ m ≡ 0 = zero-div (2 ^ m) in
    let back : word / 2 ^ m * 2 ^ m / 2 ^ m ≡ word / 2 ^ m = ap (λ n. n / 2 ^ m) (sym turned) ∙ (divided ∙ (ap (λ n. word / 2 ^ m + n) nothing ∙ omega arith)) in
    ap (λ n. n * 2 ^ m) back

cleared-twice : (count word i : ℕ) → number_set.cleared count (number_set.cleared count word i) i ≡ number_set.cleared count word i
cleared-twice count word i = by (nat_lt (32 * i) count) refl
  where
    by : (begun : Bool) → nat_lt (32 * i) count ≡ begun → number_set.cleared count (number_set.cleared count word i) i ≡ number_set.cleared count word i
    by true e = rw e (without_low-twice word (32 - number_set.kept_bits count i))
    by false e = rw e refl

-- word i of those that are cleared
cleared_word : (count i d : ℕ) (word : ℕ → ℕ) → i < 8 → get_or (number_set.cleared_words count word) i d ≡ number_set.cleared count (word i) i
unfolding number_set.cleared_words
cleared_word count i d word few = get_or-map-range_with_len (λ j. number_set.cleared count (word j) j) 0 8 i i d few (omega arith)

length-cleared_words : (count : ℕ) (word : ℕ → ℕ) → length (number_set.cleared_words count word) ≡ 8
unfolding number_set.cleared_words
length-cleared_words count word = length-map-range_with_len (λ j. number_set.cleared count (word j) j) 0 8

cleared_words-twice : (count : ℕ) (word : ℕ → ℕ) → number_set.cleared_words count word ≡ number_set.cleared_words count (λ i. slice_index (number_set.cleared_words count word) i)
unfolding number_set.cleared_words
cleared_words-twice count word =
    fill_by_all (λ i. number_set.cleared count (slice_index (number_set.cleared_words count word) i) i) (number_set.cleared_words count word) 8 0 refl
    (λ k below. cleared_word count k 0 word below ∙ sym (ap (λ w. number_set.cleared count w k) (cleared_word count k 0 word below) ∙ cleared-twice count (word k) k))

pub set_fits : (order : Order) (octets : List ℕ) → number_set.is_bad (number_set.spelled_base order octets) (number_set.spelled_count order octets) ≡ false
    → number_set.octets_of_count (number_set.spelled_count order octets) ≤ length octets → AreOctets octets → IsFit (number_set.spelled_set order octets)
set_fits order octets good whole small =
    let count = number_set.spelled_count order octets in
    let word = number_set.spelled_word order octets in
    let few = at_most_256 (number_set.spelled_base order octets) count good in
    let base_is = pos-unsigned_abs (number_set.spelled_base order octets) (good_base (number_set.spelled_base order octets) count good) in
    let eight = length-cleared_words count word in
    record {
      few = omega arith;
      eight = eight;
      small = λ k d inside. rw (cleared_word count k d word (omega arith))
          (cleared-below count (word k) k (λ before. word_below order (drop (12 + 4 * k) octets) (omega (arith, length-drop (12 + 4 * k) octets)) (octets-drop octets (12 + 4 * k) small)));
      clear = cleared_words-twice count word;
      good = good_again (number_set.spelled_base order octets) _ count base_is good;
    }
