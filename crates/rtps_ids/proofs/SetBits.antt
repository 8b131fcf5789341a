-- The bits of the words of a set.
use Rattle.std.proofs.Common.{◌≡◌, ◌<◌, ◌≤◌, ◌+◌, ◌-◌, ◌*◌, ◌/◌, ◌%◌, ◌^◌, ℕ, zero, List, Bool, true, false, refl, ap, subst, sym, ◌∙◌, arith}
use Rattle.std.specs.Prelude.{◌↔◌, None, nat_lt, pos, slice_index, map}
use Rattle.std.specs.Int.{bit_at}
use Rattle.std.specs.List.{range_with_len}
use Rattle.std.proofs.Math.Nat.{div-add-mod', mod-lt, mul-add-div, zero-div}
use Rattle.std.proofs.Math.Pow.{pow_pos}
use Rattle.std.proofs.lemmas.Bool.Decides.{nat_tests}
use Rattle.std.proofs.lemmas.List.FromFn.{fill_by_all, get_or-map-range_with_len}
use Rattle.std.proofs.lemmas.Nat.Bits.{bit_at-zero, bit_at_cat_high, bit_at_cat_low}
use Rattle.std.proofs.lemmas.Int.{ints}
use Rattle.rtps_ids.specs.NumberSet as number_set
use Rattle.rtps_ids.specs.declared.order.Order.{Order}
use Rattle.rtps_ids.proofs.Offered.{at_most_256, good_set_found}

-- a word without its low m bits
abbrev without_low : ℕ → ℕ → ℕ
without_low word m = word / 2 ^ m * 2 ^ m

bit_at-without_low_high : (word m i : ℕ) → m ≤ i → bit_at (without_low word m) i ≡ bit_at word i
bit_at-without_low_high word m i above =
    let room : zero < 2 ^ m = pow_pos m in
    let parts : word / 2 ^ m * 2 ^ m + word % 2 ^ m ≡ word = div-add-mod' word (2 ^ m) in
    let whole : bit_at (word / 2 ^ m * 2 ^ m + word % 2 ^ m) i ≡ bit_at (word / 2 ^ m) (i - m) = bit_at_cat_high (word / 2 ^ m) m (word % 2 ^ m) i (mod-lt word room) above in
    let bare : bit_at (word / 2 ^ m * 2 ^ m + 0) i ≡ bit_at (word / 2 ^ m) (i - m) = bit_at_cat_high (word / 2 ^ m) m 0 i room above in
    let none : word / 2 ^ m * 2 ^ m + 0 ≡ without_low word m = omega arith in
    ap (λ n. bit_at n i) (sym none) ∙ (bare ∙ (sym whole ∙ ap (λ n. bit_at n i) parts))

bit_at-without_low_low : (word m i : ℕ) → i < m → bit_at (without_low word m) i ≡ 0
bit_at-without_low_low word m i below =
    let none : word / 2 ^ m * 2 ^ m + 0 ≡ without_low word m = omega arith in
    ap (λ n. bit_at n i) (sym none) ∙ (bit_at_cat_low (word / 2 ^ m) m 0 i below ∙ bit_at-zero i)

-- word j of the words that are kept
word-cleared_words : (count j : ℕ) (word : ℕ → ℕ) → j < 8 → slice_index (number_set.cleared_words count word) j ≡ number_set.cleared count (word j) j
unfolding number_set.cleared_words
word-cleared_words count j word few = get_or-map-range_with_len (λ i. number_set.cleared count (word i) i) 0 8 j j 0 few (omega arith)

bit_at-cleared_kept : (count word j r : ℕ) → r < 32 → 32 * j + r < count → bit_at (number_set.cleared count word j) (31 - r) ≡ bit_at word (31 - r)
bit_at-cleared_kept count word j r few kept =
    let begun : nat_lt (32 * j) count ≡ true = grind (arith, nat_tests) in
    rw begun (bit_at-without_low_high word (32 - number_set.kept_bits count j) (31 - r) (omega arith))

bit_at-cleared_clear : (count word j r : ℕ) → r < 32 → count ≤ 32 * j + r → bit_at (number_set.cleared count word j) (31 - r) ≡ 0
bit_at-cleared_clear count word j r few past = by_begun (nat_lt (32 * j) count) refl
  where
    by_begun : (b : Bool) → nat_lt (32 * j) count ≡ b → bit_at (number_set.cleared count word j) (31 - r) ≡ 0
    by_begun true is = let below : 31 - r < 32 - number_set.kept_bits count j = let begun : 32 * j < count = grind (arith, nat_tests) in omega arith in rw is (bit_at-without_low_low word (32 - number_set.kept_bits count j) (31 - r) below)
    by_begun false is = rw is (bit_at-zero (31 - r))

pub kept_bit : (count i : ℕ) (word : ℕ → ℕ) → i < count → i < 256 → number_set.bit_of (number_set.cleared_words count word) i ≡ bit_at (word (i / 32)) (31 - i % 32)
kept_bit count i word kept few =
    ap (λ w. bit_at w (31 - i % 32)) (word-cleared_words count (i / 32) word (omega arith))
    ∙ bit_at-cleared_kept count (word (i / 32)) (i / 32) (i % 32) (omega arith) (omega arith)

pub clear_bit : (count i : ℕ) (word : ℕ → ℕ) → i < 256 → (i < count → ⊥) → number_set.bit_of (number_set.cleared_words count word) i ≡ 0
clear_bit count i word few past =
    ap (λ w. bit_at w (31 - i % 32)) (word-cleared_words count (i / 32) word (omega arith))
    ∙ bit_at-cleared_clear count (word (i / 32)) (i / 32) (i % 32) (omega arith) (omega arith)

-- words that are made alike are alike
each_word : (count : ℕ) (word : ℕ → ℕ) (made : ℕ → ℕ) → ((j : ℕ) → j < 8 → number_set.cleared count (word j) j ≡ made j) → number_set.cleared_words count word ≡ map made (range_with_len 0 8)
unfolding number_set.cleared_words
each_word count word made each =
    fill_by_all made (number_set.cleared_words count word) 8 0 refl (λ k below. word-cleared_words count k word below ∙ each k below)

-- words that are cleared stay as they are
without_low-twice : (word m : ℕ) → without_low (without_low word m) m ≡ without_low word m
without_low-twice word m =
    let room : zero < 2 ^ m = pow_pos m in
    let turned : 2 ^ m * (word / 2 ^ m) + 0 ≡ without_low word m = omega arith in
    let divided : (2 ^ m * (word / 2 ^ m) + 0) / 2 ^ m ≡ word / 2 ^ m + 0 / 2 ^ m = mul-add-div room (word / 2 ^ m) 0 in
    let nothing : 0 / 2 ^ m ≡ 0 = zero-div (2 ^ m) in
    let back : without_low word m / 2 ^ m ≡ word / 2 ^ m = ap (λ n. n / 2 ^ m) (sym turned) ∙ (divided ∙ (ap (λ n. word / 2 ^ m + n) nothing ∙ omega arith)) in
    ap (λ n. n * 2 ^ m) back

cleared-twice : (count word i : ℕ) → number_set.cleared count (number_set.cleared count word i) i ≡ number_set.cleared count word i
cleared-twice count word i = by_begun (nat_lt (32 * i) count) refl
  where
    by_begun : (b : Bool) → nat_lt (32 * i) count ≡ b → number_set.cleared count (number_set.cleared count word i) i ≡ number_set.cleared count word i
    by_begun true is = rw is (without_low-twice word (32 - number_set.kept_bits count i))
    by_begun false is = rw is refl

-- so the words of a set that is kept are cleared
pub cleared_words-twice : (count : ℕ) (word : ℕ → ℕ) → number_set.cleared_words count word ≡ number_set.cleared_words count (λ i. slice_index (number_set.cleared_words count word) i)
unfolding number_set.cleared_words
cleared_words-twice count word =
    each_word count word (λ i. number_set.cleared count (slice_index (number_set.cleared_words count word) i) i)
    (λ j few. sym (ap (λ w. number_set.cleared count w j) (word-cleared_words count j word few) ∙ cleared-twice count (word j) j))

pub clear_as_made : (count : ℕ) (word : ℕ → ℕ) (words : List ℕ) → words ≡ number_set.cleared_words count word → words ≡ number_set.cleared_words count (λ i. slice_index words i)
clear_as_made count word words made = subst (λ (ws : List ℕ). ws ≡ number_set.cleared_words count (λ i. slice_index ws i)) (sym made) (cleared_words-twice count word)

-- of octets that spell a set: the number at bit i is a member where the bit is below the count and is set
pub member_of_bit : (order : Order) (octets : List ℕ) (i : ℕ) → number_set.set_fault order octets ≡ None
    → number_set.IsMember (number_set.spelled_set order octets) (pos ((number_set.spelled_set order octets).base + i))
    ↔ ((i < number_set.spelled_count order octets) × (bit_at (number_set.spelled_word order octets (i / 32)) (31 - i % 32) ≡ 1))
member_of_bit order octets i good = (to, from)
  where
    set : number_set.NumberSetValue
    set = number_set.spelled_set order octets

    few : number_set.spelled_count order octets ≤ 256
    few = at_most_256 _ _ (good_set_found order octets good).0

    to : number_set.IsMember set (pos (set.base + i)) → (i < number_set.spelled_count order octets) × (bit_at (number_set.spelled_word order octets (i / 32)) (31 - i % 32) ≡ 1)
    to member =
        let same : member.bit ≡ i = omega (arith, ints, member.number) in
        let below : i < number_set.spelled_count order octets = subst (λ bit. bit < number_set.spelled_count order octets) same member.in_count in
        (below, sym (kept_bit (number_set.spelled_count order octets) i (number_set.spelled_word order octets) below (omega (arith, few))) ∙ ap (number_set.bit_of set.words) (sym same) ∙ member.is_set)

    from : (i < number_set.spelled_count order octets) × (bit_at (number_set.spelled_word order octets (i / 32)) (31 - i % 32) ≡ 1) → number_set.IsMember set (pos (set.base + i))
    from there =
        record { bit = i; in_count = there.0; number = refl; is_set = kept_bit (number_set.spelled_count order octets) i (number_set.spelled_word order octets) there.0 (omega (arith, few, there.0)) ∙ there.1 }
