-- The first bit of a word, and the ranges of a set.
use Rattle.std.proofs.Common.{◌≡◌, ◌<◌, ◌≤◌, ◌+◌, ◌-◌, ◌*◌, ◌/◌, ◌%◌, ◌^◌, ℕ, suc, min, pos, inl, inr, ap, subst, sym, ◌∙◌, arith}
use Rattle.std.specs.Int.{bit_at}
use Rattle.std.specs.Int.Count.{count_leading_zeros, leading_of_zero}
use Rattle.std.proofs.Math.Nat.{div-add-mod', mod-lt, pow-suc, lt_of_lt_of_le}
use Rattle.std.proofs.Math.Pow.{pow_pos, pow_mono}
use Rattle.std.proofs.lemmas.Bool.{cases_lt}
use Rattle.std.proofs.lemmas.Nat.{leading_top}
use Rattle.std.proofs.lemmas.Nat.Bits.{bit_at-zero, bit_at_above, bit_at_cat_high, bit_at_cat_low}
use Rattle.std.proofs.lemmas.Int.{ints}
use Rattle.rtps_ids.specs.NumberSet as number_set
use Rattle.rtps_ids.specs.Ranges as ranges

-- the low bits are those of the word
low_bit : (word p i : ℕ) → i < p → bit_at word i ≡ bit_at (word % 2 ^ p) i
low_bit word p i below =
    ap (λ n. bit_at n i) (sym (div-add-mod' word (2 ^ p))) ∙ bit_at_cat_low (word / 2 ^ p) p (word % 2 ^ p) i below

top_bit : (a j : ℕ) → 2 ^ j ≤ a → a < 2 ^ suc j → bit_at a j ≡ 1
top_bit a j low high =
    let twice : 2 ^ suc j ≡ 2 ^ j * 2 = pow-suc 2 j in
    let whole : a ≡ 1 * 2 ^ j + (a - 2 ^ j) = omega arith in
    let rest : a - 2 ^ j < 2 ^ j = omega arith in
    let same : j ≤ j = omega arith in
    let none : j - j ≡ 0 = omega arith in
    ap (λ n. bit_at n j) whole ∙ bit_at_cat_high 1 j (a - 2 ^ j) j rest same ∙ ap (λ k. bit_at 1 k) none

-- the leading zeros of a word without its first bits
pub record IsFirstOne (word from zeros : ℕ) : Type 0 where
  pub big : 32 ≤ zeros
  pub onward : from ≤ zeros - 32
  pub found : zeros - 32 < 32 → bit_at word (31 - (zeros - 32)) ≡ 1
  pub passed : (i : ℕ) → from ≤ i → i < zeros - 32 → bit_at word (31 - i) ≡ 0

of_zero : (word from : ℕ) → from < 32 → word % 2 ^ (32 - from) ≡ 0 → IsFirstOne word from 64
of_zero word from few none = record {
  big = omega arith;
  onward = omega arith;
  found = λ lt. absurd (omega arith);
  passed = λ i a b. low_bit word (32 - from) (31 - i) (omega arith) ∙ ap (λ n. bit_at n (31 - i)) none ∙ bit_at-zero (31 - i);
}

of_top : (word from zeros j : ℕ) → from < 32 → zeros + suc j ≡ 64 → 2 ^ j ≤ word % 2 ^ (32 - from) → word % 2 ^ (32 - from) < 2 ^ suc j → j < 32 - from → IsFirstOne word from zeros
of_top word from zeros j few sum low high below =
    let place : 31 - (zeros - 32) ≡ j = omega arith in record {
      big = omega arith;
      onward = omega arith;
      found = λ lt. ap (λ k. bit_at word k) place ∙ low_bit word (32 - from) j below ∙ top_bit _ j low high;
      passed = λ i a b. low_bit word (32 - from) (31 - i) (omega arith) ∙ bit_at_above _ (suc j) (31 - i) high (omega arith);
    }

below_power : (j p a : ℕ) → 2 ^ j ≤ a → a < 2 ^ p → j < p
below_power j p a low high =
    elim (cases_lt j p) [
      | inl lt ↦ lt
      | inr ge ↦ let more : 2 ^ p ≤ 2 ^ j = pow_mono {i = p} {j = j} ge in absurd (omega arith)
    ]

pub first_one_at : (word from : ℕ) → word < 2 ^ 32 → from < 32 → IsFirstOne word from (count_leading_zeros 64 (word % 2 ^ (32 - from)))
first_one_at word from fits few =
    let rest = word % 2 ^ (32 - from) in
    let small : rest < 2 ^ (32 - from) = mod-lt word (pow_pos (32 - from)) in
    elim (cases_lt 0 rest) [
      | inl some ↦
          let wide : rest < 2 ^ 64 = lt_of_lt_of_le small (pow_mono {i = 32 - from} {j = 64} (omega arith)) in
          let top = leading_top 64 rest some wide in
          of_top word from _ top.0 few top.1 top.2 top.3 (below_power top.0 (32 - from) rest top.2 small)
      | inr le ↦
          let none : rest ≡ 0 = omega arith in
          let zeros : count_leading_zeros 64 rest ≡ 64 = ap (λ n. count_leading_zeros 64 n) none ∙ leading_of_zero 64 in
          subst (λ z. IsFirstOne word from z) (sym zeros) (of_zero word from few none)
    ]

-- ---- the ranges of a set

unlike : (a b : ℕ) → a ≡ 1 → a ≡ 0 → ⊥
unlike a b one none = absurd (omega arith)

-- where the numbers from `from` on stand for the bits from start on
pub range_at : (set : number_set.NumberSetValue) (from start first next past : ℕ) → set.count < 257 → start ≡ from - set.base
    → start ≤ first → first < set.count → number_set.bit_of set.words first ≡ 1 → ((i : ℕ) → start ≤ i → i < first → number_set.bit_of set.words i ≡ 0)
    → first ≤ next → (next < 256 → number_set.bit_of set.words next ≡ 0) → ((i : ℕ) → first ≤ i → i < next → number_set.bit_of set.words i ≡ 1)
    → past ≡ min next set.count → ranges.IsRangeFrom set from (set.base + first) (set.base + past)
range_at set from start first next past few starts onward kept one before after none between ends =
    record {
      onward = omega arith;
      some = elim (cases_lt first next) [
        | inl lt ↦ omega arith
        | inr ge ↦
            let same : next ≡ first = omega arith in
            absurd (unlike _ 0 one (subst (λ i. number_set.bit_of set.words i ≡ 0) same (none (omega arith))))
      ];
      before = λ n le lt member.
          let same : n ≡ set.base + member.bit = let e = member.number in omega (arith, ints) in
          unlike _ 0 member.is_set (before member.bit (omega arith) (omega arith));
      members = λ n le lt.
          let same : set.base + (n - set.base) ≡ n = omega arith in
          record {
            bit = n - set.base;
            in_count = omega arith;
            number = ap pos (sym same);
            is_set = between (n - set.base) (omega arith) (omega arith);
          };
      past = λ member.
          let same : set.base + past ≡ set.base + member.bit = let e = member.number in omega (arith, ints) in
          let bit : next ≡ member.bit = let f = member.in_count in omega arith in
          let lt : next < 256 = let f = member.in_count in omega arith in
          unlike _ 0 member.is_set (subst (λ i. number_set.bit_of set.words i ≡ 0) bit (none lt));
    }
