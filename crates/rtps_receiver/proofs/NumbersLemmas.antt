-- The numbers that an act names, range by range.
use Rattle.std.proofs.Common.{◌≡◌, ℕ, ◌≤◌, Bool, false, ◌&&◌, ◌||◌, nat_le, nat_lt, max, refl, arith, inl, inr, Option, Some, None, ◌∙◌}
use Rattle.std.proofs.lemmas.Bool.Decides.{nat_tests}
use Rattle.std.proofs.lemmas.Bool.{cases_lt}
use Rattle.std.specs.Option.{option_map}
use Rattle.std.specs.Prelude.{MatchOption}
use Rattle.std.specs.declared.ops.Range.{Range}
use Rattle.rtps_ids.specs.NumberSet as number_set
use Rattle.rtps_ids.specs.Ranges as ranges
use Rattle.rtps_ids.proofs.Offered.{member_decides, not_member}
use Rattle.rtps_receiver.specs.Said as said
use Rattle.rtps_receiver.specs.declared.said.Numbers.{Numbers}

-- ---- a range of the list, from a number on that the others do not reach

module _ (numbers : Numbers) (list : number_set.NumberSetValue) (at : ℕ) (is : option_map (λ list. list.now) numbers.list ≡ Some list) (past : numbers.end ≤ max at numbers.start) where
  as_listed : (n : ℕ) → at ≤ n → said.numbers_have numbers n ≡ number_set.is_member list n
  as_listed n le = let out : (nat_le numbers.start n && nat_lt n numbers.end) ≡ false = grind (arith, nat_tests, past) in rw (is, out) refl

  range_listed : (lo hi : ℕ) → ranges.IsRangeFrom list at lo hi → said.IsRangeOf numbers at lo hi
  range_listed lo hi range =
      let onward = range.onward in
      let some = range.some in
      record {
        onward = onward;
        some = some;
        before = λ n le lt. as_listed n le ∙ not_member list n (range.before n le lt);
        within = λ n le lt. as_listed n (omega arith) ∙ (member_decides list n).1 (range.members n le lt);
        past = inr (as_listed hi (omega arith) ∙ not_member list hi range.past);
      }

  pub first_listed : (found : Option (Range ℕ)) → MatchOption found (ranges.HasNoneFrom list at) (λ range. ranges.IsRangeFrom list at range.start range.end)
      → MatchOption found ((n : ℕ) → at ≤ n → said.numbers_have numbers n ≡ false) (λ range. said.IsRangeOf numbers at range.start range.end)
  first_listed None none = λ n le. as_listed n le ∙ not_member list n (none n le)
  first_listed (Some range) is_range = range_listed range.start range.end is_range

-- ---- the numbers below the end of a range

-- those that have it, below a number
abbrev pub below : (ℕ → Bool) → ℕ → ℕ → Bool
below has at n = has n && nat_lt n at

pub none_below : (has : ℕ → Bool) (n : ℕ) → below has 0 n ≡ false
none_below has n = let out : nat_lt n 0 ≡ false = grind (arith, nat_tests) in grind (arith, nat_tests)

-- a range more
pub range_more : (numbers : Numbers) (at lo hi : ℕ) → said.IsRangeOf numbers at lo hi → (n : ℕ) → below (said.numbers_have numbers) hi n ≡ (below (said.numbers_have numbers) at n || (nat_le lo n && nat_lt n hi))
range_more numbers at lo hi range n = let onward = range.onward in let some = range.some in elim (cases_lt n lo) [
  | inl lt ↦ elim (cases_lt n at) [
    | inl early ↦ grind (arith, nat_tests)
    | inr le ↦ rw (range.before n le lt) (grind (arith, nat_tests))
  ]
  | inr le ↦ elim (cases_lt n hi) [
    | inl lt ↦ rw (range.within n le lt) (grind (arith, nat_tests))
    | inr ge ↦ grind (arith, nat_tests)
  ]
]

-- the last one
pub no_more : (has : ℕ → Bool) (at : ℕ) → ((n : ℕ) → at ≤ n → has n ≡ false) → (n : ℕ) → has n ≡ below has at n
no_more has at none n = elim (cases_lt n at) [
  | inl lt ↦ grind (arith, nat_tests)
  | inr le ↦ rw (none n le) refl
]
