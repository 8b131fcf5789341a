-- Ranges by their ends, with one taken out, and with one more.
use Rattle.std.specs.BTreeMap as tree
use Rattle.std.proofs.Common.{ℕ, Bool, true, false, cond, ◌≡◌, ◌≤◌, ◌<◌, ◌⊎◌, ◌==◌, ◌∙◌, Some, None, refl, sym, ap, inl, inr, arith}
use Rattle.std.specs.BTreeMap.{BTreeMap, Updates}
use Rattle.std.specs.Ordering.{nat_cmp, is_eq}
use Rattle.std.proofs.lemmas.Bool.{cases_lt}
use Rattle.std.proofs.lemmas.Bool.Decides.{nat_tests}
use Rattle.std.specs.Prelude.{◌↔◌}
use Rattle.rtps_evidence.specs.GoneRanges as gone_ranges

is_key : (a b : ℕ) → is_eq (nat_cmp a b) ≡ (a == b)
is_key a b = grind (arith, nat_tests)

same_value : {a b : ℕ} → Some a ≡ Some b → a ≡ b
same_value e = cc

-- what is left was there before
pub kept_after : (old new : BTreeMap ℕ ℕ) (gone : ℕ) → Updates nat_cmp old new gone None → (key value : ℕ) → tree.get nat_cmp new key ≡ Some value → tree.get nat_cmp old key ≡ Some value
kept_after old new gone updates key value e = step (is_eq (nat_cmp gone key)) (sym (updates.0 key) ∙ e)
  where
    step : (b : Bool) → cond b None (tree.get nat_cmp old key) ≡ Some value → tree.get nat_cmp old key ≡ Some value
    step true k = absurd (let no : None ≡ Some value = k in cc)
    step false k = k

-- each other stays
stays_after : (old new : BTreeMap ℕ ℕ) (gone : ℕ) → Updates nat_cmp old new gone None → (key value : ℕ) → (gone == key) ≡ false → tree.get nat_cmp old key ≡ Some value → tree.get nat_cmp new key ≡ Some value
stays_after old new gone updates key value apart e =
    updates.0 key ∙ ap (λ b. cond b None (tree.get nat_cmp old key)) (is_key gone key ∙ apart) ∙ e

-- a number of a range is in one that is left, or in the one that is taken out
pub in_left : (old new : BTreeMap ℕ ℕ) (gone first : ℕ) → Updates nat_cmp old new gone None → tree.get nat_cmp old gone ≡ Some first → (n : ℕ) → gone_ranges.IsIn old n → gone_ranges.IsIn new n ⊎ ((first ≤ n) × (n < gone))
in_left old new gone first updates here n is = by (gone == is.end) refl
  where
    by : (b : Bool) → (gone == is.end) ≡ b → gone_ranges.IsIn new n ⊎ ((first ≤ n) × (n < gone))
    by true same =
        let end : gone ≡ is.end = grind (arith, nat_tests, same) in
        let begin : first ≡ is.begin = same_value (sym here ∙ ap (λ k. tree.get nat_cmp old k) end ∙ is.here) in
        let from = is.from in
        let to = is.to in
        inr (omega (arith, begin, from), omega (arith, end, to))
    by false apart = inl (record { end = is.end; begin = is.begin; here = stays_after old new gone updates is.end is.begin apart is.here; from = is.from; to = is.to })

-- what is left, with the numbers from `begin` on, is what was there, with those from lo on
pub taken_in : (old new : BTreeMap ℕ ℕ) (lo hi begin n : ℕ) → gone_ranges.IsTakenOut old new lo hi begin → (gone_ranges.IsIn new n ⊎ ((begin ≤ n) × (n < hi))) ↔ (gone_ranges.IsIn old n ⊎ ((lo ≤ n) × (n < hi)))
taken_in old new lo hi begin n taken = (to, back)
  where
    to : gone_ranges.IsIn new n ⊎ ((begin ≤ n) × (n < hi)) → gone_ranges.IsIn old n ⊎ ((lo ≤ n) × (n < hi))
    to (inl is) = inl (record { end = is.end; begin = is.begin; here = taken.kept is.end is.begin is.here; from = is.from; to = is.to })
    to (inr within) = elim (cases_lt n lo) [ inl lt ↦ inl (taken.covered n within.0 lt) | inr ge ↦ inr (ge, within.1) ]

    back : gone_ranges.IsIn old n ⊎ ((lo ≤ n) × (n < hi)) → gone_ranges.IsIn new n ⊎ ((begin ≤ n) × (n < hi))
    back (inl is) = taken.numbers n is
    back (inr within) = let on = taken.onward in let from = within.0 in inr (omega arith, within.1)
