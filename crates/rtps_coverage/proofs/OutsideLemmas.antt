-- The numbers that none of some stretches has, one stretch after another.
use Rattle.std.proofs.Common.{◌≡◌, ◌∙◌, ℕ, ◌+◌, ◌<◌, ◌≤◌, ◌&&◌, ◌||◌, ◌⊎◌, true, false, nat_le, nat_lt, not, max, List, [], ◌∷◌, ◌++◌, length, take, get_or, sym, ap, arith, inl, inr}
use Rattle.std.specs.List.Sorted.{IsNonDecreasingBy}
use Rattle.std.proofs.Math.Bool.{and-false, or-false, or-true}
use Rattle.std.proofs.lemmas.Bool.{cases_lt}
use Rattle.std.proofs.lemmas.Bool.Decides.{nat_tests}
use Rattle.std.proofs.lemmas.List.{get_or_default, take_all}
use Rattle.std.proofs.lemmas.List.Folds.{list_any_more}
use Rattle.rtps_coverage.specs.Stretches as stretches_spec
use Rattle.rtps_coverage.specs.declared.stretch.Stretch.{Stretch}
use Rattle.rtps_coverage.proofs.StretchLemmas.{has_one_more}

-- the stretches of `rest` have the numbers from `from` on and below `at` that none of the first `i` stretches has
pub record IsRest (stretches : List Stretch) (from i at : ℕ) (rest : List Stretch) : Type 0 where
  pub onward : from ≤ at
  pub below : (n : ℕ) → from ≤ n → n < at → stretches_spec.stretches_have rest n ≡ not (stretches_spec.stretches_have (take i stretches) n)
  pub past : (n : ℕ) → at ≤ n → stretches_spec.stretches_have (take i stretches) n ≡ false
  pub none : (n : ℕ) → at ≤ n → stretches_spec.stretches_have rest n ≡ false
  pub filled : (k n : ℕ) (d : Stretch) → i ≤ k → k < length stretches → (get_or stretches k d).lo ≤ n → n < at → from ≤ n → stretches_spec.stretches_have (take i stretches) n ≡ true

one_more : (stretches : List Stretch) (from i at : ℕ) (rest new : List Stretch) (x : Stretch) (next : ℕ) → IsNonDecreasingBy (λ (s : Stretch). s.lo) stretches → i < length stretches → x ≡ get_or stretches i x
    → new ≡ rest ++ record { lo = at; hi = x.lo } ∷ [] → next ≡ max (max at x.lo) x.hi → IsRest stretches from i at rest → IsRest stretches from (i + 1) next new
one_more stretches from i at rest new x next sorted lt here is greatest so_far = record {
  onward = (let onward = so_far.onward in omega arith);
  below = λ n low high. below n low high (cases_lt n at) (cases_lt n x.lo);
  past = λ n late. taken n ∙ (let out : stretches_spec.stretches_have (take i stretches) n ≡ false = so_far.past n (omega arith) in let no : nat_lt n x.hi ≡ false = grind (arith, nat_tests) in rw (out, no) (and-false (nat_le x.lo n)));
  none = λ n late. added n ∙ (let out : stretches_spec.stretches_have rest n ≡ false = so_far.none n (omega arith) in let no : nat_lt n x.lo ≡ false = grind (arith, nat_tests) in rw (out, no) (and-false (nat_le at n)));
  filled = λ k n d after within low high asked.
      let rises : (get_or stretches i d).lo ≤ (get_or stretches k d).lo = sorted i k d (omega arith) within in
      let same : (get_or stretches i d).lo ≡ x.lo = ap (λ (s : Stretch). s.lo) (get_or_default stretches i d x lt ∙ sym here) in
      elim (cases_lt n at) [
        | inl before ↦ taken n ∙ ap (λ b. b || stretches_spec.stretch_has n x) (so_far.filled i n d (omega arith) lt (omega arith) before asked)
        | inr past ↦
            let begun : nat_le x.lo n ≡ true = grind (arith, nat_tests) in
            let ends : nat_lt n x.hi ≡ true = grind (arith, nat_tests) in
            taken n ∙ rw (begun, ends) (or-true (stretches_spec.stretches_have (take i stretches) n))
      ];
}
  where
    taken : (n : ℕ) → stretches_spec.stretches_have (take (i + 1) stretches) n ≡ (stretches_spec.stretches_have (take i stretches) n || (nat_le x.lo n && nat_lt n x.hi))
    taken n = list_any_more (stretches_spec.stretch_has n) stretches i x lt ∙ ap (λ (s : Stretch). stretches_spec.stretches_have (take i stretches) n || stretches_spec.stretch_has n s) (sym here)

    added : (n : ℕ) → stretches_spec.stretches_have new n ≡ (stretches_spec.stretches_have rest n || (nat_le at n && nat_lt n x.lo))
    added n = has_one_more rest new at x.lo n is

    below : (n : ℕ) → from ≤ n → n < next → (n < at) ⊎ (at ≤ n) → (n < x.lo) ⊎ (x.lo ≤ n) → stretches_spec.stretches_have new n ≡ not (stretches_spec.stretches_have (take (i + 1) stretches) n)
    below n low high (inl before) (inl early) =
        let one : nat_le at n ≡ false = grind (arith, nat_tests) in
        let two : nat_le x.lo n ≡ false = grind (arith, nat_tests) in
        added n ∙ ap (λ b. stretches_spec.stretches_have rest n || (b && nat_lt n x.lo)) one ∙ or-false (stretches_spec.stretches_have rest n) ∙ so_far.below n low before
        ∙ ap not (sym (taken n ∙ ap (λ b. stretches_spec.stretches_have (take i stretches) n || (b && nat_lt n x.hi)) two ∙ or-false (stretches_spec.stretches_have (take i stretches) n)))
    below n low high (inl before) (inr begun) =
        let one : nat_le at n ≡ false = grind (arith, nat_tests) in
        let same : (get_or stretches i x).lo ≡ x.lo = ap (λ (s : Stretch). s.lo) (sym here) in
        let there = so_far.filled i n x (omega arith) lt (omega arith) before low in
        added n ∙ ap (λ b. stretches_spec.stretches_have rest n || (b && nat_lt n x.lo)) one ∙ or-false (stretches_spec.stretches_have rest n) ∙ so_far.below n low before ∙ ap not there
        ∙ ap not (sym (taken n ∙ ap (λ b. b || (nat_le x.lo n && nat_lt n x.hi)) there))
    below n low high (inr past) (inl early) =
        let one : nat_le at n ≡ true = grind (arith, nat_tests) in
        let two : nat_lt n x.lo ≡ true = grind (arith, nat_tests) in
        let three : nat_le x.lo n ≡ false = grind (arith, nat_tests) in
        added n ∙ rw (one, two) (or-true (stretches_spec.stretches_have rest n))
        ∙ ap not (sym (taken n ∙ ap (λ b. b || (nat_le x.lo n && nat_lt n x.hi)) (so_far.past n past) ∙ ap (λ b. b && nat_lt n x.hi) three))
    below n low high (inr past) (inr begun) =
        let one : nat_lt n x.lo ≡ false = grind (arith, nat_tests) in
        let two : nat_le x.lo n ≡ true = grind (arith, nat_tests) in
        let three : nat_lt n x.hi ≡ true = grind (arith, nat_tests) in
        let there : stretches_spec.stretches_have (take (i + 1) stretches) n ≡ true = taken n ∙ rw (two, three) (or-true (stretches_spec.stretches_have (take i stretches) n)) in
        added n ∙ ap (λ b. b || (nat_le at n && nat_lt n x.lo)) (so_far.none n past) ∙ ap (λ b. nat_le at n && b) one ∙ and-false (nat_le at n) ∙ ap not (sym there)

pub rest_more : (stretches : List Stretch) (from i at : ℕ) (rest new : List Stretch) (none : Stretch) (next : ℕ) → IsNonDecreasingBy (λ (s : Stretch). s.lo) stretches → i < length stretches
    → new ≡ rest ++ record { lo = at; hi = (get_or stretches i none).lo } ∷ [] → next ≡ max (max at (get_or stretches i none).lo) (get_or stretches i none).hi → IsRest stretches from i at rest → IsRest stretches from (i + 1) next new
rest_more stretches from i at rest new none next sorted lt is greatest so_far = one_more stretches from i at rest new (get_or stretches i none) next sorted lt (sym (get_or_default stretches i (get_or stretches i none) none lt)) is greatest so_far

pub rest_end : (stretches : List Stretch) (from end i at : ℕ) (rest new : List Stretch) → length stretches ≤ i → new ≡ rest ++ record { lo = at; hi = end } ∷ [] → IsRest stretches from i at rest
    → (n : ℕ) → from ≤ n → n < end → stretches_spec.stretches_have new n ≡ not (stretches_spec.stretches_have stretches n)
rest_end stretches from end i at rest new le is so_far n low high =
    has_one_more rest new at end n is ∙ by (cases_lt n at) ∙ ap (λ l. not (stretches_spec.stretches_have l n)) (take_all i stretches le)
  where
    by : (n < at) ⊎ (at ≤ n) → (stretches_spec.stretches_have rest n || (nat_le at n && nat_lt n end)) ≡ not (stretches_spec.stretches_have (take i stretches) n)
    by (inl before) =
        let one : nat_le at n ≡ false = grind (arith, nat_tests) in
        ap (λ b. stretches_spec.stretches_have rest n || (b && nat_lt n end)) one ∙ or-false (stretches_spec.stretches_have rest n) ∙ so_far.below n low before
    by (inr past) =
        let one : nat_le at n ≡ true = grind (arith, nat_tests) in
        let two : nat_lt n end ≡ true = grind (arith, nat_tests) in
        rw (one, two) (or-true (stretches_spec.stretches_have rest n)) ∙ sym (ap not (so_far.past n past))
