-- Counts over ranges of numbers.
use Rattle.std.proofs.Common.{◌≡◌, ℕ, zero, suc, ◌+◌, ◌-◌, ◌<◌, ◌≤◌, Bool, true, false, cond, refl, sym, ap, ◌∙◌, arith, ◌||◌, ◌&&◌, nat_le, nat_lt, max, min, List, ◌∷◌, length, filter, inl, inr, not, take, get_or}
use Rattle.std.specs.List.{range_with_len}
use Rattle.std.specs.List.Sorted.{IsNonDecreasingBy}
use Rattle.std.proofs.Math.Bool.{and-false, or-false, or-true}
use Rattle.std.proofs.lemmas.List.{take_all, get_or_default}
use Rattle.std.proofs.lemmas.List.Folds.{list_any_more}
use Rattle.std.proofs.lemmas.Bool.{cases_lt}
use Rattle.std.proofs.lemmas.Bool.Decides.{nat_tests}
use Rattle.rtps_coverage.specs.Counts as counts
use Rattle.rtps_coverage.specs.Stretches as stretches_spec
use Rattle.rtps_coverage.specs.declared.stretch.Stretch.{Stretch}

one_more : (b : Bool) (n : ℕ) (ns : List ℕ) → length (cond b (n ∷ ns) ns) ≡ cond b 1 0 + length ns
one_more true n ns = omega arith
one_more false n ns = omega arith

counted : (ℕ → Bool) → ℕ → ℕ → ℕ
counted has lo n = length (filter has (range_with_len lo n))

counted_next : (has : ℕ → Bool) (lo n : ℕ) → counted has lo (suc n) ≡ cond (has lo) 1 0 + counted has (lo + 1) n
unfolding counted
counted_next has lo n = one_more (has lo) lo (filter has (range_with_len (lo + 1) n))

none_at : (has : ℕ → Bool) (lo : ℕ) → counted has lo 0 ≡ 0
unfolding counted
none_at has lo = refl

-- those of the first numbers and those of the ones behind them
counted_on : (has : ℕ → Bool) (lo n m : ℕ) → counted has lo (n + m) ≡ counted has lo n + counted has (lo + n) m
counted_on has lo zero m =
    let none : counted has lo 0 ≡ 0 = none_at has lo in
    let at : lo + 0 ≡ lo = omega arith in
    let to : 0 + m ≡ m = omega arith in
    let a = ap (λ k. counted has k m) at in
    let b = ap (counted has lo) to in
    omega arith
counted_on has lo (suc n) m =
    let rest : counted has (lo + 1) (n + m) ≡ counted has (lo + 1) n + counted has (lo + 1 + n) m = counted_on has (lo + 1) n m in
    let at : lo + 1 + n ≡ lo + suc n = omega arith in
    let moved : counted has (lo + 1 + n) m ≡ counted has (lo + suc n) m = ap (λ k. counted has k m) at in
    let to : suc n + m ≡ suc (n + m) = omega arith in
    let whole : counted has lo (suc n + m) ≡ counted has lo (suc (n + m)) = ap (counted has lo) to in
    let one : counted has lo (suc (n + m)) ≡ cond (has lo) 1 0 + counted has (lo + 1) (n + m) = counted_next has lo (n + m) in
    let two : counted has lo (suc n) ≡ cond (has lo) 1 0 + counted has (lo + 1) n = counted_next has lo n in
    omega arith

pub count_split : (has : ℕ → Bool) (lo mid hi : ℕ) → lo ≤ mid → mid ≤ hi → counts.count_in has lo hi ≡ counts.count_in has lo mid + counts.count_in has mid hi
unfolding counted
count_split has lo mid hi a b =
    let sum : hi - lo ≡ (mid - lo) + (hi - mid) = omega arith in
    let at : lo + (mid - lo) ≡ mid = omega arith in
    ap (λ n. counted has lo n) sum ∙ counted_on has lo (mid - lo) (hi - mid) ∙ ap (λ k. counted has lo (mid - lo) + counted has k (hi - mid)) at

-- two properties that agree on these numbers
counted_same : (one other : ℕ → Bool) (lo n : ℕ) → ((k : ℕ) → lo ≤ k → k < lo + n → one k ≡ other k) → counted one lo n ≡ counted other lo n
unfolding counted
counted_same one other lo zero same = refl
counted_same one other lo (suc n) same =
    counted_next one lo n
    ∙ ap (λ b. cond b 1 0 + counted one (lo + 1) n) (same lo (omega arith) (omega arith))
    ∙ ap (λ m. cond (other lo) 1 0 + m) (counted_same one other (lo + 1) n (λ k a b. same k (omega arith) (omega arith)))
    ∙ sym (counted_next other lo n)

pub count_same : (one other : ℕ → Bool) (lo hi : ℕ) → ((k : ℕ) → lo ≤ k → k < hi → one k ≡ other k) → counts.count_in one lo hi ≡ counts.count_in other lo hi
unfolding counted
count_same one other lo hi same = counted_same one other lo (hi - lo) (λ k a b. same k a (omega arith))

counted_all : (lo n : ℕ) → counted (λ k. true) lo n ≡ n
unfolding counted
counted_all lo zero = refl
counted_all lo (suc n) = counted_next (λ k. true) lo n ∙ ap (λ m. 1 + m) (counted_all (lo + 1) n) ∙ (let e : 1 + n ≡ suc n = omega arith in e)

counted_none : (lo n : ℕ) → counted (λ k. false) lo n ≡ 0
unfolding counted
counted_none lo zero = refl
counted_none lo (suc n) = counted_next (λ k. false) lo n ∙ ap (λ m. 0 + m) (counted_none (lo + 1) n) ∙ (let e : 0 + 0 ≡ 0 = omega arith in e)

-- all of them have it
pub count_all : (has : ℕ → Bool) (lo hi : ℕ) → ((k : ℕ) → lo ≤ k → k < hi → has k ≡ true) → counts.count_in has lo hi ≡ hi - lo
unfolding counted
count_all has lo hi all = count_same has (λ k. true) lo hi all ∙ counted_all lo (hi - lo)

-- none has it
pub count_none : (has : ℕ → Bool) (lo hi : ℕ) → ((k : ℕ) → lo ≤ k → k < hi → has k ≡ false) → counts.count_in has lo hi ≡ 0
unfolding counted
count_none has lo hi none = count_same has (λ k. false) lo hi none ∙ counted_none lo (hi - lo)

-- ---- a stretch more

-- a number is among the stretches so far and one more where it is among those, or in that one
pub record Joins (before behind : ℕ → Bool) (lo hi : ℕ) : Type 0 where
  pub joins : (n : ℕ) → behind n ≡ (before n || (nat_le lo n && nat_lt n hi))

same_below : (before behind : ℕ → Bool) (lo hi from reached : ℕ) → Joins before behind lo hi → ((n : ℕ) → lo ≤ n → from ≤ n → n < reached → before n ≡ true)
    → (n : ℕ) → from ≤ n → n < reached → behind n ≡ before n
same_below before behind lo hi from reached h filled n a b = elim (cases_lt n lo) [
  | inl lt ↦ h.joins n ∙ (let out : nat_le lo n ≡ false = grind (arith, nat_tests) in rw out (or-false (before n)))
  | inr le ↦ let is = filled n le a b in h.joins n ∙ (rw is refl)
]

pub count_stretch : (before behind : ℕ → Bool) (stretch_lo stretch_hi from reached end lo hi count : ℕ) → Joins before behind stretch_lo stretch_hi
    → lo ≡ max stretch_lo reached → hi ≡ min stretch_hi end → lo < hi → from ≤ reached
    → ((n : ℕ) → stretch_lo ≤ n → from ≤ n → n < reached → before n ≡ true) → ((n : ℕ) → reached ≤ n → n < end → before n ≡ false)
    → count ≡ counts.count_in before from reached → count + (hi - lo) ≡ counts.count_in behind from hi
count_stretch before behind stretch_lo stretch_hi from reached end lo hi count h lo_is hi_is some onward filled past counted =
    let one = count_split behind from reached hi onward (omega arith) in
    let two = count_split behind reached lo hi (omega arith) (omega arith) in
    let same = count_same behind before from reached (same_below before behind stretch_lo stretch_hi from reached h filled) in
    let gap = count_none behind reached lo (λ n a b. h.joins n ∙ (let out : before n ≡ false = past n a (omega arith) in let early : nat_le stretch_lo n ≡ false = grind (arith, nat_tests) in rw (out, early) refl)) in
    let all = count_all behind lo hi (λ n a b. h.joins n ∙ (let from_lo : nat_le stretch_lo n ≡ true = grind (arith, nat_tests) in let to_hi : nat_lt n stretch_hi ≡ true = grind (arith, nat_tests) in rw (from_lo, to_hi) (or-true (before n)))) in
    omega arith

pub count_no_stretch : (before behind : ℕ → Bool) (stretch_lo stretch_hi from reached count : ℕ) → Joins before behind stretch_lo stretch_hi
    → ((n : ℕ) → stretch_lo ≤ n → from ≤ n → n < reached → before n ≡ true)
    → count ≡ counts.count_in before from reached → count ≡ counts.count_in behind from reached
count_no_stretch before behind stretch_lo stretch_hi from reached count h filled counted =
    counted ∙ sym (count_same behind before from reached (same_below before behind stretch_lo stretch_hi from reached h filled))

-- those that have one and those that have it not but another
pub count_rest : (some all : ℕ → Bool) (lo hi : ℕ) → ((n : ℕ) → some n ≡ true → all n ≡ true) → counts.count_in all lo hi ≡ counts.count_in some lo hi + counts.count_in (λ n. all n && not (some n)) lo hi
unfolding counted
count_rest some all lo hi h = rest lo (hi - lo)
  where
    parts : (a b : Bool) → (a ≡ true → b ≡ true) → cond b 1 0 ≡ cond a 1 0 + cond (b && not a) 1 0
    parts true true h = refl
    parts true false h = let bad = h refl in cc
    parts false true h = refl
    parts false false h = refl

    rest : (lo n : ℕ) → counted all lo n ≡ counted some lo n + counted (λ k. all k && not (some k)) lo n
    rest lo zero = refl
    rest lo (suc n) =
        let a : counted all lo (suc n) ≡ cond (all lo) 1 0 + counted all (lo + 1) n = counted_next all lo n in
        let b : counted some lo (suc n) ≡ cond (some lo) 1 0 + counted some (lo + 1) n = counted_next some lo n in
        let c : counted (λ k. all k && not (some k)) lo (suc n) ≡ cond (all lo && not (some lo)) 1 0 + counted (λ k. all k && not (some k)) (lo + 1) n = counted_next (λ k. all k && not (some k)) lo n in
        let d : counted all (lo + 1) n ≡ counted some (lo + 1) n + counted (λ k. all k && not (some k)) (lo + 1) n = rest (lo + 1) n in
        let e : cond (all lo) 1 0 ≡ cond (some lo) 1 0 + cond (all lo && not (some lo)) 1 0 = parts (some lo) (all lo) (h lo) in
        omega arith

-- those that have it and those that have it not are all
pub count_others : (has : ℕ → Bool) (lo hi : ℕ) → hi - lo ≡ counts.count_in has lo hi + counts.count_in (λ n. not (has n)) lo hi
count_others has lo hi = sym (count_all (λ n. true) lo hi (λ n a b. refl)) ∙ count_rest has (λ n. true) lo hi (λ n h. refl)

-- ---- stretches that were looked at

joined : (stretches : List Stretch) (i : ℕ) (d : Stretch) → i < length stretches → Joins (stretches_spec.stretches_have (take i stretches)) (stretches_spec.stretches_have (take (i + 1) stretches)) (get_or stretches i d).lo (get_or stretches i d).hi
joined stretches i d lt = record { joins = λ n. list_any_more (stretches_spec.stretch_has n) stretches i d lt }

-- what is known where so many stretches were looked at, and the numbers below `reached` counted
pub record IsCounted (stretches : List Stretch) (from end i reached count : ℕ) : Type 0 where
  pub onward : from ≤ reached
  pub within : reached ≤ end
  pub fits : count ≤ reached - from
  pub exact : count ≡ counts.count_in (stretches_spec.stretches_have (take i stretches)) from reached
  pub past : (n : ℕ) → reached ≤ n → n < end → stretches_spec.stretches_have (take i stretches) n ≡ false
  pub filled : (k n : ℕ) (d : Stretch) → i ≤ k → k < length stretches → (get_or stretches k d).lo ≤ n → from ≤ n → n < reached → stretches_spec.stretches_have (take i stretches) n ≡ true

pub counted_stretch : (stretches : List Stretch) (from end i reached count : ℕ) (d : Stretch) (lo hi : ℕ) → IsNonDecreasingBy (λ (stretch : Stretch). stretch.lo) stretches → i < length stretches → IsCounted stretches from end i reached count
    → lo ≡ max (get_or stretches i d).lo reached → hi ≡ min (get_or stretches i d).hi end → lo < hi → IsCounted stretches from end (i + 1) hi (count + (hi - lo))
counted_stretch stretches from end i reached count d lo hi sorted lt is lo_is hi_is some =
    let join = joined stretches i d lt in
    let onward = is.onward in
    let within = is.within in
    let fits = is.fits in
    record {
      onward = omega arith;
      within = omega arith;
      fits = omega arith;
      exact = count_stretch (stretches_spec.stretches_have (take i stretches)) (stretches_spec.stretches_have (take (i + 1) stretches)) (get_or stretches i d).lo (get_or stretches i d).hi from reached end lo hi count join lo_is hi_is some is.onward (λ n a b e. is.filled i n d (omega arith) lt a b e) is.past is.exact;
      past = λ n a b. join.joins n ∙ (let out : stretches_spec.stretches_have (take i stretches) n ≡ false = is.past n (omega arith) b in let late : nat_lt n (get_or stretches i d).hi ≡ false = grind (arith, nat_tests) in rw (out, late) (and-false (nat_le (get_or stretches i d).lo n)));
      filled = λ k n e a b low from_n below.
          let rises : (get_or stretches i e).lo ≤ (get_or stretches k e).lo = sorted i k e (omega arith) b in
          let same : get_or stretches i e ≡ get_or stretches i d = get_or_default stretches i e d lt in
          let lower = ap (λ (stretch : Stretch). stretch.lo) same in
          join.joins n ∙ (let one : nat_le (get_or stretches i d).lo n ≡ true = grind (arith, nat_tests) in let two : nat_lt n (get_or stretches i d).hi ≡ true = grind (arith, nat_tests) in rw (one, two) (or-true (stretches_spec.stretches_have (take i stretches) n)));
    }

pub counted_no_stretch : (stretches : List Stretch) (from end i reached count : ℕ) (d : Stretch) (lo hi : ℕ) → i < length stretches → IsCounted stretches from end i reached count
    → lo ≡ max (get_or stretches i d).lo reached → hi ≡ min (get_or stretches i d).hi end → hi ≤ lo → IsCounted stretches from end (i + 1) reached count
counted_no_stretch stretches from end i reached count d lo hi lt is lo_is hi_is none =
    let join = joined stretches i d lt in
    record {
      onward = is.onward;
      within = is.within;
      fits = is.fits;
      exact = count_no_stretch (stretches_spec.stretches_have (take i stretches)) (stretches_spec.stretches_have (take (i + 1) stretches)) (get_or stretches i d).lo (get_or stretches i d).hi from reached count join (λ n a b e. is.filled i n d (omega arith) lt a b e) is.exact;
      past = λ n a b. join.joins n ∙ (let out : stretches_spec.stretches_have (take i stretches) n ≡ false = is.past n a b in rw out (outside (get_or stretches i d).lo (get_or stretches i d).hi n (λ low high. omega arith)));
      filled = λ k n e a b low from_n below. join.joins n ∙ (let in_it : stretches_spec.stretches_have (take i stretches) n ≡ true = is.filled k n e (omega arith) b low from_n below in rw in_it refl);
    }
  where
    outside : (lo hi n : ℕ) → (lo ≤ n → n < hi → ⊥) → (false || (nat_le lo n && nat_lt n hi)) ≡ false
    outside lo hi n never = elim (cases_lt n lo) [
      | inl lt ↦ grind (arith, nat_tests)
      | inr le ↦ elim (cases_lt n hi) [
        | inl lt ↦ absurd (never le lt)
        | inr ge ↦ grind (arith, nat_tests)
      ]
    ]

pub counted_end : (stretches : List Stretch) (from end i reached count : ℕ) → length stretches ≤ i → IsCounted stretches from end i reached count → count ≡ counts.count_in (stretches_spec.stretches_have stretches) from end
counted_end stretches from end i reached count le is =
    let all = take_all i stretches le in
    let rest = count_none (stretches_spec.stretches_have (take i stretches)) reached end is.past in
    let whole = count_split (stretches_spec.stretches_have (take i stretches)) from reached end is.onward is.within in
    let same = ap (λ l. counts.count_in (stretches_spec.stretches_have l) from end) all in
    let so_far = is.exact in
    omega arith
