-- Runs of numbers, one more at a time; and numbers are told by runs in one way.
use Rattle.std.proofs.Common.{◌≡◌, ◌∙◌, ℕ, ◌+◌, ◌<◌, ◌≤◌, ◌&&◌, ◌||◌, ◌⊎◌, Bool, true, false, nat_le, nat_lt, max, min, List, [], ◌∷◌, ◌++◌, length, take, get_or, refl, sym, ap, arith, inl, inr, subst}
use Rattle.std.specs.List.Sorted.{IsNonDecreasingBy}
use Rattle.std.proofs.lemmas.Bool.{cases_lt}
use Rattle.std.proofs.lemmas.Bool.Decides.{nat_tests}
use Rattle.std.proofs.lemmas.List.{get_or_default, take_all}
use Rattle.std.proofs.lemmas.List.Folds.{list_any_more}
use Rattle.rtps_coverage.specs.Stretches as stretches_spec
use Rattle.rtps_coverage.specs.declared.stretch.Stretch.{Stretch}
use Rattle.rtps_coverage.proofs.Offered.{has_one_more}
use Rattle.rtps_evidence.specs.Kinds as kinds
use Rattle.rtps_evidence.specs.Runs as runs_spec

-- ---- one run more

apart_more : (from : ℕ) (runs : List Stretch) (run : Stretch) → kinds.AreApart from runs → runs_spec.apart_end from runs ≤ run.lo → run.lo < run.hi → kinds.AreApart from (runs ++ run ∷ []) × (runs_spec.apart_end from (runs ++ run ∷ []) ≡ run.hi + 1)
apart_more from [] run apart ends some = ((ends, some, tt), refl)
apart_more from (x ∷ xs) run apart ends some =
    let rest = apart_more (x.hi + 1) xs run apart.2 ends some in ((apart.0, apart.1, rest.0), rest.1)

-- a run that has no number
none_more : (b : Bool) (lo hi n : ℕ) → hi ≤ lo → (b || (nat_le lo n && nat_lt n hi)) ≡ b
none_more b lo hi n le = grind (arith, nat_tests)

pub closed_some : (from : ℕ) (has : ℕ → Bool) (runs new : List Stretch) (run : Stretch) → new ≡ runs ++ run ∷ [] → run.lo < run.hi → runs_spec.IsAtHand from has runs run → runs_spec.AreClosed from has (run.hi + 1) new
closed_some from has runs new run is some hand =
    let more = apart_more from runs run hand.apart hand.behind some in record {
      apart = subst (kinds.AreApart from) (sym is) more.0;
      ends = (let e = ap (runs_spec.apart_end from) is ∙ more.1 in omega (arith, e));
      exact = λ n. has_one_more runs new run.lo run.hi n is ∙ hand.exact n;
    }

pub closed_none : (from : ℕ) (has : ℕ → Bool) (runs new : List Stretch) (run : Stretch) → new ≡ runs → run.hi ≤ run.lo → runs_spec.IsAtHand from has runs run → runs_spec.AreClosed from has (run.hi + 1) new
closed_none from has runs new run is none hand = record {
  apart = subst (kinds.AreApart from) (sym is) hand.apart;
  ends = (let e = ap (runs_spec.apart_end from) is in let behind = hand.behind in let ordered = hand.ordered in omega (arith, e, behind, ordered, none));
  exact = λ n. ap (λ l. stretches_spec.stretches_have l n) is ∙ sym (none_more (stretches_spec.stretches_have runs n) run.lo run.hi n none) ∙ hand.exact n;
}

-- ---- one stretch more

pub hand_same : (from : ℕ) (has : ℕ → Bool) (runs new : List Stretch) (run next : Stretch) → new ≡ runs → next.hi ≤ next.lo → runs_spec.IsAtHand from has runs run → runs_spec.IsAtHand from (λ n. has n || stretches_spec.stretch_has n next) new run
hand_same from has runs new run next is none hand = record {
  apart = subst (kinds.AreApart from) (sym is) hand.apart;
  behind = (let e = ap (runs_spec.apart_end from) is in let behind = hand.behind in omega (arith, e, behind));
  ordered = hand.ordered;
  exact = λ n. ap (λ l. stretches_spec.stretches_have l n || stretches_spec.stretch_has n run) is ∙ hand.exact n ∙ sym (none_more (has n) next.lo next.hi n none);
}

longer : (b has : Bool) (lo hi next end n : ℕ) → lo ≤ next → next ≤ hi → next < end → (b || (nat_le lo n && nat_lt n hi)) ≡ has
    → (b || (nat_le lo n && nat_lt n (max hi end))) ≡ (has || (nat_le next n && nat_lt n end))
longer b has lo hi next end n le le2 lt is = grind (arith, nat_tests)

pub hand_longer : (from : ℕ) (has : ℕ → Bool) (runs new : List Stretch) (run next : Stretch) (hi : ℕ) → new ≡ runs → hi ≡ max run.hi next.hi → next.lo < next.hi → next.lo ≤ run.hi → run.lo ≤ next.lo → runs_spec.IsAtHand from has runs run
    → runs_spec.IsAtHand from (λ n. has n || stretches_spec.stretch_has n next) new (record { lo = run.lo; hi = hi })
hand_longer from has runs new run next hi is ends some meets le hand = record {
  apart = subst (kinds.AreApart from) (sym is) hand.apart;
  behind = (let e = ap (runs_spec.apart_end from) is in let behind = hand.behind in omega (arith, e, behind));
  ordered = (let ordered = hand.ordered in omega (arith, ordered, ends));
  exact = λ n. ap (λ l. stretches_spec.stretches_have l n || (nat_le run.lo n && nat_lt n hi)) is ∙ ap (λ h. stretches_spec.stretches_have runs n || (nat_le run.lo n && nat_lt n h)) ends
      ∙ longer (stretches_spec.stretches_have runs n) (has n) run.lo run.hi next.lo next.hi n le meets some (hand.exact n);
}

pub hand_next : (from : ℕ) (has : ℕ → Bool) (runs : List Stretch) (run next : Stretch) → next.lo < next.hi → run.hi < next.lo → runs_spec.AreClosed from has (run.hi + 1) runs → runs_spec.IsAtHand from (λ n. has n || stretches_spec.stretch_has n next) runs next
hand_next from has runs run next some past closed = record {
  apart = closed.apart;
  behind = (let ends = closed.ends in omega (arith, ends, past));
  ordered = omega (arith, some);
  exact = λ n. ap (λ b. b || stretches_spec.stretch_has n next) (closed.exact n);
}

-- ---- the runs of stretches in order

-- the run at hand behind the first stretches, from `from` on and below `end`
pub record IsRunning (stretches : List Stretch) (from end i : ℕ) (runs : List Stretch) (run : Stretch) : Type 0 where
  pub hand : runs_spec.IsAtHand from (λ n. (nat_le from n && nat_lt n end) && stretches_spec.stretches_have (take i stretches) n) runs run
  pub first : (k : ℕ) (d : Stretch) → i ≤ k → k < length stretches → run.lo ≤ max (get_or stretches k d).lo from

clipped : (b : Bool) (from end lo hi n : ℕ) → (((nat_le from n && nat_lt n end) && b) || (nat_le (max lo from) n && nat_lt n (min hi end))) ≡ ((nat_le from n && nat_lt n end) && (b || (nat_le lo n && nat_lt n hi)))
clipped b from end lo hi n = grind (arith, nat_tests)

no_and : (b : Bool) → (b && false) ≡ false
no_and b = grind (arith, nat_tests)

empty_has : (from n : ℕ) → (nat_le from n && nat_lt n from) ≡ false
empty_has from n = grind (arith, nat_tests)

pub running_none : (stretches : List Stretch) (from end : ℕ) (runs : List Stretch) → runs ≡ [] → IsRunning stretches from end 0 runs (record { lo = from; hi = from })
running_none stretches from end runs is = record {
  hand = record {
    apart = subst (kinds.AreApart from) (sym is) tt;
    behind = (let e = ap (runs_spec.apart_end from) is in omega (arith, e));
    ordered = omega arith;
    exact = λ n. ap (λ l. stretches_spec.stretches_have l n || (nat_le from n && nat_lt n from)) is ∙ empty_has from n ∙ sym (no_and (nat_le from n && nat_lt n end));
  };
  first = λ k d after within. omega arith;
}

pub running_more : (stretches : List Stretch) (from end i : ℕ) (runs new : List Stretch) (run next joined d : Stretch) → IsNonDecreasingBy (λ (s : Stretch). s.lo) stretches → i < length stretches
    → next.lo ≡ max (get_or stretches i d).lo from → next.hi ≡ min (get_or stretches i d).hi end
    → ((from : ℕ) (has : ℕ → Bool) → run.lo ≤ next.lo → runs_spec.IsAtHand from has runs run → runs_spec.IsAtHand from (λ n. has n || stretches_spec.stretch_has n next) new joined) → (run.lo ≤ next.lo → joined.lo ≤ next.lo)
    → IsRunning stretches from end i runs run → IsRunning stretches from end (i + 1) new joined
running_more stretches from end i runs new run next joined d sorted lt begins ends onward begun so_far =
    let le : run.lo ≤ next.lo = (let first = so_far.first i d (omega arith) lt in omega (arith, begins, first)) in
    let hand = onward from (λ n. (nat_le from n && nat_lt n end) && stretches_spec.stretches_have (take i stretches) n) le so_far.hand in
    let begins_too = begun le in record {
      hand = record {
        apart = hand.apart;
        behind = hand.behind;
        ordered = hand.ordered;
        exact = λ n. hand.exact n
            ∙ ap (λ m. ((nat_le from n && nat_lt n end) && stretches_spec.stretches_have (take i stretches) n) || (nat_le m n && nat_lt n next.hi)) begins
            ∙ ap (λ m. ((nat_le from n && nat_lt n end) && stretches_spec.stretches_have (take i stretches) n) || (nat_le (max (get_or stretches i d).lo from) n && nat_lt n m)) ends
            ∙ clipped (stretches_spec.stretches_have (take i stretches) n) from end (get_or stretches i d).lo (get_or stretches i d).hi n
            ∙ ap (λ b. (nat_le from n && nat_lt n end) && b) (sym (taken n));
      };
      first = λ k e after within.
          let rises : (get_or stretches i e).lo ≤ (get_or stretches k e).lo = sorted i k e (omega arith) within in
          let same : (get_or stretches i e).lo ≡ (get_or stretches i d).lo = ap (λ (s : Stretch). s.lo) (get_or_default stretches i e d lt) in
          omega (arith, rises, same, begins_too, begins);
    }
  where
    taken : (n : ℕ) → stretches_spec.stretches_have (take (i + 1) stretches) n ≡ (stretches_spec.stretches_have (take i stretches) n || stretches_spec.stretch_has n (get_or stretches i d))
    taken n = list_any_more (stretches_spec.stretch_has n) stretches i (get_or stretches i d) lt ∙ ap (λ (s : Stretch). stretches_spec.stretches_have (take i stretches) n || stretches_spec.stretch_has n s) (get_or_default stretches i (get_or stretches i d) d lt)

pub running_end : (stretches : List Stretch) (from end i : ℕ) (runs new : List Stretch) (run : Stretch) → length stretches ≤ i
    → ((from : ℕ) (has : ℕ → Bool) → runs_spec.IsAtHand from has runs run → runs_spec.AreClosed from has (run.hi + 1) new) → IsRunning stretches from end i runs run → kinds.AreRunsOf (stretches_spec.stretches_have stretches) from end new
running_end stretches from end i runs new run le close so_far =
    let closed = close from (λ n. (nat_le from n && nat_lt n end) && stretches_spec.stretches_have (take i stretches) n) so_far.hand in record {
      apart = closed.apart;
      exact = λ n. closed.exact n ∙ ap (λ l. (nat_le from n && nat_lt n end) && stretches_spec.stretches_have l n) (take_all i stretches le);
    }

-- ---- numbers are told by runs in one way

-- what lies apart from a number on has none before it
none_before : (from n : ℕ) (runs : List Stretch) → kinds.AreApart from runs → n < from → stretches_spec.stretches_have runs n ≡ false
none_before from n [] apart lt = refl
none_before from n (x ∷ xs) apart lt =
    let le = apart.0 in
    let some = apart.1 in
    let rest = none_before (x.hi + 1) n xs apart.2 (omega (arith, le, some, lt)) in
    let out : nat_le x.lo n ≡ false = (let early : n < x.lo = omega (arith, le, lt) in grind (arith, nat_tests)) in
    rw (out, rest) refl

has_first : (from : ℕ) (x : Stretch) (xs : List Stretch) → kinds.AreApart from (x ∷ xs) → stretches_spec.stretches_have (x ∷ xs) x.lo ≡ true
has_first from x xs apart = first_in x.lo x.hi (stretches_spec.stretches_have xs x.lo) apart.1
  where
    first_in : (lo hi : ℕ) (b : Bool) → lo < hi → ((nat_le lo lo && nat_lt lo hi) || b) ≡ true
    first_in lo hi b lt = grind (arith, nat_tests)

-- a number that they have is not before the first one
from_first : (from n : ℕ) (x : Stretch) (xs : List Stretch) → kinds.AreApart from (x ∷ xs) → stretches_spec.stretches_have (x ∷ xs) n ≡ true → x.lo ≤ n
from_first from n x xs apart has = by (cases_lt n x.lo)
  where
    by : (n < x.lo) ⊎ (x.lo ≤ n) → x.lo ≤ n
    by (inr le) = le
    by (inl lt) = absurd (
        let some = apart.1 in
        let rest = none_before (x.hi + 1) n xs apart.2 (omega (arith, some, lt)) in
        let out : nat_le x.lo n ≡ false = grind (arith, nat_tests) in
        let no : stretches_spec.stretches_have (x ∷ xs) n ≡ false = rw (out, rest) refl in
        let both : true ≡ false = sym has ∙ no in
        cc)

-- numbers from the first one on are had up to its end
in_first : (lo hi n : ℕ) (b : Bool) → lo ≤ n → n < hi → ((nat_le lo n && nat_lt n hi) || b) ≡ true
in_first lo hi n b le lt = grind (arith, nat_tests)

past_first : (lo hi n : ℕ) (b : Bool) → hi ≤ n → ((nat_le lo n && nat_lt n hi) || b) ≡ b
past_first lo hi n b le = grind (arith, nat_tests)

-- where both begin at one number, the first does not end before the other
not_shorter : (one other : Stretch) (from : ℕ) (xs ys : List Stretch) → kinds.AreApart from (one ∷ xs) → kinds.AreApart from (other ∷ ys) → one.lo ≡ other.lo
    → ((n : ℕ) → stretches_spec.stretches_have (one ∷ xs) n ≡ stretches_spec.stretches_have (other ∷ ys) n) → other.hi ≤ one.hi
not_shorter one other from xs ys apart also begin same = by (cases_lt one.hi other.hi)
  where
    by : (one.hi < other.hi) ⊎ (other.hi ≤ one.hi) → other.hi ≤ one.hi
    by (inr le) = le
    by (inl lt) = absurd (
        let some = apart.1 in
        let mine : stretches_spec.stretches_have (one ∷ xs) one.hi ≡ false = past_first one.lo one.hi one.hi (stretches_spec.stretches_have xs one.hi) (omega arith) ∙ none_before (one.hi + 1) one.hi xs apart.2 (omega arith) in
        let theirs : stretches_spec.stretches_have (other ∷ ys) one.hi ≡ true = in_first other.lo other.hi one.hi (stretches_spec.stretches_have ys one.hi) (omega (arith, begin, some)) lt in
        let both : true ≡ false = sym theirs ∙ sym (same one.hi) ∙ mine in
        cc)

stretch_is : (one other : Stretch) → one.lo ≡ other.lo → one.hi ≡ other.hi → one ≡ other
stretch_is one other begin ends = grind (arith, nat_tests)

one_runs : (from : ℕ) (runs others : List Stretch) → kinds.AreApart from runs → kinds.AreApart from others → ((n : ℕ) → stretches_spec.stretches_have runs n ≡ stretches_spec.stretches_have others n) → runs ≡ others
one_runs from [] [] apart also same = refl
one_runs from [] (y ∷ ys) apart also same = absurd (let no : false ≡ true = same y.lo ∙ has_first from y ys also in cc)
one_runs from (x ∷ xs) [] apart also same = absurd (let no : true ≡ false = sym (has_first from x xs apart) ∙ same x.lo in cc)
one_runs from (x ∷ xs) (y ∷ ys) apart also same =
    let low : x.lo ≤ y.lo = from_first from y.lo x xs apart (same y.lo ∙ has_first from y ys also) in
    let high : y.lo ≤ x.lo = from_first from x.lo y ys also (sym (same x.lo) ∙ has_first from x xs apart) in
    let begin : x.lo ≡ y.lo = omega (arith, low, high) in
    let first : y.hi ≤ x.hi = not_shorter x y from xs ys apart also begin same in
    let second : x.hi ≤ y.hi = not_shorter y x from ys xs also apart (sym begin) (λ n. sym (same n)) in
    let ends : x.hi ≡ y.hi = omega (arith, first, second) in
    let head : x ≡ y = stretch_is x y begin ends in
    let also_from : kinds.AreApart (x.hi + 1) ys = subst (λ m. kinds.AreApart (m + 1) ys) (sym ends) also.2 in
    let tail : xs ≡ ys = one_runs (x.hi + 1) xs ys apart.2 also_from (λ n. rest n also_from (cases_lt n (x.hi + 1))) in
    cc
  where
    rest : (n : ℕ) → kinds.AreApart (x.hi + 1) ys → (n < x.hi + 1) ⊎ (x.hi + 1 ≤ n) → stretches_spec.stretches_have xs n ≡ stretches_spec.stretches_have ys n
    rest n also_from (inl lt) = none_before (x.hi + 1) n xs apart.2 lt ∙ sym (none_before (x.hi + 1) n ys also_from lt)
    rest n also_from (inr le) =
        let ends : x.hi ≡ y.hi = (
        let low : x.lo ≤ y.lo = from_first from y.lo x xs apart (same y.lo ∙ has_first from y ys also) in
        let high : y.lo ≤ x.lo = from_first from x.lo y ys also (sym (same x.lo) ∙ has_first from x xs apart) in
        let begin : x.lo ≡ y.lo = omega (arith, low, high) in
        let first : y.hi ≤ x.hi = not_shorter x y from xs ys apart also begin same in
        let second : x.hi ≤ y.hi = not_shorter y x from ys xs also apart (sym begin) (λ m. sym (same m)) in
        omega (arith, first, second)) in
        sym (past_first x.lo x.hi n (stretches_spec.stretches_have xs n) (omega (arith, le))) ∙ same n ∙ past_first y.lo y.hi n (stretches_spec.stretches_have ys n) (omega (arith, le, ends))

pub runs_are_one : kinds.RunsAreOne
runs_are_one has lo hi one other is also = one_runs lo one other is.apart also.apart (λ n. is.exact n ∙ sym (also.exact n))

-- ---- runs of the same numbers

pub runs_moved : (has other : ℕ → Bool) (lo from hi : ℕ) (runs : List Stretch) → lo ≡ from → ((n : ℕ) → has n ≡ other n) → kinds.AreRunsOf has lo hi runs → kinds.AreRunsOf other from hi runs
runs_moved has other lo from hi runs begins same are =
    subst (λ m. kinds.AreRunsOf other m hi runs) begins (record { apart = are.apart; exact = λ n. are.exact n ∙ ap (λ b. (nat_le lo n && nat_lt n hi) && b) (same n) })
