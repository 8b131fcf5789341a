-- Places in their order, and how many stand before one or behind it.
use Rattle.std.proofs.lemmas.Bool.Decides.{nat_tests}
use Rattle.std.proofs.Common.{◌≡◌, ◌∙◌, ℕ, zero, suc, ◌+◌, ◌-◌, ◌<◌, ◌≤◌, Bool, true, false, cond, nat_le, List, [], ◌∷◌, length, filter, get_or, refl, sym, ap, subst, arith}
use Rattle.std.specs.Ordering.{is_lt, nat_cmp, ordering_then}
use Rattle.std.specs.List.Sorted.{IsPermutation, IsSortedBy}
use Rattle.std.proofs.lemmas.List.Sorted.{sum_by-IsPermutation}
use Rattle.std.proofs.lemmas.List.Sums.{length-filter}
use Rattle.rtps_evidence.specs.WayRound as way_round
use Rattle.rtps_evidence.specs.declared.location.Location.{Location}

-- what is not before one is not before what that is not before
pub not_before : (a b x : Location) → way_round.goes_before b a ≡ false → way_round.goes_before a x ≡ false → way_round.goes_before b x ≡ false
not_before a b x h h2 = grind (arith, nat_tests)

-- what is before one is before what is not before that
pub still_before : (a b x : Location) → way_round.goes_before b a ≡ false → way_round.goes_before x a ≡ true → way_round.goes_before x b ≡ true
still_before a b x h h2 = grind (arith, nat_tests)

-- the order of places tells which is before which
pub order_tells : (a b : Location) → is_lt (ordering_then (nat_cmp a.datagram b.datagram) (nat_cmp a.at b.at)) ≡ way_round.goes_before a b
order_tells a b = grind (arith, nat_tests)

-- the rest of places in their order is in its order
rest_sorted : (c : Location) (cs : List Location) → IsSortedBy way_round.goes_before (c ∷ cs) → IsSortedBy way_round.goes_before cs
rest_sorted c cs sorted = λ k d low high.
    let next : suc k + 1 ≡ suc (k + 1) = omega arith in
    subst (λ n. way_round.goes_before (get_or (c ∷ cs) n d) (get_or cs k d) ≡ false) next (sorted (suc k) d (omega arith) (omega (arith, high)))

-- the second is not before the first
next_is : (c d : Location) (ds : List Location) → IsSortedBy way_round.goes_before (c ∷ d ∷ ds) → way_round.goes_before d c ≡ false
next_is c d ds sorted = sorted 0 c (omega arith) (omega arith)

-- where the first is not before x, none is
none_before : (x c : Location) (cs : List Location) → IsSortedBy way_round.goes_before (c ∷ cs) → way_round.goes_before c x ≡ false → filter (λ p. way_round.goes_before p x) cs ≡ []
none_before x c [] sorted h = refl
none_before x c (d ∷ ds) sorted h =
    let here = not_before c d x (next_is c d ds sorted) h in
    ap (λ b. cond b (d ∷ filter (λ p. way_round.goes_before p x) ds) (filter (λ p. way_round.goes_before p x) ds)) here ∙ none_before x d ds (rest_sorted c (d ∷ ds) sorted) here

none_at : (x c : Location) (cs : List Location) (i : ℕ) (e : Location) → IsSortedBy way_round.goes_before (c ∷ cs) → way_round.goes_before c x ≡ false → i < length cs → way_round.goes_before (get_or cs i e) x ≡ false
none_at x c [] i e sorted h lt = absurd (omega (arith, lt))
none_at x c (d ∷ ds) zero e sorted h lt = not_before c d x (next_is c d ds sorted) h
none_at x c (d ∷ ds) (suc i) e sorted h lt = none_at x d ds i e (rest_sorted c (d ∷ ds) sorted) (not_before c d x (next_is c d ds sorted) h) (omega (arith, lt))

-- so many are before x exactly where the last of so many is
pub before_sorted : (x : Location) (places : List Location) (i : ℕ) (e : Location) → IsSortedBy way_round.goes_before places → i < length places
    → nat_le (suc i) (length (filter (λ p. way_round.goes_before p x) places)) ≡ way_round.goes_before (get_or places i e) x
before_sorted x [] i e sorted lt = absurd (omega (arith, lt))
before_sorted x (c ∷ cs) i e sorted lt = by (λ j low. before_sorted x cs j e (rest_sorted c cs sorted) low) i (way_round.goes_before c x) refl lt
  where
    by : ((j : ℕ) → j < length cs → nat_le (suc j) (length (filter (λ p. way_round.goes_before p x) cs)) ≡ way_round.goes_before (get_or cs j e) x) → (i : ℕ) (b : Bool) → way_round.goes_before c x ≡ b → i < length (c ∷ cs)
        → nat_le (suc i) (length (cond b (c ∷ filter (λ p. way_round.goes_before p x) cs) (filter (λ p. way_round.goes_before p x) cs))) ≡ way_round.goes_before (get_or (c ∷ cs) i e) x
    by onward zero true is low = (let yes : nat_le 1 (suc (length (filter (λ p. way_round.goes_before p x) cs))) ≡ true = grind (arith, nat_tests) in yes) ∙ sym is
    by onward zero false is low = ap (λ (l : List Location). nat_le 1 (length l)) (none_before x c cs sorted is) ∙ (let no : nat_le 1 0 ≡ false = grind (arith, nat_tests) in no) ∙ sym is
    by onward (suc j) true is low =
        let step : nat_le (suc (suc j)) (suc (length (filter (λ p. way_round.goes_before p x) cs))) ≡ nat_le (suc j) (length (filter (λ p. way_round.goes_before p x) cs)) = grind (arith, nat_tests) in
        step ∙ onward j (omega (arith, low))
    by onward (suc j) false is low = ap (λ (l : List Location). nat_le (suc (suc j)) (length l)) (none_before x c cs sorted is) ∙ (let no : nat_le (suc (suc j)) 0 ≡ false = grind (arith, nat_tests) in no) ∙ sym (none_at x c cs j e sorted is (omega (arith, low)))

-- where the first is behind x, all are
all_behind : (x c : Location) (cs : List Location) → IsSortedBy way_round.goes_before (c ∷ cs) → way_round.goes_before x c ≡ true → length (filter (way_round.goes_before x) cs) ≡ length cs
all_behind x c [] sorted h = refl
all_behind x c (d ∷ ds) sorted h =
    let here = still_before c d x (next_is c d ds sorted) h in
    ap (λ b. length (cond b (d ∷ filter (way_round.goes_before x) ds) (filter (way_round.goes_before x) ds))) here ∙ ap suc (all_behind x d ds (rest_sorted c (d ∷ ds) sorted) here)

behind_at : (x c : Location) (cs : List Location) (i : ℕ) (e : Location) → IsSortedBy way_round.goes_before (c ∷ cs) → way_round.goes_before x c ≡ true → i < length cs → way_round.goes_before x (get_or cs i e) ≡ true
behind_at x c [] i e sorted h lt = absurd (omega (arith, lt))
behind_at x c (d ∷ ds) zero e sorted h lt = still_before c d x (next_is c d ds sorted) h
behind_at x c (d ∷ ds) (suc i) e sorted h lt = behind_at x d ds i e (rest_sorted c (d ∷ ds) sorted) (still_before c d x (next_is c d ds sorted) h) (omega (arith, lt))

few : (test : Location → Bool) (places : List Location) → length (filter test places) ≤ length places
few test [] = omega arith
few test (c ∷ cs) = by (few test cs) (test c)
  where
    by : length (filter test cs) ≤ length cs → (b : Bool) → length (cond b (c ∷ filter test cs) (filter test cs)) ≤ suc (length cs)
    by fewer true = omega (arith, fewer)
    by fewer false = omega (arith, fewer)

-- so many are behind x exactly where the first of the last so many is
pub behind_sorted : (x : Location) (places : List Location) (i k : ℕ) (e : Location) → IsSortedBy way_round.goes_before places → i + suc k ≡ length places
    → nat_le (suc k) (length (filter (way_round.goes_before x) places)) ≡ way_round.goes_before x (get_or places i e)
behind_sorted x [] i k e sorted whole = absurd (omega (arith, whole))
behind_sorted x (c ∷ cs) i k e sorted whole = by (λ j whole. behind_sorted x cs j k e (rest_sorted c cs sorted) whole) i (way_round.goes_before x c) refl whole
  where
    by : ((j : ℕ) → j + suc k ≡ length cs → nat_le (suc k) (length (filter (way_round.goes_before x) cs)) ≡ way_round.goes_before x (get_or cs j e)) → (i : ℕ) (b : Bool) → way_round.goes_before x c ≡ b → i + suc k ≡ length (c ∷ cs)
        → nat_le (suc k) (length (cond b (c ∷ filter (way_round.goes_before x) cs) (filter (way_round.goes_before x) cs))) ≡ way_round.goes_before x (get_or (c ∷ cs) i e)
    by onward zero true is whole =
        let all = all_behind x c cs sorted is in
        let yes : nat_le (suc k) (suc (length (filter (way_round.goes_before x) cs))) ≡ true = grind (arith, nat_tests) in
        yes ∙ sym is
    by onward zero false is whole =
        let fewer = few (way_round.goes_before x) cs in
        let no : nat_le (suc k) (length (filter (way_round.goes_before x) cs)) ≡ false = grind (arith, nat_tests) in
        no ∙ sym is
    by onward (suc j) true is whole =
        let at = behind_at x c cs j e sorted is (omega (arith, whole)) in
        let more = onward j (omega (arith, whole)) in
        let yes : nat_le (suc k) (suc (length (filter (way_round.goes_before x) cs))) ≡ true = grind (arith, nat_tests) in
        yes ∙ sym at
    by onward (suc j) false is whole = onward j (omega (arith, whole))

-- a test passes as often in another order
pub as_often : {X : Type 0} (test : X → Bool) (xs ys : List X) → IsPermutation xs ys → length (filter test ys) ≡ length (filter test xs)
as_often test xs ys moved = length-filter test ys ∙ sum_by-IsPermutation (λ x. cond (test x) 1 0) xs ys moved ∙ sym (length-filter test xs)

-- the fifth and the fifth from the end of places in their order
pub window_is : (places sorted : List Location) (lo hi : Location) → IsPermutation places sorted → IsSortedBy way_round.goes_before sorted → 5 ≤ length sorted
    → lo ≡ get_or sorted 4 lo → hi ≡ get_or sorted (length sorted - 5) hi → way_round.IsWindow places lo hi
window_is places sorted lo hi moved order enough low high = record {
  low = λ x. ap (nat_le 5) (sym (as_often (λ p. way_round.goes_before p x) places sorted moved)) ∙ before_sorted x sorted 4 lo order (omega (arith, enough)) ∙ ap (λ p. way_round.goes_before p x) (sym low);
  high = λ x. ap (nat_le 5) (sym (as_often (way_round.goes_before x) places sorted moved)) ∙ behind_sorted x sorted (length sorted - 5) 4 hi order (omega (arith, enough)) ∙ ap (way_round.goes_before x) (sym high);
}

-- of fewer than five places none has five behind it
pub no_window : (places sorted : List Location) (x : Location) → IsPermutation places sorted → length sorted < 5 → nat_le 5 (length (filter (way_round.goes_before x) places)) ≡ false
no_window places sorted x moved less =
    let same = as_often (way_round.goes_before x) places sorted moved in
    let fewer = few (way_round.goes_before x) sorted in
    grind (arith, nat_tests)
