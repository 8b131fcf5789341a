-- Two lists in order in which the elements that tie stand alike are one list. So rows by topic are the same where rows are.
use Rattle.std.proofs.Common.{◌≡◌, ◌∙◌, ◌+◌, ◌&&◌, ℕ, Bool, true, false, true≢false, not, cond, List, [], ◌∷◌, All, ap, ap₂, arith, filter, get_or, length, map, refl, subst, suc, sym}
use Rattle.std.specs.Cmp.{IsStrictWeakOrder, IsTotalOrder}
use Rattle.std.specs.List.Sorted.{IsSorted, IsSortedBy, IsStable, ties}
use Rattle.std.specs.Ordering.{is_lt}
use Rattle.std.specs.declared.cmp.Ordering.{Ordering}
use Rattle.std.proofs.lemmas.List.Elements.{All-cons, All-head, All-tail}
use Rattle.std.proofs.lemmas.List.Sorted.{ranks_by, sorted_far}
use Rattle.rtps_report.proofs.SortLemmas.{sorted_values, stable_values}

-- the elements behind the first
abbrev rest_of : {X : Type 0} → List X → List X
rest_of [] = []
rest_of (x ∷ xs) = xs

same_rest : {X : Type 0} (a b : Bool) (x y : X) (xs ys : List X) → a ≡ b → cond a (x ∷ xs) xs ≡ cond b (y ∷ ys) ys → xs ≡ ys
same_rest false false x y xs ys e same = same
same_rest true true x y xs ys e same = ap rest_of same
same_rest true false x y xs ys e same = absurd (true≢false e)
same_rest false true x y xs ys e same = absurd (true≢false (sym e))

filter_none : {X : Type 0} (test : X → Bool) (xs : List X) → All (λ x. test x ≡ false) xs → filter test xs ≡ []
filter_none test [] none = refl
filter_none test (x ∷ xs) none = rw (All-head (λ x. test x ≡ false) x xs none) (filter_none test xs (All-tail (λ x. test x ≡ false) x xs none))

module _ {X : Type 0} (lt : X → X → Bool) (o : IsStrictWeakOrder lt) where
  first_least : (x : X) (xs : List X) → IsSortedBy lt (x ∷ xs) → All (λ z. lt z x ≡ false) xs
  first_least x xs up k d within = sorted_far lt o (x ∷ xs) up 0 (suc k) d (omega arith) (omega arith)

  rest_sorted : (x : X) (xs : List X) → IsSortedBy lt (x ∷ xs) → IsSortedBy lt xs
  rest_sorted x xs up k d from within =
      subst (λ (n : ℕ). lt (get_or (x ∷ xs) n d) (get_or xs k d) ≡ false) {x = suc k + 1} {y = suc (k + 1)} (omega arith) (up (suc k) d (omega arith) (omega arith))

  own : (x : X) → lt x x ≡ false
  own x = by (lt x x) refl
    where
      by : (b : Bool) → lt x x ≡ b → lt x x ≡ false
      by false e = e
      by true e = o.one_way x x e

  own_ties : (x : X) → ties lt x x ≡ true
  own_ties x = ap₂ (λ (a b : Bool). not a && not b) (own x) (own x)

  kept_first : (x y : X) (ys : List X) → ties lt x y ≡ true → filter (ties lt x) (y ∷ ys) ≡ y ∷ filter (ties lt x) ys
  kept_first x y ys tie = ap (λ (b : Bool). cond b (y ∷ filter (ties lt x) ys) (filter (ties lt x) ys)) tie

  -- what is less than all ties with none
  no_tie : (x y z : X) → lt x y ≡ true → lt z y ≡ false → ties lt x z ≡ false
  no_tie x y z less least = by (lt x z) refl
    where
      by : (b : Bool) → lt x z ≡ b → ties lt x z ≡ false
      by true e = ap (λ (b : Bool). not b && not (lt z x)) e
      by false e = absurd (true≢false (sym less ∙ o.chain x z y e least))

  none_ties : (x y : X) (ys : List X) → lt x y ≡ true → IsSortedBy lt (y ∷ ys) → filter (ties lt x) (y ∷ ys) ≡ []
  none_ties x y ys less up =
      let least = first_least y ys up in
      filter_none (ties lt x) (y ∷ ys)
      (All-cons (λ z. ties lt x z ≡ false) y ys (no_tie x y y less (own y)) (λ k d within. no_tie x y (get_or ys k d) less (least k d within)))

  nothing : (x : X) (xs : List X) → [] ≡ filter (ties lt x) (x ∷ xs) → ⊥
  nothing x xs none = omega (arith, ap length (none ∙ kept_first x x xs (own_ties x)))

  heads : (x y : X) (xs ys : List X) → IsSortedBy lt (x ∷ xs) → IsSortedBy lt (y ∷ ys) → ((w : X) → filter (ties lt w) (x ∷ xs) ≡ filter (ties lt w) (y ∷ ys)) → x ≡ y
  heads x y xs ys up also same = by (lt x y) (lt y x) refl refl
    where
      by : (a b : Bool) → lt x y ≡ a → lt y x ≡ b → x ≡ y
      by true b e f = absurd (nothing x xs (sym (same x ∙ none_ties x y ys e also)))
      by false true e f = absurd (nothing y ys (sym (sym (same y) ∙ none_ties y x xs f up)))
      by false false e f =
          ap (λ (all : List X). get_or all 0 x)
          (sym (kept_first x x xs (own_ties x)) ∙ same x ∙ kept_first x y ys (ap₂ (λ (a b : Bool). not a && not b) e f))

  pub one_order : (xs ys : List X) → IsSortedBy lt xs → IsSortedBy lt ys → ((w : X) → filter (ties lt w) xs ≡ filter (ties lt w) ys) → xs ≡ ys
  one_order [] [] up also same = refl
  one_order [] (y ∷ ys) up also same = absurd (nothing y ys (same y))
  one_order (x ∷ xs) [] up also same = absurd (nothing x xs (sym (same x)))
  one_order (x ∷ xs) (y ∷ ys) up also same =
      let first = heads x y xs ys up also same in
      ap₂ (λ (one : X) (all : List X). one ∷ all) first
      (one_order xs ys (rest_sorted x xs up) (rest_sorted y ys also)
      (λ w. same_rest (ties lt w x) (ties lt w y) x y (filter (ties lt w) xs) (filter (ties lt w) ys) (ap (ties lt w) first) (same w)))

-- Elements that stand for the same values, sorted by a key of these, each key of which is that of some element, stand for the same.
pub sorted_once : {X Y K : Type 0} (ord : K → K → Ordering) → IsTotalOrder ord → (key : Y → K) (value : X → Y) (with_key : X → K → X) → ((x : X) (k : K) → key (value (with_key x k)) ≡ k)
    → (xs ys one other : List X) → map value xs ≡ map value ys
    → IsSorted (λ x y. ord (key (value x)) (key (value y))) one → IsStable (λ x y. ord (key (value x)) (key (value y))) xs one
    → IsSorted (λ x y. ord (key (value x)) (key (value y))) other → IsStable (λ x y. ord (key (value x)) (key (value y))) ys other
    → map value one ≡ map value other
sorted_once {X} {Y} {K} ord total key value with_key has_key xs ys one other same up stands up' stands' =
    let cmp = λ (x y : Y). ord (key x) (key y) in
    one_order (λ (x y : Y). is_lt (cmp x y)) (ranks_by total key) (map value one) (map value other)
    (sorted_values cmp value one up) (sorted_values cmp value other up')
    (λ w. stable_values ord key value with_key has_key xs one stands w
    ∙ ap (filter (ties (λ (x y : Y). is_lt (cmp x y)) w)) same
    ∙ sym (stable_values ord key value with_key has_key ys other stands' w))

-- the same of elements that stand for themselves
pub sorted_same : {X K : Type 0} (ord : K → K → Ordering) → IsTotalOrder ord → (key : X → K) → (xs ys one other : List X) → xs ≡ ys
    → IsSorted (λ x y. ord (key x) (key y)) one → IsStable (λ x y. ord (key x) (key y)) xs one
    → IsSorted (λ x y. ord (key x) (key y)) other → IsStable (λ x y. ord (key x) (key y)) ys other → one ≡ other
sorted_same {X} {K} ord total key xs ys one other same up stands up' stands' =
    let lt = λ (x y : X). is_lt (ord (key x) (key y)) in
    one_order lt (ranks_by total key) one other up up' (λ w. stands w ∙ ap (filter (ties lt w)) same ∙ sym (stands' w))
