-- A stable sort of elements by a key of what they stand for sorts what they stand for.
use Rattle.std.proofs.Common.{◌≡◌, ◌∙◌, ◌+◌, Bool, List, [], ◌∷◌, ap, ap₂, arith, filter, length, map, refl, sym}
use Rattle.std.proofs.lemmas.List.{get_or-map, length-map}
use Rattle.std.proofs.lemmas.List.Elements.{filter_agree}
use Rattle.std.specs.List.Sorted.{IsSorted, IsStable, ties}
use Rattle.std.specs.Ordering.{is_lt}
use Rattle.std.specs.declared.cmp.Ordering.{Ordering}
use Rattle.rtps_discovery.proofs.Offered.{filter-map}

pub sorted_values : {X Y : Type 0} (cmp : Y → Y → Ordering) (value : X → Y) (xs : List X) → IsSorted (λ x y. cmp (value x) (value y)) xs → IsSorted cmp (map value xs)
sorted_values cmp value [] sorted = λ k d from within. absurd (omega arith)
sorted_values cmp value (x ∷ xs) sorted = λ k d from within.
    let all = x ∷ xs in
    let long : length (map value all) ≡ length all = length-map all value in
    ap₂ (λ one other. is_lt (cmp one other)) (get_or-map value all (k + 1) x d (omega arith)) (get_or-map value all k x d (omega arith)) ∙ sorted k x from (omega arith)

-- each key is that of some element, where there is one
pub stable_values : {X Y K : Type 0} (ord : K → K → Ordering) (key : Y → K) (value : X → Y) (with_key : X → K → X) → ((x : X) (k : K) → key (value (with_key x k)) ≡ k)
    → (xs ys : List X) → IsStable (λ x y. ord (key (value x)) (key (value y))) xs ys → IsStable (λ x y. ord (key x) (key y)) (map value xs) (map value ys)
stable_values {X} {Y} {K} ord key value with_key has_key xs ys stable = by xs ys refl refl
  where
    test : Y → X → Bool
    test y x = ties (λ (a b : K). is_lt (ord a b)) (key y) (key (value x))

    kept : X → (y : Y) → filter (ties (λ (a b : Y). is_lt (ord (key a) (key b))) y) (map value ys) ≡ filter (ties (λ (a b : Y). is_lt (ord (key a) (key b))) y) (map value xs)
    kept x y =
        let z = with_key x (key y) in
        let same = λ (w : X). ap (λ k. ties (λ (a b : K). is_lt (ord a b)) k (key (value w))) (sym (has_key x (key y))) in
        filter-map (ties (λ (a b : Y). is_lt (ord (key a) (key b))) y) value ys
        ∙ ap (map value) (filter_agree (test y) (λ w. test (value z) w) same ys ∙ stable z ∙ sym (filter_agree (test y) (λ w. test (value z) w) same xs))
        ∙ sym (filter-map (ties (λ (a b : Y). is_lt (ord (key a) (key b))) y) value xs)

    by : (us vs : List X) → xs ≡ us → ys ≡ vs → IsStable (λ x y. ord (key x) (key y)) (map value xs) (map value ys)
    by [] [] e f = λ y. ap (λ zs. filter (ties (λ (a b : Y). is_lt (ord (key a) (key b))) y) (map value zs)) (f ∙ sym e)
    by [] (v ∷ vs) e f = kept v
    by (u ∷ us) vs e f = kept u
