-- One that is found at a place of a list, whose elements are seen as values.
use Rattle.std.proofs.Common.{◌≡◌, ◌∙◌, ℕ, zero, suc, ◌+◌, ◌<◌, Bool, true, false, ◌&&◌, ◌||◌, List, [], ◌∷◌, ◌++◌, ap, arith, get_or, length, map, refl, take}
use Rattle.std.specs.List.{list_all, list_any}
use Rattle.std.proofs.lemmas.List.{map_more}

or_true : (b : Bool) → (b || true) ≡ true
or_true true = refl
or_true false = refl

and_false : (b : Bool) → (b && false) ≡ false
and_false true = refl
and_false false = refl

pub any_at : {X Y : Type 0} (f : X → Y) (P : Y → Bool) (xs : List X) (i : ℕ) (d : X) → i < length xs → P (f (get_or xs i d)) ≡ true → list_any P (map f xs) ≡ true
any_at f P [] i d within is = absurd (omega (arith, within))
any_at f P (x ∷ xs) zero d within is = ap (λ b. b || list_any P (map f xs)) is
any_at f P (x ∷ xs) (suc i) d within is = ap (λ b. P (f x) || b) (any_at f P xs i d (omega (arith, within)) is) ∙ or_true (P (f x))

pub all_at : {X Y : Type 0} (f : X → Y) (P : Y → Bool) (xs : List X) (i : ℕ) (d : X) → i < length xs → P (f (get_or xs i d)) ≡ false → list_all P (map f xs) ≡ false
all_at f P [] i d within is = absurd (omega (arith, within))
all_at f P (x ∷ xs) zero d within is = ap (λ b. b && list_all P (map f xs)) is
all_at f P (x ∷ xs) (suc i) d within is = ap (λ b. P (f x) && b) (all_at f P xs i d (omega (arith, within)) is) ∙ and_false (P (f x))

none_more : {Y : Type 0} (P : Y → Bool) (ys : List Y) (y : Y) → list_any P ys ≡ false → P y ≡ false → list_any P (ys ++ y ∷ []) ≡ false
none_more P [] y none is = ap (λ b. b || false) is
none_more {Y} P (x ∷ ys) y none is = by (P x) (λ rest. none_more P ys y rest is) none
  where
    by : (b : Bool) → (list_any P ys ≡ false → list_any P (ys ++ y ∷ []) ≡ false) → (b || list_any P ys) ≡ false → (b || list_any P (ys ++ y ∷ [])) ≡ false
    by true onward none = none
    by false onward none = onward none

-- none of those up to a place, and not the one there
pub none_up_to : {X Y : Type 0} (f : X → Y) (P : Y → Bool) (xs : List X) (i : ℕ) (d : X) → i < length xs → list_any P (map f (take i xs)) ≡ false → P (f (get_or xs i d)) ≡ false
    → list_any P (map f (take (i + 1) xs)) ≡ false
none_up_to f P xs i d within none is = ap (list_any P) (map_more f xs i d within) ∙ none_more P (map f (take i xs)) (f (get_or xs i d)) none is
