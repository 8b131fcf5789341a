-- What is in a list that was made of another.
use Rattle.std.proofs.Common.{◌≡◌, ◌⊎◌, inl, inr, Bool, true, false, cond, List, [], ◌∷◌, ◌++◌, map, filter, flat_map, Option, Some, None, Contains, refl, sym, ap, ◌∙◌, subst, arith}
use Rattle.std.specs.List.{cons_option, filter_map}
use Rattle.std.proofs.lemmas.List.Elements.{Contains-append_cases, Contains-append_left, Contains-append_right, Contains-push, Contains-push_cases}

module _ {X : Type 0} where
  pub nothing_in_nil : (x : X) → Contains [] x → ⊥
  nothing_in_nil x c = omega (arith, c.1)

  pub at_head : (x : X) (xs : List X) → Contains (x ∷ xs) x
  at_head x xs = Contains-append_left (x ∷ []) xs x (Contains-push [] x)

  pub at_tail : (x y : X) (xs : List X) → Contains xs y → Contains (x ∷ xs) y
  at_tail x y xs c = Contains-append_right (x ∷ []) xs y c

  only_head : (x y : X) → Contains [] y ⊎ (x ≡ y) → x ≡ y
  only_head x y (inl c) = absurd (nothing_in_nil y c)
  only_head x y (inr e) = e

  head_or_tail : (x y : X) (xs : List X) → Contains (x ∷ []) y ⊎ Contains xs y → (x ≡ y) ⊎ Contains xs y
  head_or_tail x y xs (inl c) = inl (only_head x y (Contains-push_cases [] x y c))
  head_or_tail x y xs (inr c) = inr c

  pub either_part : (x y : X) (xs : List X) → Contains (x ∷ xs) y → (x ≡ y) ⊎ Contains xs y
  either_part x y xs c = head_or_tail x y xs (Contains-append_cases (x ∷ []) xs y c)

-- an element that one of the list makes
abbrev pub MadeBy : {X Y : Type 0} → (X → Y → Type 0) → List X → Y → Type 0
MadeBy {X} {Y} makes xs y = (x : X) × Contains xs x × makes x y

later : {X Y : Type 0} (makes : X → Y → Type 0) (x : X) (xs : List X) (y : Y) → MadeBy makes xs y → MadeBy makes (x ∷ xs) y
later makes x xs y m = (m.0, at_tail x m.0 xs m.1, m.2)

-- filter_map
filter_map-at : {X Y : Type 0} (f : X → Option Y) (x : X) (xs : List X) (y : Y) (o : Option Y) → f x ≡ o → (Contains (filter_map f xs) y → MadeBy (λ x y. f x ≡ Some y) xs y)
    → Contains (cons_option o (filter_map f xs)) y → MadeBy (λ x y. f x ≡ Some y) (x ∷ xs) y
filter_map-at f x xs y None e h c = later (λ x y. f x ≡ Some y) x xs y (h c)
filter_map-at f x xs y (Some z) e h c = by_part (either_part z y (filter_map f xs) c)
  where
    by_part : (z ≡ y) ⊎ Contains (filter_map f xs) y → MadeBy (λ x y. f x ≡ Some y) (x ∷ xs) y
    by_part (inl same) = (x, at_head x xs, e ∙ ap Some same)
    by_part (inr c) = later (λ x y. f x ≡ Some y) x xs y (h c)

pub from_filter_map : {X Y : Type 0} (f : X → Option Y) (xs : List X) (y : Y) → Contains (filter_map f xs) y → MadeBy (λ x y. f x ≡ Some y) xs y
from_filter_map f [] y c = absurd (nothing_in_nil y c)
from_filter_map f (x ∷ xs) y c = filter_map-at f x xs y (f x) refl (from_filter_map f xs y) c

into_cons_option : {Y : Type 0} (o : Option Y) (y : Y) (ys : List Y) → Contains ys y → Contains (cons_option o ys) y
into_cons_option None y ys c = c
into_cons_option (Some z) y ys c = at_tail z y ys c

pub into_filter_map : {X Y : Type 0} (f : X → Option Y) (xs : List X) (x : X) (y : Y) → Contains xs x → f x ≡ Some y → Contains (filter_map f xs) y
into_filter_map f [] x y c e = absurd (nothing_in_nil x c)
into_filter_map f (z ∷ xs) x y c e = by_part (either_part z x xs c) (into_filter_map f xs x y)
  where
    by_part : (z ≡ x) ⊎ Contains xs x → (Contains xs x → f x ≡ Some y → Contains (filter_map f xs) y) → Contains (cons_option (f z) (filter_map f xs)) y
    by_part (inl same) h = rw (ap f same ∙ e) (at_head y (filter_map f xs))
    by_part (inr c) h = into_cons_option (f z) y (filter_map f xs) (h c e)

-- map
pub from_map : {X Y : Type 0} (f : X → Y) (xs : List X) (y : Y) → Contains (map f xs) y → MadeBy (λ x y. f x ≡ y) xs y
from_map f [] y c = absurd (nothing_in_nil y c)
from_map f (x ∷ xs) y c = by_part (either_part (f x) y (map f xs) c) (from_map f xs y)
  where
    by_part : (f x ≡ y) ⊎ Contains (map f xs) y → (Contains (map f xs) y → MadeBy (λ x y. f x ≡ y) xs y) → MadeBy (λ x y. f x ≡ y) (x ∷ xs) y
    by_part (inl e) h = (x, at_head x xs, e)
    by_part (inr c) h = later (λ x y. f x ≡ y) x xs y (h c)

pub into_map : {X Y : Type 0} (f : X → Y) (xs : List X) (x : X) → Contains xs x → Contains (map f xs) (f x)
into_map f [] x c = absurd (nothing_in_nil x c)
into_map f (z ∷ xs) x c = by_part (either_part z x xs c) (into_map f xs x)
  where
    by_part : (z ≡ x) ⊎ Contains xs x → (Contains xs x → Contains (map f xs) (f x)) → Contains (f z ∷ map f xs) (f x)
    by_part (inl e) h = rw e (at_head (f x) (map f xs))
    by_part (inr c) h = at_tail (f z) (f x) (map f xs) (h c)

-- filter
filter-at : {X : Type 0} (p : X → Bool) (x y : X) (xs : List X) (b : Bool) → p x ≡ b → (Contains (filter p xs) y → Contains xs y × (p y ≡ true)) → Contains (cond b (x ∷ filter p xs) (filter p xs)) y → Contains (x ∷ xs) y × (p y ≡ true)
filter-at p x y xs false e h c = let r = h c in (at_tail x y xs r.0, r.1)
filter-at p x y xs true e h c = by_part (either_part x y (filter p xs) c)
  where
    by_part : (x ≡ y) ⊎ Contains (filter p xs) y → Contains (x ∷ xs) y × (p y ≡ true)
    by_part (inl same) = (subst (λ z. Contains (x ∷ xs) z) same (at_head x xs), ap p (sym same) ∙ e)
    by_part (inr c) = let r = h c in (at_tail x y xs r.0, r.1)

pub from_filter : {X : Type 0} (p : X → Bool) (xs : List X) (y : X) → Contains (filter p xs) y → Contains xs y × (p y ≡ true)
from_filter p [] y c = absurd (nothing_in_nil y c)
from_filter p (x ∷ xs) y c = filter-at p x y xs (p x) refl (from_filter p xs y) c

into_cond : {X : Type 0} (b : Bool) (x y : X) (xs : List X) → Contains xs y → Contains (cond b (x ∷ xs) xs) y
into_cond true x y xs c = at_tail x y xs c
into_cond false x y xs c = c

pub into_filter : {X : Type 0} (p : X → Bool) (xs : List X) (y : X) → Contains xs y → p y ≡ true → Contains (filter p xs) y
into_filter p [] y c e = absurd (nothing_in_nil y c)
into_filter p (x ∷ xs) y c e = by_part (either_part x y xs c) (into_filter p xs y)
  where
    by_part : (x ≡ y) ⊎ Contains xs y → (Contains xs y → p y ≡ true → Contains (filter p xs) y) → Contains (cond (p x) (x ∷ filter p xs) (filter p xs)) y
    by_part (inl same) h = rw (ap p same ∙ e) (subst (λ z. Contains (x ∷ filter p xs) z) same (at_head x (filter p xs)))
    by_part (inr c) h = into_cond (p x) x y (filter p xs) (h c e)

-- flat_map
pub from_flat_map : {X Y : Type 0} (f : X → List Y) (xs : List X) (y : Y) → Contains (flat_map f xs) y → MadeBy (λ x y. Contains (f x) y) xs y
from_flat_map f [] y c = absurd (nothing_in_nil y c)
from_flat_map f (x ∷ xs) y c = by_part (Contains-append_cases (f x) (flat_map f xs) y c) (from_flat_map f xs y)
  where
    by_part : Contains (f x) y ⊎ Contains (flat_map f xs) y → (Contains (flat_map f xs) y → MadeBy (λ x y. Contains (f x) y) xs y) → MadeBy (λ x y. Contains (f x) y) (x ∷ xs) y
    by_part (inl c) h = (x, at_head x xs, c)
    by_part (inr c) h = later (λ x y. Contains (f x) y) x xs y (h c)

pub into_flat_map : {X Y : Type 0} (f : X → List Y) (xs : List X) (x : X) (y : Y) → Contains xs x → Contains (f x) y → Contains (flat_map f xs) y
into_flat_map f [] x y c d = absurd (nothing_in_nil x c)
into_flat_map f (z ∷ xs) x y c d = by_part (either_part z x xs c) (into_flat_map f xs x y)
  where
    by_part : (z ≡ x) ⊎ Contains xs x → (Contains xs x → Contains (f x) y → Contains (flat_map f xs) y) → Contains (f z ++ flat_map f xs) y
    by_part (inl same) h = Contains-append_left (f z) (flat_map f xs) y (subst (λ u. Contains (f u) y) (sym same) d)
    by_part (inr c) h = Contains-append_right (f z) (flat_map f xs) y (h c d)
