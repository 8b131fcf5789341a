-- What is kept of rows.
use Rattle.std.proofs.Common.{◌≡◌, ◌∷◌, [], Bool, true, false, cond, List, ap, filter, map, refl}

map_cond : {X Y : Type 0} (f : X → Y) (kept : Bool) (x : X) (xs : List X) (ys : List Y) → map f xs ≡ ys → map f (cond kept (x ∷ xs) xs) ≡ cond kept (f x ∷ ys) ys
map_cond f true x xs ys same = ap (λ rest. f x ∷ rest) same
map_cond f false x xs ys same = same

pub map_filter : {X Y : Type 0} (f : X → Y) (p : Y → Bool) (xs : List X) → map f (filter (λ x. p (f x)) xs) ≡ filter p (map f xs)
map_filter f p [] = refl
map_filter f p (x ∷ xs) = map_cond f (p (f x)) x (filter (λ y. p (f y)) xs) (filter p (map f xs)) (map_filter f p xs)
