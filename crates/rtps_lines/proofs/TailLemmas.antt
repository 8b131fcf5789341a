-- Where a tail stands among others.
use Rattle.std.proofs.lemmas.Grind.{common_steps}
use Rattle.std.proofs.lemmas.Bool.Decides.{nat_tests}
use Rattle.std.proofs.Common.{◌≡◌, ◌∙◌, ◌++◌, ◌∷◌, ◌+◌, ◌<◌, ℕ, zero, suc, Bool, true, false, cond, List, [], ap, ap₂, arith, drop, fold, get_or, length, map, refl, sym, take, subst}
use Rattle.std.specs.Prelude.{not}
use Rattle.std.specs.List.{insert, position_or_len}
use Rattle.std.proofs.lemmas.List.{drop-map, map-append, take-map}

more_fail : {X Y : Type 0} (v : X → Y) (test : Y → Bool) (xs : List X) (i : ℕ) (x : X) → i < length xs → x ≡ get_or xs i x → test (v x) ≡ false → position_or_len test (map v (take i xs)) ≡ i
    → position_or_len test (map v (take (suc i) xs)) ≡ suc i
more_fail v test [] i x lt at fails so_far = absurd (omega arith)
more_fail {X = X} v test (y ∷ ys) zero x lt at fails so_far = by ys (test (v y)) (ap (λ z. test (v z)) (sym at) ∙ fails)
  where
    none : (zs : List X) → position_or_len test (map v (take zero zs)) ≡ 0
    none [] = refl
    none (z ∷ zs) = refl

    by : (zs : List X) → (b : Bool) → b ≡ false → cond (not b) (1 + position_or_len test (map v (take zero zs))) 0 ≡ suc zero
    by zs true e = absurd cc
    by zs false e = let nothing = none zs in omega (arith, nothing)
more_fail v test (y ∷ ys) (suc i) x lt at fails so_far = by (more_fail v test ys i x (omega arith) at fails) (test (v y)) so_far
  where
    by : (position_or_len test (map v (take i ys)) ≡ i → position_or_len test (map v (take (suc i) ys)) ≡ suc i)
        → (b : Bool) → cond (not b) (1 + position_or_len test (map v (take i ys))) 0 ≡ suc i → cond (not b) (1 + position_or_len test (map v (take (suc i) ys))) 0 ≡ suc (suc i)
    by rest true e = absurd (let clash : 0 ≡ suc i = e in omega (arith, clash))
    by rest false e = let more = rest (let same : 1 + position_or_len test (map v (take i ys)) ≡ suc i = e in omega (arith, same)) in omega (arith, more)

-- one more that does not pass
pub not_yet : {X Y : Type 0} (v : X → Y) (test : Y → Bool) (xs : List X) (i : ℕ) (x : X) → i < length xs → x ≡ get_or xs i x → test (v x) ≡ false → position_or_len test (map v (take i xs)) ≡ i
    → position_or_len test (map v (take (i + 1) xs)) ≡ i + 1
not_yet v test xs i x lt at fails so_far =
    let next : suc i ≡ i + 1 = omega arith in
    subst (λ n. position_or_len test (map v (take n xs)) ≡ n) next (more_fail v test xs i x lt at fails so_far)

-- the first that passes
pub place_is : {X Y : Type 0} (v : X → Y) (test : Y → Bool) (xs : List X) (i : ℕ) (d : X) → i < length xs → test (v (get_or xs i d)) ≡ true → position_or_len test (map v (take i xs)) ≡ i
    → i ≡ position_or_len test (map v xs)
place_is v test [] i d lt is so_far = absurd (omega arith)
place_is v test (y ∷ ys) zero d lt is so_far = by (test (v y)) is
  where
    by : (b : Bool) → b ≡ true → 0 ≡ cond (not b) (1 + position_or_len test (map v ys)) 0
    by true e = refl
    by false e = absurd cc
place_is v test (y ∷ ys) (suc i) d lt is so_far = by (place_is v test ys i d (omega arith) is) (test (v y)) so_far
  where
    by : (position_or_len test (map v (take i ys)) ≡ i → i ≡ position_or_len test (map v ys))
        → (b : Bool) → cond (not b) (1 + position_or_len test (map v (take i ys))) 0 ≡ suc i → suc i ≡ cond (not b) (1 + position_or_len test (map v ys)) 0
    by rest true e = absurd (let clash : 0 ≡ suc i = e in omega (arith, clash))
    by rest false e = let more = rest (let same : 1 + position_or_len test (map v (take i ys)) ≡ suc i = e in omega (arith, same)) in omega (arith, more)

-- a fold with one more
pub fold_more : {X Y Z A : Type 0} (f : A → Z → A) (a : A) (w : Y → Z) (v : X → Y) (xs : List X) (i : ℕ) (d : X) → i < length xs → fold f a (map w (map v (take (i + 1) xs))) ≡ f (fold f a (map w (map v (take i xs)))) (w (v (get_or xs i d)))
fold_more f a w v xs i d lt = grind (arith, nat_tests, common_steps)

-- what stands among more
pub map-insert : {X Y : Type 0} (v : X → Y) (xs : List X) (i : ℕ) (x : X) → map v (insert xs i x) ≡ insert (map v xs) i (v x)
map-insert v xs i x = map-append v (take i xs) (x ∷ drop i xs) ∙ ap₂ (λ front back. front ++ v x ∷ back) (sym (take-map v i xs)) (sym (drop-map v i xs))
