-- Stretches: ranges of numbers. own: a GAP and a HEARTBEAT tell ranges, so sets keep ranges.
use Rattle.std.specs.Prelude.{ℕ, Bool, true, false, ◌≡◌, ◌≤◌, ◌<◌, ◌-◌, ◌^◌, ◌&&◌, ◌||◌, nat_le, nat_lt, List, [], ◌∷◌, All, refl}
use Rattle.std.specs.List.{list_any}
use Rattle.std.proofs.Math.Nat.{le_of_suc-le-suc, le_trans, lt_of_lt_of_le}
use Rattle.std.proofs.lemmas.Bool.{false≢true, leb-true, ltb-true}
use Rattle.std.proofs.lemmas.List.Elements.{All-head, All-tail}
use Rattle.rtps_coverage.specs.declared.stretch.Stretch.{Stretch}

-- whether a stretch has a number
abbrev pub stretch_has : ℕ → Stretch → Bool
stretch_has n stretch = nat_le stretch.lo n && nat_lt n stretch.hi

-- whether some stretch does
abbrev pub stretches_have : List Stretch → ℕ → Bool
stretches_have stretches n = list_any (stretch_has n) stretches

-- a range of positive numbers below 2^63 - 1
pub record IsBounded (stretch : Stretch) : Type 0 where
  pub positive : 1 ≤ stretch.lo
  pub bounded : stretch.hi < 2 ^ 63

-- ---- their numbers lie from 1 to 2^63 - 2

-- both sides of an and hold
both : (a b : Bool) → (a && b) ≡ true → (a ≡ true) × (b ≡ true)
both true b h = (refl, h)
both false b h = absurd (false≢true h)

-- a number of a bounded range
in_range : (n lo hi : ℕ) → 1 ≤ lo → hi < 2 ^ 63 → (nat_le lo n ≡ true) × (nat_lt n hi ≡ true) → (1 ≤ n) × (n < 2 ^ 63 - 1)
in_range n lo hi from to h =
    let within : hi ≤ 2 ^ 63 - 1 = le_of_suc-le-suc to in
    (le_trans from (leb-true lo n h.0), lt_of_lt_of_le (ltb-true n hi h.1) within)

-- a number that is in this range or among the rest is one that a set may have
pub in_first : (n lo hi : ℕ) (a b : Bool) → (nat_le lo n && nat_lt n hi) ≡ a → 1 ≤ lo → hi < 2 ^ 63 → (a || b) ≡ true → (b ≡ true → (1 ≤ n) × (n < 2 ^ 63 - 1)) → (1 ≤ n) × (n < 2 ^ 63 - 1)
in_first n lo hi true b e from to h k = in_range n lo hi from to (both (nat_le lo n) (nat_lt n hi) e)
in_first n lo hi false b e from to h k = k h

-- bounded ranges have numbers from 1 to 2^63 - 2
pub stretches_in_range : (n : ℕ) (stretches : List Stretch) → All IsBounded stretches → list_any (stretch_has n) stretches ≡ true → (1 ≤ n) × (n < 2 ^ 63 - 1)
stretches_in_range n [] bounded h = absurd (false≢true h)
stretches_in_range n (x ∷ xs) bounded h =
    let here : IsBounded x = All-head IsBounded x xs bounded in
    in_first n x.lo x.hi _ (list_any (stretch_has n) xs) refl here.positive here.bounded h (λ k. stretches_in_range n xs (All-tail IsBounded x xs bounded) k)
