-- The set that a front and the ranges beyond it stand for.
-- own: a form without a map, to which the other is compared.
use Rattle.std.specs.Prelude.{ℕ, Bool, true, ◌≡◌, ◌≤◌, ◌<◌, ◌-◌, ◌^◌, ◌&&◌, ◌||◌, nat_le, nat_lt, refl}
use Rattle.std.proofs.lemmas.Bool.{leb-true}
use Rattle.rtps_coverage.specs.Stretches as stretches
use Rattle.rtps_coverage.specs.declared.plain_ranges.PlainRanges.{PlainRanges}

-- the positive numbers below the front, and those of the ranges
abbrev pub covered_of : PlainRanges → ℕ → Bool
covered_of set n = (nat_le 1 n && nat_lt n set.front) || stretches.stretches_have set.beyond.items n

-- the set has numbers from 1 to 2^63 - 2
pub covered_in_range : (set : PlainRanges) (n : ℕ) → covered_of set n ≡ true → (1 ≤ n) × (n < 2 ^ 63 - 1)
covered_in_range set n h =
    stretches.in_first n 1 set.front _ (stretches.stretches_have set.beyond.items n) refl (leb-true 1 1 refl) set.front_in_range.1 h (λ k. stretches.stretches_in_range n set.beyond.items set.beyond_in_range k)
