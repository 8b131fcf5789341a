-- The set that a front and the ranges beyond it stand for.
-- own: what a reader is told comes in order, mostly, so that one number says all of it.
use Rattle.std.specs.Prelude.{ℕ, Bool, true, ◌≡◌, ◌≤◌, ◌<◌, ◌-◌, ◌^◌, ◌&&◌, ◌||◌, nat_le, nat_lt, refl}
use Rattle.std.proofs.lemmas.Bool.{leb-true}
use Rattle.rtps_coverage.specs.MergedRanges as merged_ranges
use Rattle.rtps_coverage.specs.Stretches as stretches
use Rattle.rtps_audit.specs.declared.front_ranges.FrontRanges.{FrontRanges}

-- the positive numbers below the front, and those of the ranges
abbrev pub front_has : FrontRanges → ℕ → Bool
front_has set n = (nat_le 1 n && nat_lt n set.front) || merged_ranges.covered_of set.beyond n

-- the set has numbers from 1 to 2^63 - 2
pub front_has_in_range : (set : FrontRanges) (n : ℕ) → front_has set n ≡ true → (1 ≤ n) × (n < 2 ^ 63 - 1)
front_has_in_range set n h = stretches.in_first n 1 set.front _ (merged_ranges.covered_of set.beyond n) refl (leb-true 1 1 refl) set.front_in_range.1 h (merged_ranges.covered_in_range set.beyond n)
