-- The set that ranges stand for of which no two overlap or touch.
-- own: so many ranges are kept as there are gaps between numbers, in whatever order the numbers came.
use Rattle.std.specs.Prelude.{ℕ, Bool, true, ◌≡◌, ◌≤◌, ◌<◌, ◌+◌, ◌-◌, ◌^◌, ℤ, pos, ◌≤ℤ◌, List, [], ◌∷◌, All, length}
use Rattle.std.proofs.lemmas.List.Elements.{All-nil, All-cons}
use Rattle.rtps_coverage.specs.Stretches as stretches
use Rattle.rtps_coverage.specs.Ranges as ranges
use Rattle.rtps_coverage.specs.Leaves as leaves
use Rattle.rtps_coverage.specs.declared.stretch.Stretch.{Stretch}
use Rattle.rtps_coverage.specs.declared.merged_ranges.MergedRanges.{MergedRanges}

-- the ranges, in the order of their numbers
abbrev pub ranges_of : MergedRanges → List Stretch
ranges_of set = leaves.ranges_in set.leaves.items

-- the numbers of the ranges
abbrev pub covered_of : MergedRanges → ℕ → Bool
covered_of set n = stretches.stretches_have (ranges_of set) n

-- how many ranges are kept
abbrev pub count_of : MergedRanges → ℕ
count_of set = length (ranges_of set)

-- the numbers from lo on and below hi overlap or touch those of a set: it has one from lo - 1 to hi
pub record Touches (set : ℕ → Bool) (lo hi : ℤ) : Type 0 where
  pub number : ℕ
  pub has : set number ≡ true
  pub from : lo ≤ℤ pos (number + 1)
  pub to : pos number ≤ℤ hi

-- ranges that lie apart are bounded
are_bounded : (all : List Stretch) → ranges.AreApart all → All stretches.IsBounded all
are_bounded [] h = All-nil stretches.IsBounded
are_bounded (x ∷ xs) h = All-cons stretches.IsBounded x xs (record { positive = h.0.positive; bounded = h.0.bounded }) (are_bounded xs h.2)

-- the set has numbers from 1 to 2^63 - 2
pub covered_in_range : (set : MergedRanges) (n : ℕ) → covered_of set n ≡ true → (1 ≤ n) × (n < 2 ^ 63 - 1)
covered_in_range set n h = stretches.stretches_in_range n (ranges_of set) (are_bounded (ranges_of set) set.kept.apart) h
