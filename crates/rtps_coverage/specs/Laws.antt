-- A law of the definitions alone. own: a reader of them asks whether the ranges that a set keeps are its numbers, once each.
use Rattle.std.specs.Prelude.{ℕ, ◌<◌, ◌≡◌, List, [], ◌∷◌, length, All}
use Rattle.rtps_coverage.specs.Stretches as stretches
use Rattle.rtps_coverage.specs.MergedRanges as merged_ranges
use Rattle.rtps_coverage.specs.declared.merged_ranges.MergedRanges.{MergedRanges}
use Rattle.rtps_coverage.specs.declared.stretch.Stretch.{Stretch}

-- none of the ranges is empty, and each later one begins past the end of it
abbrev pub AreApart : List Stretch → Type 0
AreApart [] = Unit {0}
AreApart (stretch ∷ later) = (stretch.lo < stretch.hi) × All (λ other. stretch.hi < other.lo) later × AreApart later

-- the ranges of a set: no two overlap or touch, the set has their numbers and no others, and they are counted
pub record HasRangesApart (set : MergedRanges) : Type 0 where
  pub apart : AreApart (merged_ranges.ranges_of set)
  pub numbers : (n : ℕ) → merged_ranges.covered_of set n ≡ stretches.stretches_have (merged_ranges.ranges_of set) n
  pub count : merged_ranges.count_of set ≡ length (merged_ranges.ranges_of set)

-- this holds of each set that can be made
abbrev pub RangesLieApart : Type 0
RangesLieApart = (set : MergedRanges) → HasRangesApart set
