-- The ranges of a set lie apart.
use Rattle.std.proofs.Common.{List, [], ◌∷◌, refl}
use Rattle.rtps_coverage.specs.Ranges as ranges
use Rattle.rtps_coverage.specs.Laws as laws
use Rattle.rtps_coverage.specs.MergedRanges as merged_ranges
use Rattle.rtps_coverage.specs.declared.merged_ranges.MergedRanges.{MergedRanges}
use Rattle.rtps_coverage.specs.declared.stretch.Stretch.{Stretch}

-- ranges that are kept lie apart
are_apart : (all : List Stretch) → ranges.AreApart all → laws.AreApart all
are_apart [] h = tt
are_apart (x ∷ xs) h = (h.0.some, h.1, are_apart xs h.2)

-- the law
pub ranges_lie_apart : (set : MergedRanges) → laws.HasRangesApart set
ranges_lie_apart set = record {
  apart = are_apart (merged_ranges.ranges_of set) set.kept.apart;
  numbers = λ n. refl;
  count = refl;
}
