use Rattle.std.proofs.Common.{pos, ◌<ℤ◌, sym, arith}
use Rattle.std.proofs.lemmas.Int.{ints}
use Rattle.rtps_coverage.specs.MergedRanges as merged_ranges
use Rattle.rtps_coverage.proofs.CoverageLemmas.{has-below_one}
use Rattle.rtps_coverage.proofs.merged_ranges.MergedRangesCoverage.covers.Goals as goal

pub returns-then-n-lt1 : goal.returns-then-n-lt1
returns-then-n-lt1 c =
    let set = c.args.self.now in
    let lt : c.args.n <ℤ pos 1 = omega (arith, ints) in
    sym (has-below_one (merged_ranges.covered_of set) (λ n h. (merged_ranges.covered_in_range set n h).0) c.args.n lt)
