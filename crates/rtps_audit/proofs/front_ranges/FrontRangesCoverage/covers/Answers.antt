use Rattle.std.proofs.Common.{◌≡◌, false, ℤ, pos, negsuc, ◌<ℤ◌, refl, sym, arith}
use Rattle.std.proofs.lemmas.Bool.{false_from_ne_true}
use Rattle.std.proofs.lemmas.Int.{ints}
use Rattle.rtps_coverage.specs.Coverage as coverage
use Rattle.rtps_audit.specs.FrontRanges as front_ranges
use Rattle.rtps_audit.specs.declared.front_ranges.FrontRanges.{FrontRanges}
use Rattle.rtps_audit.proofs.front_ranges.FrontRangesCoverage.covers.Goals as goal

none_below : (set : FrontRanges) (n : ℤ) → n <ℤ pos 1 → coverage.has (front_ranges.front_has set) n ≡ false
none_below set (pos n) lt = false_from_ne_true (front_ranges.front_has set n) (λ e. let h = front_ranges.front_has_in_range set n e in omega (arith, ints))
none_below set (negsuc n) lt = refl

pub returns-then-n-lt1 : goal.returns-then-n-lt1
returns-then-n-lt1 c = sym (none_below c.args.self.now c.args.n (omega (arith, ints)))
