use Rattle.std.proofs.Common.{ℕ, ◌≡◌, ◌≤◌, ◌<◌, ◌⊎◌, Some, length}
use Rattle.std.specs.BTreeMap.{get}
use Rattle.std.specs.Ordering.{nat_cmp}
use Rattle.rtps_evidence.specs.GoneRanges as gone_ranges
use Rattle.rtps_evidence.proofs.gone_ranges.take_out.Given as goal

-- so far those are taken out that end up to hi and past where what is taken out begins
abbrev pub invariant-overlapping : goal.invariant-overlapping
invariant-overlapping l = record {
  onward : l.begin ≤ l.lo;
  kept : (end first : ℕ) → get nat_cmp l.ranges end ≡ Some first → get nat_cmp l.fn.ranges end ≡ Some first;
  numbers : (n : ℕ) → gone_ranges.IsIn l.fn.ranges n → gone_ranges.IsIn l.ranges n ⊎ ((l.begin ≤ n) × (n < l.hi));
  covered : (n : ℕ) → l.begin ≤ n → n < l.lo → gone_ranges.IsIn l.fn.ranges n;
}

abbrev pub decreases-overlapping : goal.decreases-overlapping
decreases-overlapping l = length l.ranges.entries
