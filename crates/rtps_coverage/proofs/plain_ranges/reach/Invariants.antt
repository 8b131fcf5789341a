use Rattle.std.proofs.Common.{ℕ, ◌≡◌, ◌≤◌, ◌<◌, ◌^◌, ◌-◌, true}
use Rattle.std.specs.List.{list_any}
use Rattle.rtps_coverage.specs.Stretches as stretches
use Rattle.rtps_coverage.proofs.plain_ranges.reach.Given as goal

-- each number that was passed lies in some range
abbrev pub invariant-loop-stretch : goal.invariant-loop-stretch
invariant-loop-stretch l = record {
  onward : l.front ≤ l.reached;
  in_range : l.reached < 2 ^ 63;
  between : (n : ℕ) → l.front ≤ n → n < l.reached → list_any (stretches.stretch_has n) l.stretches ≡ true;
}

abbrev pub decreases-loop-stretch : goal.decreases-loop-stretch
decreases-loop-stretch l = 2 ^ 63 - l.reached
