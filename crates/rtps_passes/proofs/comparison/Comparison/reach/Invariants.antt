use Rattle.std.proofs.Common.{ℕ, ◌≡◌, ◌+◌, ◌-◌, length}
use Rattle.rtps_passes.specs.Comparison as comparison
use Rattle.rtps_passes.proofs.comparison.Comparison.reach.Given as goal

-- what is kept stays the same
abbrev pub invariant-places : goal.invariant-places
invariant-places l = record {
  judging : l.self.judging ≡ l.fn.self.judging;
  same : (other : ℕ) → comparison.kept_at l.self.kept.items other ≡ comparison.kept_at l.fn.self.kept.items other;
}

abbrev pub decreases-places : goal.decreases-places
decreases-places l = l.place + 1 - length l.self.kept.items
