use Rattle.std.proofs.Common.{◌≡◌, ◌≤◌, ◌&&◌, ◌||◌, ◌-◌, ◌^◌, ℕ, nat_le}
use Rattle.rtps_receiver.specs.Said as said
use Rattle.rtps_receiver.proofs.Offered.{below}
use Rattle.rtps_coverage.specs.Stretches as stretches
use Rattle.rtps_evidence.proofs.amount.push_numbers.Given as goal

-- the numbers from `from` on and below that place are there
abbrev pub invariant-apart : goal.invariant-apart
invariant-apart l = record {
  onward : l.fn.from ≤ l.at;
  numbers : (n : ℕ) → stretches.stretches_have l.stretches.items n ≡ (stretches.stretches_have l.fn.stretches.items n || (nat_le l.fn.from n && below (said.numbers_have l.numbers) l.at n));
}

abbrev pub decreases-apart : goal.decreases-apart
decreases-apart l = 2 ^ 64 - l.at
