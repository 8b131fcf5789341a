use Rattle.std.proofs.Common.{ℕ, ◌≡◌, ◌≤◌, ◌<◌, ◌-◌}
use Rattle.rtps_ids.specs.NumberSet as number_set
use Rattle.rtps_ids.specs.Ranges as ranges
use Rattle.rtps_ids.proofs.bits.first_bit.Given as goal

-- no bit that was passed is wanted
abbrev pub invariant-loop-bit : goal.invariant-loop-bit
invariant-loop-bit l = record {
  onward : l.from ≤ l.bit;
  within : l.bit ≤ 256;
  passed : (i : ℕ) → l.from ≤ i → i < l.bit → number_set.bit_of l.words i ≡ 1 - ranges.wanted_bit l.wanted;
}

abbrev pub decreases-loop-bit : goal.decreases-loop-bit
decreases-loop-bit l = 256 - l.bit
