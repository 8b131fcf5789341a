use Rattle.std.proofs.Common.{◌≡◌, ◌<◌, ◌^◌, ◌||◌, ℕ}
use Rattle.rtps_coverage.specs.Stretches as stretches
use Rattle.rtps_evidence.proofs.RequestLemmas.{some_in_vain}
use Rattle.rtps_evidence.proofs.missed_numbers.in_vain.Given as goal

-- the numbers so far, and those that are left
abbrev pub invariant-loop-number : goal.invariant-loop-number
invariant-loop-number l = (n : ℕ) → n < 2 ^ 63 → (stretches.stretches_have l.missed.items n || some_in_vain l.number-iterator n) ≡ some_in_vain l.requests.entries n
