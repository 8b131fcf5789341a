use Rattle.std.proofs.Common.{◌≡◌, ◌≤◌, ℕ, take}
use Rattle.rtps_coverage.specs.Stretches as stretches
use Rattle.rtps_evidence.proofs.lacking.asked_among.Given as goal

-- those of the stretches so far
abbrev pub invariant-loop-stretch : goal.invariant-loop-stretch
invariant-loop-stretch l = (n : ℕ) → l.fn.asked.from ≤ n → n ≤ l.fn.asked.last → stretches.stretches_have l.among.items n ≡ stretches.stretches_have (take l.stretch-index l.numbers) n
