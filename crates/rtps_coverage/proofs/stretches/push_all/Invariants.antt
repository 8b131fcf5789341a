use Rattle.std.proofs.Common.{◌≡◌, ℕ, take}
use Rattle.rtps_coverage.specs.Stretches as stretches
use Rattle.rtps_coverage.proofs.stretches.push_all.Given as goal

-- the numbers of the stretches so far
abbrev pub invariant-loop-stretch : goal.invariant-loop-stretch
invariant-loop-stretch l = (n : ℕ) → stretches.stretches_have l.few.items n ≡ stretches.stretches_have (take l.stretch-index l.stretches) n
