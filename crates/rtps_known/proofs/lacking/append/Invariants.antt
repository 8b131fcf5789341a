use Rattle.std.proofs.Common.{◌≡◌, ℕ, ◌||◌, take}
use Rattle.rtps_coverage.specs.Stretches as stretches
use Rattle.rtps_known.proofs.lacking.append.Given as goal

-- those that were there, or came so far
abbrev pub invariant-loop-stretch : goal.invariant-loop-stretch
invariant-loop-stretch l = (n : ℕ) → stretches.stretches_have l.stretches.items n ≡ (stretches.stretches_have l.initial.stretches.items n || stretches.stretches_have (take l.stretch-index l.more) n)
