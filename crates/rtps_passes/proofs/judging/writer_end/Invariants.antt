use Rattle.std.proofs.Common.{◌≡◌}
use Rattle.std.specs.List.{AllWithin}
use Rattle.rtps_discovery.specs.declared.matching.Pair.{Pair}
use Rattle.rtps_passes.proofs.judging.writer_end.Given as goal

-- the pairs so far are of it
abbrev pub invariant-loop-place : goal.invariant-loop-place
invariant-loop-place l = AllWithin (λ (pair : Pair). pair.writer ≡ l.writer) l.pairs l.start l.place
