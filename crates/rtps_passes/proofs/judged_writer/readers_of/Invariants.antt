use Rattle.std.proofs.Common.{◌≡◌, map, take}
use Rattle.rtps_passes.proofs.judged_writer.readers_of.Given as goal

-- the readers of the pairs so far
abbrev pub invariant-loop-pair : goal.invariant-loop-pair
invariant-loop-pair l = l.readers.items ≡ map (λ pair. pair.reader) (take l.pair-index l.pairs)
