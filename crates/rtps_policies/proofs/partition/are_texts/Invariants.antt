use Rattle.std.proofs.Common.{◌≡◌, ◌+◌, ◌-◌, length}
use Rattle.rtps_policies.specs.Sequences as sequences
use Rattle.rtps_policies.proofs.partition.are_texts.Given as goal

-- so many texts were read, and the others are still to come
abbrev pub invariant-loop : goal.invariant-loop
invariant-loop l = length (sequences.texts_in l.count l.order l.octets) ≡ l.counter + length (sequences.texts_in (l.count - l.counter) l.order l.rest)
