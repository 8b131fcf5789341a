use Rattle.std.proofs.Common.{◌-◌, length}
use Rattle.std.specs.List.Sorted.{IsStrictlySortedBy}
use Rattle.rtps_discovery.specs.Listings.{pair_cmp}
use Rattle.rtps_passes.proofs.BeginLemmas.{AreBegun}
use Rattle.rtps_passes.proofs.judging.writers_of.Given as goal

-- the accounts of the pairs so far
abbrev pub invariant-writers : goal.invariant-writers
invariant-writers l = IsStrictlySortedBy pair_cmp l.pairs → AreBegun l.from l.pairs l.start l.writers.items

abbrev pub decreases-writers : goal.decreases-writers
decreases-writers l = length l.pairs - l.start
