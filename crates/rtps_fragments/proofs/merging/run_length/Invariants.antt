use Rattle.std.proofs.Common.{◌≡◌, ◌++◌, drop, map, take}
use Rattle.rtps_fragments.specs.Merging as merging
use Rattle.rtps_fragments.specs.ToldSamples as told_samples
use Rattle.rtps_fragments.proofs.merging.run_length.Given as goal

-- the act tells those so far
abbrev pub invariant-loop-place : goal.invariant-loop-place
invariant-loop-place l =
    (merging.run_of l.act (map told_samples.told_value l.told) ≡ map told_samples.told_value (take l.place l.told) ++ merging.run_of l.act (map told_samples.told_value (drop l.place l.told)))
    × (merging.run_past l.act (map told_samples.told_value l.told) ≡ merging.run_past l.act (map told_samples.told_value (drop l.place l.told)))
