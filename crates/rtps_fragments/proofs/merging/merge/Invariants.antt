use Rattle.std.proofs.Common.{◌≡◌, ◌≤◌, ◌++◌, drop, length, map}
use Rattle.rtps_receiver.specs.Values as values
use Rattle.rtps_fragments.specs.Merging as merging
use Rattle.rtps_fragments.specs.ToldSamples as told_samples
use Rattle.rtps_fragments.proofs.merging.merge.Given as goal

-- what is merged so far and what is left are all
abbrev pub invariant-loop-place : goal.invariant-loop-place
invariant-loop-place l =
    (l.done ≤ length l.told)
    × (map values.spoken_value l.merged.items ++ merging.merged_from l.place (drop l.place (map values.spoken_value l.acts)) (map told_samples.told_value (drop l.done l.told)) ≡ merging.merged_from 0 (map values.spoken_value l.acts) (map told_samples.told_value l.told))
