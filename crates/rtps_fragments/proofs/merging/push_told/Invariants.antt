use Rattle.std.proofs.Common.{◌≡◌, ◌++◌, map, take}
use Rattle.rtps_receiver.specs.Values as values
use Rattle.rtps_fragments.specs.Merging as merging
use Rattle.rtps_fragments.specs.ToldSamples as told_samples
use Rattle.rtps_fragments.proofs.merging.push_told.Given as goal

-- the samples so far
abbrev pub invariant-loop-one : goal.invariant-loop-one
invariant-loop-one l =
    map values.spoken_value l.acts.items ≡ map values.spoken_value l.fn.acts.items ++ merging.acts_told (values.spoken_value l.act) (values.spoken_value l.act).body (map told_samples.told_value (take l.one-index l.told))
