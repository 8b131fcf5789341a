use Rattle.std.proofs.Common.{◌≡◌, [], map, take}
use Rattle.rtps_fragments.specs.Making as making
use Rattle.rtps_fragments.specs.Merging as merging
use Rattle.rtps_fragments.specs.RecordedSamples as recorded_samples
use Rattle.rtps_fragments.specs.FragmentWalk as fragment_walk
use Rattle.rtps_fragments.specs.ToldSamples as told_samples
use Rattle.rtps_fragments.proofs.samples.Samples.of.Given as goal

-- what the datagrams so far send is kept, and what they tell
pub record IsSoFar (l : goal.Live-loop-datagram) : Type 0 where
  pub kept : making.IsOverhearing (merging.sents_in (fragment_walk.sending_of (map (λ datagram. datagram.now) (take l.datagram-index l.recording)))) l.overhearing
  pub overheard : map (λ told. map told_samples.told_value told.items) l.overheard.items ≡ recorded_samples.overheard_from [] (fragment_walk.sending_of (map (λ datagram. datagram.now) (take l.datagram-index l.recording)))

abbrev pub invariant-loop-datagram : goal.invariant-loop-datagram
invariant-loop-datagram l = IsSoFar l
