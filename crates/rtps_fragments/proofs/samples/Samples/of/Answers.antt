use Rattle.std.proofs.Common.{[], ◌∷◌, ◌++◌, ◌∙◌, ap, map, subst, sym, take}
use Rattle.std.proofs.lemmas.List.{map-append}
use Rattle.rtps_fragments.specs.Making as making
use Rattle.rtps_fragments.specs.Merging as merging
use Rattle.rtps_fragments.specs.RecordedSamples as recorded_samples
use Rattle.rtps_fragments.specs.FragmentWalk as fragment_walk
use Rattle.rtps_fragments.specs.ToldSamples as told_samples
use Rattle.rtps_fragments.proofs.SampleSteps.{octets_of, sending_next, sents_next, next_datagram}
use Rattle.rtps_fragments.proofs.samples.Samples.of.Goals as goal

pub loop-datagram-preserved : goal.loop-datagram-preserved
loop-datagram-preserved c =
    let recording = c.args.recording.now in
    let i = c.loop-datagram.datagram-index in
    let old = c.loop-datagram.invariant in
    let so_far = fragment_walk.sending_of (octets_of (take i recording)) in
    let next = sending_next recording i _ c.loop-datagram-test.true in
    let sents = ap (map told_samples.sent_value) c.deref.ensures.value ∙ c.in_ok-read.ensures.acts.sents in
    let (kept, overheard) = c.in_ok-take_all.ensures (merging.sents_in so_far) old.kept in
    record {
      kept = subst (λ ss. making.IsOverhearing ss c.take_all.new.self) (ap (λ ss. merging.sents_in so_far ++ ss) sents ∙ sym (ap merging.sents_in next ∙ sents_next so_far _)) kept;
      overheard =
          ap (map (λ told. map told_samples.told_value told.items)) c.in_ok-push.ensures.items ∙ map-append (λ told. map told_samples.told_value told.items) c.loop-datagram.overheard.items _
          ∙ ap (λ ts. ts ++ map told_samples.told_value c.in_ok-take_all.field-0.items ∷ []) old.overheard
          ∙ ap (λ ts. recorded_samples.overheard_from [] so_far ++ ts ∷ []) (overheard ∙ ap (told_samples.overheard_in_turn (merging.sents_in so_far)) sents) ∙ sym (ap (recorded_samples.overheard_from []) next ∙ next_datagram [] so_far _);
    }
