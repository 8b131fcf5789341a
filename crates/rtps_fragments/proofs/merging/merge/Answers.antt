use Rattle.std.proofs.Common.{◌≡◌, ◌+◌, ◌-◌, ◌≤◌, ◌++◌, ◌∷◌, [], ◌∙◌, List, ap, arith, drop, length, map, subst, sym, take}
use Rattle.std.specs.Prelude.{Some, slice_get}
use Rattle.std.proofs.Math.Seq.{take-length}
use Rattle.std.proofs.lemmas.List.{drop-drop, length-drop, map-append}
use Rattle.std.proofs.lemmas.Option.{slice_get-get_or}
use Rattle.rtps_receiver.specs.Values as values
use Rattle.rtps_audit.proofs.Offered.{get_mapped}
use Rattle.rtps_fragments.specs.Merging as merging
use Rattle.rtps_fragments.specs.ToldSamples as told_samples
use Rattle.rtps_fragments.specs.declared.told_sample.ToldSample.{ToldSample}
use Rattle.rtps_fragments.proofs.MergedSteps.{merge_step}
use Rattle.rtps_fragments.proofs.merging.merge.Goals as goal

pub loop-place-preserved : goal.loop-place-preserved
loop-place-preserved c =
    let acts = c.args.acts.now in
    let told = c.args.told.now in
    let done = c.loop-place.done in
    let count = c.run_length-count.result in
    let place = c.loop-place.place in
    let item = c.index-acts-place.result in
    let act = values.spoken_value item in
    let (within, so) = c.loop-place.invariant in
    let left = drop done told in
    let rest : take (length told - done) left ≡ left = ap (λ m. take m left) (sym (length-drop done told)) ∙ take-length left in
    let all : count ≤ length left = subst (λ (r : List ToldSample). count ≤ length r) rest c.run_length-count.ensures.within in
    let run : merging.run_of place (map told_samples.told_value left) ≡ map told_samples.told_value (take count left) = subst (λ (r : List ToldSample). merging.run_of place (map told_samples.told_value r) ≡ map told_samples.told_value (take count r)) rest c.run_length-count.ensures.run in
    let past : merging.run_past place (map told_samples.told_value left) ≡ map told_samples.told_value (drop count left) = subst (λ (r : List ToldSample). merging.run_past place (map told_samples.told_value r) ≡ map told_samples.told_value (drop count r)) rest c.run_length-count.ensures.past in
    let at : slice_get (map values.spoken_value acts) place ≡ Some act = get_mapped values.spoken_value acts place item (slice_get-get_or acts place item c.loop-place-test.true ∙ ap Some (sym c.index-acts-place.is)) in
    let one = ap (map values.spoken_value) c.in_ok-extend_from_slice.ensures.items ∙ map-append values.spoken_value c.loop-place.merged.items _ ∙ ap (λ xs. map values.spoken_value c.loop-place.merged.items ++ map values.spoken_value xs) c.from_ref.ensures.value in
    let pushed = c.in_ok-push_told.ensures ∙ ap (λ xs. xs ++ merging.acts_told act act.body (map told_samples.told_value (take count (take (length told - done) left)))) one
    ∙ ap (λ (r : List ToldSample). (map values.spoken_value c.loop-place.merged.items ++ act ∷ []) ++ merging.acts_told act act.body (map told_samples.told_value (take count r))) rest in (
      omega (arith, within, all, length-drop done told),
      ap (λ xs. xs ++ merging.merged_from (place + 1) (drop (place + 1) (map values.spoken_value acts)) (map told_samples.told_value (drop (done + count) told))) pushed
          ∙ merge_step (map values.spoken_value acts) place act (map told_samples.told_value left) (map told_samples.told_value (take count left)) (map told_samples.told_value (drop (done + count) told)) (map values.spoken_value c.loop-place.merged.items) _ at run
          (past ∙ ap (map told_samples.told_value) (drop-drop count done told)) so,
    )
