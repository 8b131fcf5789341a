use Rattle.std.proofs.Common.{◌≡◌, ◌∙◌, ◌++◌, ◌∷◌, [], List, ap, map, subst, sym, take, take_all, IfOk}
use Rattle.std.proofs.lemmas.List.{map-append}
use Rattle.rtps_audit.specs.Placed as placed_spec
use Rattle.rtps_audit.specs.declared.placed.Placed.{Placed}
use Rattle.rtps_fragments.specs.Hearing as hearing
use Rattle.rtps_fragments.specs.SampleCounts as sample_counts
use Rattle.rtps_fragments.proofs.SampleCountLemmas.{overheard_counts, values_more}
use Rattle.rtps_fragments.proofs.sample_counts.overheard_counted.Goals as goal

pub loop-placed-preserved : goal.loop-placed-preserved
loop-placed-preserved c =
    let acts = c.args.acts.now in
    let i = c.loop-placed.placed-index in
    let x = c.placed-item.result in
    let items = c.in_ok-extend_from_slice.ensures.items ∙ ap (λ (l : List Placed). c.loop-placed.all.items ++ l) c.from_ref.ensures.value in
    ap (λ (l : List Placed). map placed_spec.placed_value l) items ∙ map-append placed_spec.placed_value c.loop-placed.all.items (c.for_everyone-one.result ∷ [])
    ∙ ap (λ l. l ++ placed_spec.placed_value c.for_everyone-one.result ∷ []) c.loop-placed.invariant
    ∙ ap (λ y. map hearing.for_everyone (map placed_spec.placed_value (take i acts)) ++ y ∷ []) c.for_everyone-one.ensures
    ∙ sym (map-append hearing.for_everyone (map placed_spec.placed_value (take i acts)) (placed_spec.placed_value x ∷ []))
    ∙ ap (map hearing.for_everyone) (sym (values_more acts i x c.loop-placed-test.true c.placed-item.is))

pub returns : goal.returns
returns c =
    let acts = map placed_spec.placed_value c.args.acts.now in
    let all = c.loop-placed.invariant ∙ ap (λ (l : List Placed). map hearing.for_everyone (map placed_spec.placed_value l)) (take_all c.loop-placed.placed-index c.args.acts.now c.loop-placed-test.false) in
    let is = ap (λ (l : List Placed). sample_counts.counts_behind (sample_counts.samples_at hearing.nobody) [] (map placed_spec.placed_value l)) c.deref.ensures.value
    ∙ ap (sample_counts.counts_behind (sample_counts.samples_at hearing.nobody) []) all
    ∙ overheard_counts acts in
    subst (λ l. IfOk c.samples_counted.result (λ counts. map sample_counts.number_of counts.items ≡ l)) is c.samples_counted.ensures
