use Rattle.std.proofs.Common.{◌≡◌, ◌∙◌, ◌+◌, ◌++◌, ◌∷◌, [], ap, ap₂, map, subst, sym, take, take_all}
use Rattle.std.proofs.lemmas.List.{map-append}
use Rattle.rtps_audit.specs.Placed as placed_spec
use Rattle.rtps_fragments.specs.Hearing as hearing_spec
use Rattle.rtps_fragments.specs.SampleCounts as sample_counts
use Rattle.rtps_fragments.proofs.SampleCountLemmas.{counts_more, values_more}
use Rattle.rtps_fragments.proofs.sample_counts.samples_counted.Goals as goal

pub loop-placed-preserved : goal.loop-placed-preserved
loop-placed-preserved c =
    let acts = c.args.acts.now in
    let reader = c.args.reader in
    let i = c.loop-placed.placed-index in
    let x = c.placed-item.result in
    let front = map placed_spec.placed_value (take i acts) in
    let one = placed_spec.placed_value x in
    let more = values_more acts i x c.loop-placed-test.true c.placed-item.is in
    let same = c.loop-placed.invariant.reader in
    let came = subst (λ r. hearing_spec.HaveCome r (sample_counts.with_pieces front) c.loop-placed.hearing.makings) (sym same) c.loop-placed.invariant.came in
    let count = c.in_ok-count.ensures.count front came ∙ ap (λ r. sample_counts.samples_at r front one) same in
    record {
      reader = c.in_ok-count.ensures.reader ∙ same;
      came = subst (λ r. hearing_spec.HaveCome r (sample_counts.with_pieces (map placed_spec.placed_value (take (i + 1) acts))) c.count_told.new.hearing.makings) same
          (subst (λ l. hearing_spec.HaveCome c.loop-placed.hearing.reader (sample_counts.with_pieces l) c.count_told.new.hearing.makings) (sym more) (c.in_ok-count.ensures.heard front came));
      counts = ap (map sample_counts.number_of) c.in_ok-push.ensures.items ∙ map-append sample_counts.number_of c.loop-placed.counts.items (c.in_ok-count.count ∷ [])
          ∙ ap₂ (λ l n. l ++ n ∷ []) c.loop-placed.invariant.counts count ∙ sym (counts_more (sample_counts.samples_at reader) [] front one) ∙ ap (sample_counts.counts_behind (sample_counts.samples_at reader) []) (sym more);
    }

pub returns : goal.returns
returns c =
    c.loop-placed.invariant.counts ∙ ap (λ l. sample_counts.counts_behind (sample_counts.samples_at c.args.reader) [] (map placed_spec.placed_value l)) (take_all c.loop-placed.placed-index c.args.acts.now c.loop-placed-test.false)
