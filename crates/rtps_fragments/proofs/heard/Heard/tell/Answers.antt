use Rattle.std.proofs.Common.{◌≡◌, ◌<◌, ℕ, List, [], ◌∷◌, ◌++◌, ◌∙◌, ap, arith, length, map, subst, sym}
use Rattle.std.specs.Prelude.{Some, slice_get}
use Rattle.std.proofs.lemmas.List.{map-append}
use Rattle.rtps_fragments.specs.Heard as heard
use Rattle.rtps_wire.specs.declared.data_frag.Shape.{Shape}
use Rattle.rtps_wire.specs.DataFrag as data_frag
use Rattle.rtps_fragments.specs.Samples as samples_spec
use Rattle.rtps_fragments.specs.ToldSamples as told_samples
use Rattle.rtps_fragments.specs.declared.told_sample.ToldSample.{ToldSample}
use Rattle.rtps_fragments.proofs.ToldSoFar.{told_step}
use Rattle.rtps_fragments.proofs.heard.Heard.tell.Goals as goal

pub loop-place-preserved : goal.loop-place-preserved
loop-place-preserved c = λ came is.
    let sent = c.args.sent.now in
    let last = c.last_fragment-last.result in
    let more = (told_samples.sent_value sent).came in
    let one : ToldSample = record { act = sent.act; is_key = sent.key.is_key; octets = c.in_ok-octets.octets } in
    let same = c.last_fragment-last.ensures ∙ ap data_frag.last_fragment c.shape-shape.ensures in
    let Kept : Shape → Type 0 = λ s. (came : List (ℕ × List ℕ)) → heard.IsHeard (data_frag.last_fragment s) came c.args.self.now
    → heard.IsHeard (data_frag.last_fragment s) (came ++ heard.came_from sent.fragments.first (data_frag.parts_in s.fragment sent.fragments.count sent.fragments.octets.now)) c.take_all.new.self in
    let kept : Kept (told_samples.shape_of sent.key) = subst Kept c.shape-shape.ensures c.in_ok-take_all.ensures in
    let taken : heard.IsHeard last (came ++ more) c.take_all.new.self = subst (λ n. heard.IsHeard n (came ++ more) c.take_all.new.self) (sym same) (kept came (subst (λ n. heard.IsHeard n came c.args.self.now) same is)) in
    let samples = samples_spec.samples_of last (came ++ more) in
    let within : c.loop-place.place < length samples = omega (arith, c.count-after.ensures.samples (came ++ more) taken, c.loop-place-test.true) in
    let pushed = ap (map told_samples.told_value) c.in_ok-push.ensures.items ∙ map-append told_samples.told_value c.loop-place.told.items (one ∷ []) in
    let here : heard.IsHeard (data_frag.last_fragment c.shape-shape.result) (came ++ more) c.take_all.new.self = subst (λ n. heard.IsHeard n (came ++ more) c.take_all.new.self) c.last_fragment-last.ensures taken in
    let within_here : c.loop-place.place < length (samples_spec.samples_of (data_frag.last_fragment c.shape-shape.result) (came ++ more)) = subst (λ n. c.loop-place.place < length (samples_spec.samples_of n (came ++ more))) c.last_fragment-last.ensures within in
    let told : slice_get samples c.loop-place.place ≡ Some c.in_ok-octets.octets.now = ap (λ n. slice_get (samples_spec.samples_of n (came ++ more)) c.loop-place.place) c.last_fragment-last.ensures ∙ c.in_ok-octets.ensures (came ++ more) here within_here in
    told_step sent.act (told_samples.shape_of sent.key) (map told_samples.told_value c.loop-place.told.items) (map told_samples.told_value c.push.new.self.items) samples c.loop-place.place c.in_ok-octets.octets.now pushed told
    ∙ c.loop-place.invariant came is
