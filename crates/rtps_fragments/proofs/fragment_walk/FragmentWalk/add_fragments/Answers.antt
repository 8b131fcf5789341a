use Rattle.std.proofs.Common.{◌≡◌, [], ◌∷◌, ◌++◌, ◌∙◌, ap, arith, length, map, subst, sym}
use Rattle.std.specs.Prelude.{All}
use Rattle.std.proofs.lemmas.List.{map-append}
use Rattle.std.proofs.lemmas.List.Elements.{All-push}
use Rattle.rtps_receiver.specs.Values as receiver_values
use Rattle.rtps_fragments.specs.Merging as merging
use Rattle.rtps_fragments.specs.FragmentWalk as fragment_walk
use Rattle.rtps_fragments.specs.ToldSamples as told_samples
use Rattle.rtps_wire.specs.DataFrag as data_frag
use Rattle.rtps_wire.specs.Values as wire_values
use Rattle.std.specs.Prelude.{None, Some}
use Rattle.rtps_fragments.proofs.fragment_walk.FragmentWalk.add_fragments.Goals as goal

pub returns-clause-acts : goal.returns-clause-acts
returns-clause-acts c =
    let acts = c.args.self.now.acts.items in
    let sents = c.args.self.now.sents.items in
    let ones = fragment_walk.skipped_acts c.args.state.now (wire_values.item_value c.args.item.now) (Some (data_frag.data_frag_value c.args.fragments.now)) None in
    let place : c.len-place.result ≡ length acts = omega (arith, c.len-place.ensures) in
    record {
      acts = ap (map receiver_values.spoken_value) c.in_ok-extend_from_slice.ensures.items ∙ map-append receiver_values.spoken_value acts _ ∙ ap (λ xs. map receiver_values.spoken_value acts ++ map receiver_values.spoken_value xs) c.from_ref.ensures.value ∙ ap (λ a. map receiver_values.spoken_value acts ++ a ∷ []) c.act_of-act.ensures;
      sents =
          ap (map told_samples.sent_value) c.in_ok-extend_from_slice-2.ensures.items ∙ map-append told_samples.sent_value sents _ ∙ ap (λ xs. map told_samples.sent_value sents ++ map told_samples.sent_value xs) c.from_ref-2.ensures.value
          ∙ ap (λ s. map told_samples.sent_value sents ++ s ∷ []) c.sent_of-sent.ensures.value ∙ ap (λ n. map told_samples.sent_value sents ++ merging.sents_from n ones) place;
      well = λ old.
          subst (All told_samples.IsSent) (sym (c.in_ok-extend_from_slice-2.ensures.items ∙ ap (λ xs. sents ++ xs) c.from_ref-2.ensures.value)) (All-push told_samples.IsSent sents c.sent_of-sent.result old c.sent_of-sent.ensures.well);
      unusable = omega arith;
    }
