use Rattle.std.proofs.Common.{◌≡◌, ◌++◌, ◌∷◌, [], ◌∙◌, List, ap, append_assoc, arith, map, subst, sym}
use Rattle.std.proofs.lemmas.List.{map-append}
use Rattle.rtps_receiver.specs.Values as values
use Rattle.rtps_audit.specs.Placed as placed_spec
use Rattle.rtps_fragments.specs.Hearing as hearing_spec
use Rattle.rtps_fragments.specs.SampleActs as sample_acts
use Rattle.rtps_fragments.proofs.OkLemmas.{on_ok}
use Rattle.rtps_fragments.proofs.ViewLemmas.{heard_behind-more, pieces_at}
use Rattle.rtps_fragments.proofs.hearing.Hearing.hear.Goals as goal

pub returns-clause-heard : goal.returns-clause-heard
returns-clause-heard c = on_ok c.hear_fragments.result _ _ c.hear_fragments.ensures.heard (λ heard acts is.
    let reader = c.args.self.now.reader in
    let one = placed_spec.placed_value c.args.placed.now in
    let told = placed_spec.placed_at one.datagram (sample_acts.samples_told reader (pieces_at acts) one.act (hearing_spec.piece_in one.act.body)) in
    let (kept, grown) = heard (pieces_at acts) is.makings in
    let with_one : map placed_spec.placed_value c.extend_from_slice.new.self.items ≡ hearing_spec.heard_of reader acts ++ one ∷ [] =
    ap (map placed_spec.placed_value) c.in_ok-extend_from_slice.ensures.items ∙ map-append placed_spec.placed_value c.args.self.now.acts.items _ ∙ ap (λ xs. map placed_spec.placed_value c.args.self.now.acts.items ++ map placed_spec.placed_value xs) c.from_ref.ensures.value
    ∙ ap (λ xs. xs ++ one ∷ []) is.acts in
    record {
      own = c.hear_fragments.ensures.reader;
      makings = subst (λ ps. hearing_spec.HaveCome reader ps c.hear_fragments.new.self.makings) (sym (map-append (λ (at : placed_spec.PlacedValue). hearing_spec.with_piece at.act) acts (one ∷ []))) kept;
      acts = grown ∙ ap (λ xs. xs ++ told) with_one ∙ append_assoc (hearing_spec.heard_of reader acts) (one ∷ []) told ∙ sym (heard_behind-more reader [] acts one);
    })
