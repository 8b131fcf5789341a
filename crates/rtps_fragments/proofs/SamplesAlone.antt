-- What is told of a sample depends on its own parts alone.
use Rattle.std.proofs.Common.{◌≡◌, ℕ, Bool, true, false, cond, ◌&&◌, List, [], ◌∷◌, ◌++◌, drop, filter, length, map, Option, Some, None, refl, sym, ◌∙◌, ap}
use Rattle.std.specs.List.{filter_map}
use Rattle.std.proofs.lemmas.List.Elements.{filter_map-append}
use Rattle.rtps_ids.specs.declared.identity.Guid.{Guid}
use Rattle.rtps_receiver.specs.Speech as speech
use Rattle.rtps_receiver.specs.Values as values
use Rattle.rtps_wire.specs.DataFrag as data_frag
use Rattle.rtps_wire.specs.declared.data_frag.Shape.{Shape}
use Rattle.rtps_fragments.specs.FragmentDelivery as fragment_delivery
use Rattle.rtps_fragments.specs.Laws as laws
use Rattle.rtps_fragments.specs.SampleActs as sample_acts
use Rattle.rtps_fragments.specs.Samples as samples
use Rattle.rtps_fragments.proofs.HeardLemmas.{heard-cons, heard_of, heard_one}
use Rattle.rtps_fragments.proofs.SampleActLemmas.{hears_part}
use Rattle.rtps_fragments.proofs.ToldLemmas.{none_came}

-- where the same came of its sample, a piece tells the same
told_alike : (one other : List fragment_delivery.Fragment) (piece : fragment_delivery.Piece) → filter_map (samples.came_of piece.number piece.shape) one ≡ filter_map (samples.came_of piece.number piece.shape) other → samples.told_by one piece ≡ samples.told_by other piece
told_alike one other piece same =
    let came = samples.came_of piece.number piece.shape in
    let made = λ (cs : List (ℕ × List ℕ)). map (fragment_delivery.payload_by piece.shape) (samples.samples_of (data_frag.last_fragment piece.shape) cs) in
    let more = fragment_delivery.fragments_of piece in
    ap (λ cs. drop (length (made cs)) (samples.payloads_of piece.number piece.shape (one ++ more))) same
    ∙ ap (λ cs. drop (length (samples.payloads_of piece.number piece.shape other)) (made cs)) (filter_map-append came one more ∙ ap (λ cs. cs ++ filter_map came more) same ∙ sym (filter_map-append came other more))

module _ (writer reader : Guid) (n : ℕ) (shape : Shape) where
  -- the act has a piece of the sample
  abbrev has_part : sample_acts.PieceAct → Bool
  has_part part = speech.is_spoken_by part.act writer && sample_acts.is_piece_of n shape part.piece

  -- nothing comes of the sample by another act
  nothing_else : (part : sample_acts.PieceAct) → has_part part ≡ false → filter_map (samples.came_of n shape) (heard_one (hears_part writer reader part) part.piece) ≡ []
  nothing_else part apart = by (speech.is_spoken_by part.act writer) (speech.is_heard_by part.act reader) part.piece apart
    where
      by : (spoken heard : Bool) (o : Option fragment_delivery.Piece) → (spoken && sample_acts.is_piece_of n shape o) ≡ false → filter_map (samples.came_of n shape) (heard_one (spoken && heard) o) ≡ []
      by false heard o e = refl
      by true false o e = refl
      by true true None e = refl
      by true true (Some piece) e = none_came n shape piece.number piece.shape piece.first piece.parts e

  own_parts : (acts : List sample_acts.PieceAct) → filter_map (samples.came_of n shape) (sample_acts.heard_from writer reader acts) ≡ filter_map (samples.came_of n shape) (sample_acts.heard_from writer reader (sample_acts.acts_of_sample writer n shape acts))
  own_parts [] = refl
  own_parts (part ∷ acts) = split part acts ∙ by (has_part part) refl (own_parts acts)
    where
      came : fragment_delivery.Fragment → Option (ℕ × List ℕ)
      came = samples.came_of n shape

      split : (p : sample_acts.PieceAct) (ps : List sample_acts.PieceAct) → filter_map came (heard_of (hears_part writer reader) (p ∷ ps)) ≡ filter_map came (heard_one (hears_part writer reader p) p.piece) ++ filter_map came (heard_of (hears_part writer reader) ps)
      split p ps = ap (filter_map came) (heard-cons (hears_part writer reader) p ps) ∙ filter_map-append came (heard_one (hears_part writer reader p) p.piece) (heard_of (hears_part writer reader) ps)

      by : (b : Bool) → has_part part ≡ b
          → filter_map came (heard_of (hears_part writer reader) acts) ≡ filter_map came (heard_of (hears_part writer reader) (sample_acts.acts_of_sample writer n shape acts))
          → filter_map came (heard_one (hears_part writer reader part) part.piece) ++ filter_map came (heard_of (hears_part writer reader) acts) ≡ filter_map came (heard_of (hears_part writer reader) (cond b (part ∷ sample_acts.acts_of_sample writer n shape acts) (sample_acts.acts_of_sample writer n shape acts)))
      by true e rest = ap (λ cs. filter_map came (heard_one (hears_part writer reader part) part.piece) ++ cs) rest ∙ sym (split part (sample_acts.acts_of_sample writer n shape acts))
      by false e rest = ap (λ cs. cs ++ filter_map came (heard_of (hears_part writer reader) acts)) (nothing_else part e) ∙ rest

pub samples_stand_alone : laws.SamplesStandAlone
samples_stand_alone reader before act piece =
    ap (λ ps. cond (speech.is_heard_by act reader) (map (sample_acts.sample_act reader act piece.number) ps) [])
    (told_alike (sample_acts.heard_from (speech.origin_of act) reader before) (sample_acts.heard_from (speech.origin_of act) reader (sample_acts.acts_of_sample (speech.origin_of act) piece.number piece.shape before)) piece (own_parts (speech.origin_of act) reader piece.number piece.shape before))

pub unheard_acts_tell_nothing : laws.UnheardActsTellNothing
unheard_acts_tell_nothing reader before act None unheard = refl
unheard_acts_tell_nothing reader before act (Some piece) unheard = ap (λ b. cond b (map (sample_acts.sample_act reader act piece.number) (samples.told_by (sample_acts.heard_from (speech.origin_of act) reader before) piece)) []) unheard
