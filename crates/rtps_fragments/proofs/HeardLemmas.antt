-- The fragments that are heard among acts, whoever hears them.
use Rattle.std.proofs.lemmas.Grind.{common_steps}
use Rattle.std.proofs.lemmas.Bool.Decides.{nat_tests}
use Rattle.std.proofs.Common.{◌≡◌, ℕ, Bool, true, false, List, [], ◌∷◌, ◌++◌, map, filter, Option, Some, None, refl, ◌∙◌, ap, subst, inl, inr, ◌⊎◌, append-nil, arith}
use Rattle.std.specs.Prelude.{Contains}
use Rattle.std.specs.List.{flat_map}
use Rattle.std.proofs.lemmas.List.Concat.{flat_map-append}
use Rattle.std.proofs.lemmas.List.Elements.{All-contains, filter-append, filter_passes}
use Rattle.rtps_wire.specs.Values as values
use Rattle.rtps_audit.proofs.Offered.{kept_if_passed, kept_is_there}
use Rattle.rtps_wire.specs.declared.data_frag.Shape.{Shape}
use Rattle.rtps_wire.specs.DataFrag as data_frag
use Rattle.rtps_fragments.specs.FragmentDelivery as fragment_delivery
use Rattle.rtps_fragments.specs.Samples as samples
use Rattle.rtps_fragments.specs.SampleActs as sample_acts
use Rattle.rtps_fragments.proofs.Lists.{flat_from, flat_has}
use Rattle.rtps_fragments.proofs.ToldLemmas.{come_or_told}

-- the fragments of the acts that pass a test
abbrev pub heard_of : (sample_acts.PieceAct → Bool) → List sample_acts.PieceAct → List fragment_delivery.Fragment
heard_of hears parts = flat_map (λ part. sample_acts.fragments_in part.piece) (filter hears parts)

pub heard-append : (hears : sample_acts.PieceAct → Bool) (xs ys : List sample_acts.PieceAct) → heard_of hears (xs ++ ys) ≡ heard_of hears xs ++ heard_of hears ys
heard-append hears xs ys = grind (arith, nat_tests, common_steps, filter-append, flat_map-append)

-- those of one act
abbrev pub heard_one : Bool → Option fragment_delivery.Piece → List fragment_delivery.Fragment
heard_one true piece = sample_acts.fragments_in piece
heard_one false piece = []

pub heard-cons : (hears : sample_acts.PieceAct → Bool) (part : sample_acts.PieceAct) (parts : List sample_acts.PieceAct) → heard_of hears (part ∷ parts) ≡ heard_one (hears part) part.piece ++ heard_of hears parts
heard-cons hears part parts = grind (arith, nat_tests)

-- with one act more
pub heard-more : (hears : sample_acts.PieceAct → Bool) (parts : List sample_acts.PieceAct) (part : sample_acts.PieceAct) → heard_of hears (parts ++ part ∷ []) ≡ heard_of hears parts ++ heard_one (hears part) part.piece
heard-more hears parts part = heard-append hears parts (part ∷ []) ∙ ap (λ fs. heard_of hears parts ++ fs) (heard-cons hears part [] ∙ append-nil (heard_one (hears part) part.piece))

-- what is heard is of an act that passes
pub heard_from : (hears : sample_acts.PieceAct → Bool) (parts : List sample_acts.PieceAct) (f : fragment_delivery.Fragment) → Contains (heard_of hears parts) f → (part : sample_acts.PieceAct) × Contains parts part × (hears part ≡ true) × Contains (sample_acts.fragments_in part.piece) f
heard_from hears parts f among =
    let (part, kept, has) = flat_from (λ (p : sample_acts.PieceAct). sample_acts.fragments_in p.piece) (filter hears parts) f among in
    (part, kept_is_there hears parts part kept, passes hears parts part kept, has)
  where
    passes : (hears : sample_acts.PieceAct → Bool) (parts : List sample_acts.PieceAct) (part : sample_acts.PieceAct) → Contains (filter hears parts) part → hears part ≡ true
    passes hears parts part kept = All-contains (λ p. hears p ≡ true) (filter hears parts) part (filter_passes hears parts) kept

pub heard_has : (hears : sample_acts.PieceAct → Bool) (parts : List sample_acts.PieceAct) (part : sample_acts.PieceAct) (f : fragment_delivery.Fragment) → Contains parts part → hears part ≡ true → Contains (sample_acts.fragments_in part.piece) f → Contains (heard_of hears parts) f
heard_has hears parts part f among passes has = flat_has (λ (p : sample_acts.PieceAct). sample_acts.fragments_in p.piece) (filter hears parts) part f (kept_if_passed hears parts part among passes) has

-- ---- tests that agree on the parts of a sample

abbrev made : Shape → List (ℕ × List ℕ) → List values.PayloadValue
made shape came = map (fragment_delivery.payload_by shape) (samples.samples_of (data_frag.last_fragment shape) came)

-- ---- one act more

-- by one act more, what can be put together could be before, or is told by its piece, which is heard
abbrev pub IsToldBy : (sample_acts.PieceAct → Bool) → List sample_acts.PieceAct → sample_acts.PieceAct → ℕ → values.PayloadValue → Type 0
IsToldBy hears before part n payload = (piece : fragment_delivery.Piece) × (part.piece ≡ Some piece) × (hears part ≡ true) × (piece.number ≡ n) × Contains (samples.told_by (heard_of hears before) piece) payload

pub one_more : (hears : sample_acts.PieceAct → Bool) (n : ℕ) (shape : Shape) (before : List sample_acts.PieceAct) (part : sample_acts.PieceAct) (payload : values.PayloadValue) → Contains (samples.payloads_of n shape (heard_of hears (before ++ part ∷ []))) payload
    → Contains (samples.payloads_of n shape (heard_of hears before)) payload ⊎ IsToldBy hears before part n payload
one_more hears n shape before part payload among = by (hears part) part.piece refl refl (subst (λ fs. Contains (samples.payloads_of n shape fs) payload) (heard-more hears before part) among)
  where
    nothing : Contains (samples.payloads_of n shape (heard_of hears before ++ [])) payload → Contains (samples.payloads_of n shape (heard_of hears before)) payload
    nothing there = subst (λ fs. Contains (samples.payloads_of n shape fs) payload) (append-nil (heard_of hears before)) there

    by : (b : Bool) (o : Option fragment_delivery.Piece) → hears part ≡ b → part.piece ≡ o → Contains (samples.payloads_of n shape (heard_of hears before ++ heard_one b o)) payload
        → Contains (samples.payloads_of n shape (heard_of hears before)) payload ⊎ IsToldBy hears before part n payload
    by false o e is there = inl (nothing there)
    by true None e is there = inl (nothing there)
    by true (Some piece) e is there = elim (come_or_told n shape (heard_of hears before) piece payload there) [
      | inl old ↦ inl old
      | inr (number, shapes, told) ↦ inr (piece, is, e, number, told)
    ]
