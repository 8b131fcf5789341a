-- Acts with others behind each, datagram by datagram.
use Rattle.std.proofs.Common.{◌≡◌, ℕ, zero, suc, List, [], ◌∷◌, ◌++◌, length, map, take, Option, None, refl, sym, ◌∙◌, ap, append_assoc, append-nil}
use Rattle.std.specs.Prelude.{Contains}
use Rattle.rtps_receiver.specs.Values as values
use Rattle.rtps_audit.proofs.Offered.{contains_head, contains_tail}
use Rattle.rtps_fragments.specs.FragmentDelivery as fragment_delivery
use Rattle.rtps_fragments.specs.Laws as laws
use Rattle.rtps_fragments.specs.SampleActs as sample_acts

module _ (others : List sample_acts.PieceAct → values.ActValue → Option fragment_delivery.Piece → List values.ActValue) where
  -- with one datagram more
  pub next_acts : (before : List sample_acts.PieceAct) (recording : List (List sample_acts.PieceAct)) (acts : List sample_acts.PieceAct)
      → sample_acts.datagrams_and others before (recording ++ acts ∷ []) ≡ sample_acts.datagrams_and others before recording ++ sample_acts.acts_and others (before ++ sample_acts.piece_acts_in recording) acts ∷ []
  next_acts before [] acts = ap (λ bs. sample_acts.acts_and others bs acts ∷ []) (sym (append-nil before))
  next_acts before (first ∷ recording) acts =
      ap (λ ds. sample_acts.acts_and others before first ∷ ds) (next_acts (before ++ first) recording acts)
      ∙ ap (λ bs. sample_acts.datagrams_and others before (first ∷ recording) ++ sample_acts.acts_and others bs acts ∷ []) (append_assoc before first (sample_acts.piece_acts_in recording))

  pub length-acts : (before : List sample_acts.PieceAct) (recording : List (List sample_acts.PieceAct)) → length (sample_acts.datagrams_and others before recording) ≡ length recording
  length-acts before [] = refl
  length-acts before (acts ∷ recording) = ap suc (length-acts (before ++ acts) recording)

  pub take_acts : (before : List sample_acts.PieceAct) (n : ℕ) (recording : List (List sample_acts.PieceAct)) → sample_acts.datagrams_and others before (take n recording) ≡ take n (sample_acts.datagrams_and others before recording)
  take_acts before zero recording = refl
  take_acts before (suc n) [] = refl
  take_acts before (suc n) (first ∷ recording) = ap (λ rest. sample_acts.acts_and others before first ∷ rest) (take_acts (before ++ first) n recording)

  -- where no act has a piece, the acts are as they are
  module _ (nothing : (before : List sample_acts.PieceAct) (act : values.ActValue) → others before act None ≡ []) where
    acts_stay : (before acts : List sample_acts.PieceAct) → ((one : sample_acts.PieceAct) → Contains acts one → one.piece ≡ None) → sample_acts.acts_and others before acts ≡ map (λ one. one.act) acts
    acts_stay before [] none = refl
    acts_stay before (one ∷ acts) none =
        ap (λ xs. one.act ∷ (xs ++ sample_acts.acts_and others (before ++ one ∷ []) acts)) (ap (others before one.act) (none one (contains_head one acts)) ∙ nothing before one.act)
        ∙ ap (λ xs. one.act ∷ xs) (acts_stay (before ++ one ∷ []) acts (λ other among. none other (contains_tail one acts other among)))

    pub all_stay : (before : List sample_acts.PieceAct) (recording : List (List sample_acts.PieceAct)) → laws.HasNoPieces recording → sample_acts.datagrams_and others before recording ≡ map (map (λ one. one.act)) recording
    all_stay before [] none = refl
    all_stay before (acts ∷ recording) none =
        ap (λ xs. xs ∷ sample_acts.datagrams_and others (before ++ acts) recording) (acts_stay before acts (λ one among. none acts one (contains_head acts recording) among))
        ∙ ap (λ xs. map (λ (one : sample_acts.PieceAct). one.act) acts ∷ xs) (all_stay (before ++ acts) recording (λ datagram one there among. none datagram one (contains_tail acts recording datagram there) among))
