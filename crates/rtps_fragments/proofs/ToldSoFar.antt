-- The samples that are told, one after another.
use Rattle.std.proofs.lemmas.Grind.{common_steps}
use Rattle.std.proofs.lemmas.Bool.Decides.{nat_tests}
use Rattle.std.proofs.Common.{◌≡◌, ℕ, zero, suc, ◌+◌, ◌<◌, get_or, take, List, [], ◌∷◌, ◌++◌, length, map, drop, Some, slice_get, sym, ◌∙◌, ap, arith, append_assoc, append-nil, rules}
use Rattle.rtps_wire.specs.declared.data_frag.Shape.{Shape}
use Rattle.rtps_fragments.specs.FragmentDelivery as fragment_delivery
use Rattle.rtps_fragments.specs.ToldSamples as told_samples
use Rattle.rtps_fragments.specs.declared.piece.SentFragments.{SentFragments}

pub drop_at : {X : Type 0} (xs : List X) (i : ℕ) (x : X) → slice_get xs i ≡ Some x → drop i xs ≡ x ∷ drop (suc i) xs
drop_at [] i x e = cc
drop_at (y ∷ ys) zero x e = let h = e in cc
drop_at (y ∷ ys) (suc i) x e = drop_at ys i x e

module _ (act : ℕ) (shape : Shape) where
  -- with one more
  pub told_step : (told new : List told_samples.ToldValue) (samples : List (List ℕ)) (place : ℕ) (octets : List ℕ) → new ≡ told ++ record { act = act; payload = fragment_delivery.payload_by shape octets } ∷ [] → slice_get samples place ≡ Some octets
      → new ++ told_samples.told_as act shape (drop (place + 1) samples) ≡ told ++ told_samples.told_as act shape (drop place samples)
  told_step told new samples place octets is at = search (rules, append_assoc, drop_at)

-- what one act more tells
pub in_turn-more : (before sents : List told_samples.SentValue) (sent : told_samples.SentValue) → told_samples.overheard_in_turn before (sents ++ sent ∷ []) ≡ told_samples.overheard_in_turn before sents ++ told_samples.overheard_behind (before ++ sents) sent
in_turn-more before [] sent = append-nil (told_samples.overheard_behind before sent) ∙ ap (λ ss. told_samples.overheard_behind ss sent) (sym (append-nil before))
in_turn-more before (first ∷ sents) sent =
    ap (λ ts. told_samples.overheard_behind before first ++ ts) (in_turn-more (before ++ first ∷ []) sents sent)
    ∙ sym (append_assoc (told_samples.overheard_behind before first) (told_samples.overheard_in_turn (before ++ first ∷ []) sents) (told_samples.overheard_behind ((before ++ first ∷ []) ++ sents) sent))
    ∙ ap (λ ss. told_samples.overheard_in_turn before (first ∷ sents) ++ told_samples.overheard_behind ss sent) (append_assoc before (first ∷ []) sents)

-- the elements up to one more
pub sents-more : (sents : List SentFragments) (i : ℕ) (d : SentFragments) → i < length sents → map told_samples.sent_value (take (i + 1) sents) ≡ map told_samples.sent_value (take i sents) ++ told_samples.sent_value (get_or sents i d) ∷ []
sents-more sents i d lt = grind (arith, nat_tests, common_steps)
