-- What the datagrams of a recording send and tell, with one datagram more.
use Rattle.std.proofs.lemmas.Bool.Decides.{nat_tests}
use Rattle.std.proofs.Common.{◌≡◌, ℕ, zero, suc, ◌+◌, ◌<◌, List, [], ◌∷◌, ◌++◌, length, map, take, get_or, Some, slice_get, Bor, refl, sym, ◌∙◌, ap, append_assoc, append-nil, arith}
use Rattle.std.proofs.lemmas.Grind.{flat_map-append, common_steps}
use Rattle.rtps_fragments.specs.Merging as merging
use Rattle.rtps_fragments.specs.RecordedSamples as recorded_samples
use Rattle.rtps_fragments.specs.SampleActs as sample_acts
use Rattle.rtps_fragments.specs.FragmentWalk as fragment_walk
use Rattle.rtps_fragments.specs.ToldSamples as told_samples

-- the octets of datagrams
abbrev pub octets_of : List (Bor (List ℕ)) → List (List ℕ)
octets_of xs = map (λ datagram. datagram.now) xs

-- the acts of each datagram so far, with one more
pub sending_next : (xs : List (Bor (List ℕ))) (i : ℕ) (d : Bor (List ℕ)) → i < length xs → fragment_walk.sending_of (octets_of (take (i + 1) xs)) ≡ fragment_walk.sending_of (octets_of (take i xs)) ++ fragment_walk.piece_acts_of (get_or xs i d).now ∷ []
sending_next xs i d lt = grind (arith, nat_tests, common_steps)

pub sents_next : (recording : List (List sample_acts.PieceAct)) (acts : List sample_acts.PieceAct) → merging.sents_in (recording ++ acts ∷ []) ≡ merging.sents_in recording ++ merging.sents_from 0 acts
sents_next recording acts = flat_map-append (merging.sents_from 0) recording (acts ∷ []) ∙ ap (λ ss. merging.sents_in recording ++ ss) (append-nil (merging.sents_from 0 acts))

-- what the datagrams tell, with one more
pub next_datagram : (before : List told_samples.SentValue) (recording : List (List sample_acts.PieceAct)) (acts : List sample_acts.PieceAct)
    → recorded_samples.overheard_from before (recording ++ acts ∷ []) ≡ recorded_samples.overheard_from before recording ++ told_samples.overheard_in_turn (before ++ merging.sents_in recording) (merging.sents_from 0 acts) ∷ []
next_datagram before [] acts = ap (λ ss. told_samples.overheard_in_turn ss (merging.sents_from 0 acts) ∷ []) (sym (append-nil before))
next_datagram before (first ∷ recording) acts =
    ap (λ ts. told_samples.overheard_in_turn before (merging.sents_from 0 first) ∷ ts) (next_datagram (before ++ merging.sents_from 0 first) recording acts)
    ∙ ap (λ ss. recorded_samples.overheard_from before (first ∷ recording) ++ told_samples.overheard_in_turn ss (merging.sents_from 0 acts) ∷ []) (append_assoc before (merging.sents_from 0 first) (merging.sents_in recording))

-- what one of them tells
pub told_there : (before : List told_samples.SentValue) (recording : List (List sample_acts.PieceAct)) (i : ℕ) (acts : List sample_acts.PieceAct) → slice_get recording i ≡ Some acts
    → slice_get (recorded_samples.overheard_from before recording) i ≡ Some (told_samples.overheard_in_turn (before ++ merging.sents_in (take i recording)) (merging.sents_from 0 acts))
told_there before [] i acts e = cc
told_there before (first ∷ recording) zero acts e =
    let is : first ≡ acts = (let h = e in cc) in
    ap Some (ap (λ ss. told_samples.overheard_in_turn ss (merging.sents_from 0 first)) (sym (append-nil before)) ∙ ap (λ a. told_samples.overheard_in_turn (before ++ []) (merging.sents_from 0 a)) is)
told_there before (first ∷ recording) (suc i) acts e =
    told_there (before ++ merging.sents_from 0 first) recording i acts e ∙ ap (λ ss. Some (told_samples.overheard_in_turn ss (merging.sents_from 0 acts))) (append_assoc before (merging.sents_from 0 first) (merging.sents_in (take i recording)))

pub length-told : (before : List told_samples.SentValue) (recording : List (List sample_acts.PieceAct)) → length (recorded_samples.overheard_from before recording) ≡ length recording
length-told before [] = refl
length-told before (acts ∷ recording) = ap suc (length-told (before ++ merging.sents_from 0 acts) recording)
