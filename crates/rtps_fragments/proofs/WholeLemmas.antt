-- Pieces of no sample, by what is sent and by acts.
use Rattle.std.proofs.lemmas.Grind.{common_steps}
use Rattle.std.proofs.Common.{◌≡◌, ℕ, suc, ◌+◌, Bool, true, false, not, ◌&&◌, List, [], ◌∷◌, ◌++◌, Option, Some, None, refl, sym, ◌∙◌, ap, subst, arith}
use Rattle.std.specs.Prelude.{◌==◌, ◌||◌}
use Rattle.std.specs.Cmp.{both_ways}
use Rattle.std.specs.List.{list_any}
use Rattle.std.proofs.lemmas.Bool.{and_from, and_parts}
use Rattle.std.proofs.lemmas.Bool.Decides.{Decides-eqb, nat_tests}
use Rattle.std.proofs.lemmas.List.Elements.{Contains-append_left, Contains-append_right}
use Rattle.std.proofs.lemmas.List.Folds.{list_any-append}
use Rattle.std.proofs.lemmas.List.Sums.{sum_by-cons}
use Rattle.rtps_ids.specs.declared.identity.Guid.{Guid}
use Rattle.rtps_receiver.specs.Speech as speech
use Rattle.rtps_audit.proofs.Offered.{contains_head, contains_tail}
use Rattle.rtps_fragments.specs.FragmentDelivery as fragment_delivery
use Rattle.rtps_fragments.specs.Merging as merging
use Rattle.rtps_fragments.specs.Samples as samples
use Rattle.rtps_fragments.specs.SampleActs as sample_acts
use Rattle.rtps_fragments.specs.SamplesSent as samples_sent
use Rattle.rtps_fragments.specs.ToldSamples as told_samples
use Rattle.rtps_fragments.specs.Whole as whole_spec
use Rattle.rtps_fragments.specs.declared.whole.SampleNumber.{SampleNumber}
use Rattle.rtps_fragments.proofs.MergingLemmas.{AreSent, AreFragmentActs, named, sent_by_act, spoken_by_own}
use Rattle.rtps_fragments.proofs.NumberLemmas.{own_number, same_number}
use Rattle.rtps_fragments.proofs.SampleActLemmas.{spoken_is_origin}
use Rattle.rtps_fragments.proofs.FragmentWalkLemmas.{one_of}

-- ---- pieces of no sample

module _ (all : List sample_acts.PieceAct) (sall : List told_samples.SentValue) (same : AreSent all sall) where
  put_alike : (one : sample_acts.PieceAct) (piece : fragment_delivery.Piece) → whole_spec.is_put sall (merging.key_of one.act piece) ≡ samples_sent.is_some_payload (samples.payloads_of piece.number piece.shape (samples_sent.sent_by (speech.origin_of one.act) all))
  put_alike one piece = grind (arith, nat_tests)

  -- the two tests of an act with a piece
  tests_alike : (one : sample_acts.PieceAct) (piece : fragment_delivery.Piece) → merging.IsFragmentAct one piece → (number : SampleNumber)
      → (whole_spec.is_number number (whole_spec.key_number (merging.key_of one.act piece)) && whole_spec.is_put sall (merging.key_of one.act piece)) ≡ (speech.is_spoken_by one.act number.writer && samples_sent.is_whole all number.writer number.number (Some piece))
  tests_alike one piece frag number = both_ways _ _ to from
    where
      own : SampleNumber
      own = record { writer = speech.origin_of one.act; number = piece.number }

      to : (whole_spec.is_number number (whole_spec.key_number (merging.key_of one.act piece)) && whole_spec.is_put sall (merging.key_of one.act piece)) ≡ true → (speech.is_spoken_by one.act number.writer && samples_sent.is_whole all number.writer number.number (Some piece)) ≡ true
      to e =
          let (is, put) = and_parts (whole_spec.is_number number (whole_spec.key_number (merging.key_of one.act piece))) (whole_spec.is_put sall (merging.key_of one.act piece)) e in
          let number_is : own ≡ number = sym (same_number number own is) in
          let whole = and_from (piece.number == piece.number) _ ((Decides-eqb piece.number piece.number).1 refl) (sym (put_alike one piece) ∙ put) in
          subst (λ (n : SampleNumber). (speech.is_spoken_by one.act n.writer && samples_sent.is_whole all n.writer n.number (Some piece)) ≡ true) number_is (and_from _ _ (spoken_by_own one piece frag) whole)

      from : (speech.is_spoken_by one.act number.writer && samples_sent.is_whole all number.writer number.number (Some piece)) ≡ true → (whole_spec.is_number number (whole_spec.key_number (merging.key_of one.act piece)) && whole_spec.is_put sall (merging.key_of one.act piece)) ≡ true
      from e =
          let (spoken, whole) = and_parts (speech.is_spoken_by one.act number.writer) _ e in
          let writer : speech.origin_of one.act ≡ number.writer = spoken_is_origin one.act number.writer (named one piece frag) spoken in
          let (numbered, some) = and_parts (piece.number == number.number) _ whole in
          let is : piece.number ≡ number.number = (Decides-eqb piece.number number.number).0 numbered in
          let first : Guid → SampleNumber = λ w. record { writer = w; number = piece.number } in
          let second : ℕ → SampleNumber = λ n. record { writer = number.writer; number = n } in
          let number_is : own ≡ number = ap first writer ∙ ap second is in
          let back : (whole_spec.is_number own own && whole_spec.is_put sall (merging.key_of one.act piece)) ≡ true =
          and_from _ _ (own_number own) (put_alike one piece ∙ subst (λ (n : SampleNumber). samples_sent.is_some_payload (samples.payloads_of n.number piece.shape (samples_sent.sent_by n.writer all)) ≡ true) (sym number_is) some) in
          subst (λ (n : SampleNumber). (whole_spec.is_number n own && whole_spec.is_put sall (merging.key_of one.act piece)) ≡ true) number_is back

  -- the test by what is sent, and the one by acts
  abbrev sent_test : SampleNumber → told_samples.SentValue → Bool
  sent_test number sent = whole_spec.is_number number (whole_spec.key_number sent.key) && whole_spec.is_put sall sent.key

  abbrev act_test : SampleNumber → sample_acts.PieceAct → Bool
  act_test number other = speech.is_spoken_by other.act number.writer && samples_sent.is_whole all number.writer number.number other.piece

  any_alike : (number : SampleNumber) (i : ℕ) (acts : List sample_acts.PieceAct) → AreFragmentActs acts → list_any (sent_test number) (merging.sents_from i acts) ≡ list_any (act_test number) acts
  any_alike number i [] frags = refl
  any_alike number i (one ∷ acts) frags =
      by one.piece refl (any_alike number (suc i) acts (λ other piece among e. frags other piece (contains_tail one acts other among) e))
    where
      never : (b : Bool) → (b && false) ≡ false
      never true = refl
      never false = refl

      by : (o : Option fragment_delivery.Piece) → one.piece ≡ o → list_any (sent_test number) (merging.sents_from (suc i) acts) ≡ list_any (act_test number) acts
          → list_any (sent_test number) (merging.sent_in i one.act o ++ merging.sents_from (suc i) acts) ≡ ((speech.is_spoken_by one.act number.writer && samples_sent.is_whole all number.writer number.number o) || list_any (act_test number) acts)
      by None e rest = rest ∙ ap (λ b. b || list_any (act_test number) acts) (sym (never (speech.is_spoken_by one.act number.writer)))
      by (Some piece) e rest =
          ap (λ b. b || list_any (sent_test number) (merging.sents_from (suc i) acts)) (tests_alike one piece (frags one piece (contains_head one acts) e) number)
          ∙ ap (λ b. (speech.is_spoken_by one.act number.writer && samples_sent.is_whole all number.writer number.number (Some piece)) || b) rest

  pub all_alike : (number : SampleNumber) (recording : List (List sample_acts.PieceAct)) → AreFragmentActs (sample_acts.piece_acts_in recording) → list_any (sent_test number) (merging.sents_in recording) ≡ list_any (act_test number) (sample_acts.piece_acts_in recording)
  all_alike number [] frags = refl
  all_alike number (acts ∷ recording) frags =
      list_any-append (sent_test number) (merging.sents_from 0 acts) (merging.sents_in recording)
      ∙ ap (λ b. b || list_any (sent_test number) (merging.sents_in recording)) (any_alike number 0 acts (λ one piece among e. frags one piece (Contains-append_left acts (sample_acts.piece_acts_in recording) one among) e))
      ∙ ap (λ b. list_any (act_test number) acts || b) (all_alike number recording (λ one piece among e. frags one piece (Contains-append_right acts (sample_acts.piece_acts_in recording) one among) e))
      ∙ sym (list_any-append (act_test number) acts (sample_acts.piece_acts_in recording))

  -- as many pieces are left, of which no sample is whole
  pub left_alike : ((number : SampleNumber) → list_any (sent_test number) sall ≡ list_any (act_test number) all) → (i : ℕ) (acts : List sample_acts.PieceAct) → whole_spec.left_among sall (merging.sents_from i acts) ≡ samples_sent.pieces_left all acts
  left_alike alike_all i [] = refl
  left_alike alike_all i (one ∷ acts) =
      by one.piece (left_alike alike_all (suc i) acts) ∙ sym (sum_by-cons (λ (other : sample_acts.PieceAct). one_of (samples_sent.is_left all other.act other.piece)) one acts)
    where
      by : (o : Option fragment_delivery.Piece) → whole_spec.left_among sall (merging.sents_from (suc i) acts) ≡ samples_sent.pieces_left all acts → whole_spec.left_among sall (merging.sent_in i one.act o ++ merging.sents_from (suc i) acts) ≡ one_of (samples_sent.is_left all one.act o) + samples_sent.pieces_left all acts
      by None rest = omega arith
      by (Some piece) rest =
          sum_by-cons (λ (sent : told_samples.SentValue). one_of (not (whole_spec.has_whole sall (whole_spec.key_number sent.key)))) (sent_by_act i one.act piece) (merging.sents_from (suc i) acts)
          ∙ ap (λ b. one_of (not b) + whole_spec.left_among sall (merging.sents_from (suc i) acts)) (alike_all (whole_spec.key_number (merging.key_of one.act piece)))
          ∙ ap (λ n. one_of (samples_sent.is_left all one.act (Some piece)) + n) rest

-- one act more
pub left-more : (all sents : List told_samples.SentValue) (sent : told_samples.SentValue) → whole_spec.left_among all (sents ++ sent ∷ []) ≡ whole_spec.left_among all sents + one_of (not (whole_spec.has_whole all (whole_spec.key_number sent.key)))
left-more all sents sent = grind (arith, nat_tests, common_steps)
