-- What is sent tells the samples of built-in writers that acts tell a listener which hears everything.
use Rattle.std.proofs.lemmas.Grind.{common_steps}
use Rattle.std.proofs.Common.{◌≡◌, ℕ, suc, ◌<◌, ◌≤◌, Bool, true, false, cond, ◌&&◌, List, [], ◌∷◌, ◌++◌, map, filter, Option, Some, None, refl, sym, ◌∙◌, ap, ap₂, subst, arith, inl, inr, append_assoc, append-nil, rules}
use Rattle.std.specs.Prelude.{Contains, ◌==◌, unwrap_or}
use Rattle.std.specs.List.{filter_map, flat_map}
use Rattle.std.proofs.lemmas.Bool.Decides.{Decides-eqb, nat_tests}
use Rattle.std.proofs.lemmas.List.{drop-map, length-map}
use Rattle.std.proofs.lemmas.List.Concat.{flat_map-append}
use Rattle.std.proofs.lemmas.List.Elements.{Contains-append_cases, Contains-append_left, Contains-append_right, filter-append, filter_map-append}
use Rattle.std.specs.Cmp.{both_ways}
use Rattle.std.proofs.lemmas.Bool.{and_parts, and_from}
use Rattle.rtps_ids.specs.declared.identity.Guid.{Guid}
use Rattle.rtps_receiver.specs.Speech as receiver_speech
use Rattle.rtps_receiver.specs.Values as values
use Rattle.rtps_audit.specs.Speech as audit_speech
use Rattle.rtps_audit.proofs.Offered.{contains_head, contains_mapped, contains_none, contains_tail}
use Rattle.rtps_fragments.specs.Announcing as announcing
use Rattle.rtps_fragments.specs.Heard as heard
use Rattle.rtps_fragments.specs.FragmentDelivery as fragment_delivery
use Rattle.rtps_wire.specs.declared.data_frag.Shape.{Shape}
use Rattle.rtps_wire.specs.DataFrag as data_frag
use Rattle.rtps_fragments.specs.Laws as laws
use Rattle.rtps_fragments.specs.Merging as merging
use Rattle.rtps_fragments.specs.Samples as samples
use Rattle.rtps_fragments.specs.SampleActs as sample_acts
use Rattle.rtps_fragments.specs.SamplesSent as samples_sent
use Rattle.rtps_fragments.specs.ToldSamples as told_samples
use Rattle.rtps_fragments.specs.declared.piece.SampleKey.{SampleKey}
use Rattle.rtps_fragments.proofs.ActsAnd.{all_stay}
use Rattle.rtps_fragments.proofs.HeardLemmas.{heard-append, heard-cons, heard_of, heard_one}
use Rattle.rtps_fragments.proofs.SampleActLemmas.{piece_came, spoken_is_origin}
use Rattle.rtps_fragments.proofs.ToldSampleLemmas.{own_sample, sample_is}
use Rattle.rtps_fragments.proofs.ToldLemmas.{own_shape, same_sample}

-- ---- one act

module _ (one : sample_acts.PieceAct) (piece : fragment_delivery.Piece) (frag : merging.IsFragmentAct one piece) where
  pub named : receiver_speech.writer_named one.act.body ≡ Some (receiver_speech.entity_from one.act.body)
  named = grind (arith, nat_tests)

  pub spoken_by_own : receiver_speech.is_spoken_by one.act (receiver_speech.origin_of one.act) ≡ true
  spoken_by_own = search rules

  -- the act is of a sample by both tests
  pub same_test : (key : SampleKey) → told_samples.is_sample key (merging.key_of one.act piece) ≡ (receiver_speech.is_spoken_by one.act key.writer && samples.is_of key.number (told_samples.shape_of key) piece.number piece.shape)
  same_test key = both_ways _ _ to from
    where
      to : told_samples.is_sample key (merging.key_of one.act piece) ≡ true → (receiver_speech.is_spoken_by one.act key.writer && samples.is_of key.number (told_samples.shape_of key) piece.number piece.shape) ≡ true
      to e = subst (λ k. (receiver_speech.is_spoken_by one.act k.writer && samples.is_of k.number (told_samples.shape_of k) piece.number piece.shape) ≡ true) (sym (sample_is key (merging.key_of one.act piece) e)) (and_from _ _ spoken_by_own (own_shape piece.number piece.shape))

      from : (receiver_speech.is_spoken_by one.act key.writer && samples.is_of key.number (told_samples.shape_of key) piece.number piece.shape) ≡ true → told_samples.is_sample key (merging.key_of one.act piece) ≡ true
      from e =
          let (spoken, its) = and_parts (receiver_speech.is_spoken_by one.act key.writer) _ e in
          let writer = spoken_is_origin one.act key.writer named spoken in
          let (number, shape) = same_sample key.number (told_samples.shape_of key) piece.number piece.shape its in
          let first : Guid → SampleKey = λ w. record { writer = w; number = piece.number; sample = piece.shape.sample; fragment = piece.shape.fragment; is_key = piece.shape.is_key } in
          let second : ℕ → SampleKey = λ n. record { writer = key.writer; number = n; sample = piece.shape.sample; fragment = piece.shape.fragment; is_key = piece.shape.is_key } in
          let third : Shape → SampleKey = λ s. record { writer = key.writer; number = key.number; sample = s.sample; fragment = s.fragment; is_key = s.is_key } in
          let is : merging.key_of one.act piece ≡ key = ap first writer ∙ ap second number ∙ ap third shape in
          subst (λ k. told_samples.is_sample key k ≡ true) (sym is) (own_sample key)

  -- what comes of a sample by it, where it is heard
  pub came_by_act : (key : SampleKey) → filter_map (samples.came_of key.number (told_samples.shape_of key)) (heard_one (receiver_speech.is_spoken_by one.act key.writer) (Some piece)) ≡ cond (told_samples.is_sample key (merging.key_of one.act piece)) (heard.came_from piece.first piece.parts) []
  came_by_act key =
      tests (receiver_speech.is_spoken_by one.act key.writer) (samples.is_of key.number (told_samples.shape_of key) piece.number piece.shape) refl ∙ ap (λ b. cond b (heard.came_from piece.first piece.parts) []) (sym (same_test key))
    where
      tests : (spoken its : Bool) → samples.is_of key.number (told_samples.shape_of key) piece.number piece.shape ≡ its → filter_map (samples.came_of key.number (told_samples.shape_of key)) (heard_one spoken (Some piece)) ≡ cond (spoken && its) (heard.came_from piece.first piece.parts) []
      tests false its e = refl
      tests true its e = piece_came key.number (told_samples.shape_of key) piece its e

-- ---- what is sent is what acts send

-- each act with a piece is a DATA_FRAG
abbrev pub AreFragmentActs : List sample_acts.PieceAct → Type 0
AreFragmentActs acts = (one : sample_acts.PieceAct) (piece : fragment_delivery.Piece) → Contains acts one → one.piece ≡ Some piece → merging.IsFragmentAct one piece

-- what an act with a piece sends
abbrev pub sent_by_act : ℕ → values.ActValue → fragment_delivery.Piece → told_samples.SentValue
sent_by_act i act piece = record { act = i; key = merging.key_of act piece; came = heard.came_from piece.first piece.parts }

-- the same comes of each sample, whoever hears it
abbrev pub AreSent : List sample_acts.PieceAct → List told_samples.SentValue → Type 0
AreSent acts sents = (key : SampleKey) → told_samples.overheard key sents ≡ filter_map (samples.came_of key.number (told_samples.shape_of key)) (samples_sent.sent_by key.writer acts)

pub sent_both : (acts more : List sample_acts.PieceAct) (sents others : List told_samples.SentValue) → AreSent acts sents → AreSent more others → AreSent (acts ++ more) (sents ++ others)
sent_both acts more sents others one other key =
    let came = samples.came_of key.number (told_samples.shape_of key) in
    let speaks = λ (part : sample_acts.PieceAct). receiver_speech.is_spoken_by part.act key.writer in
    ap (flat_map (λ (s : told_samples.SentValue). s.came)) (filter-append (λ (s : told_samples.SentValue). told_samples.is_sample key s.key) sents others)
    ∙ flat_map-append (λ (s : told_samples.SentValue). s.came) (told_samples.sent_of key sents) (told_samples.sent_of key others) ∙ ap₂ ◌++◌ (one key) (other key)
    ∙ sym (ap (filter_map came) (heard-append speaks acts more) ∙ filter_map-append came (heard_of speaks acts) (heard_of speaks more))

pub sent_one : (i : ℕ) (one : sample_acts.PieceAct) → ((piece : fragment_delivery.Piece) → one.piece ≡ Some piece → merging.IsFragmentAct one piece) → AreSent (one ∷ []) (merging.sent_in i one.act one.piece)
sent_one i one frag key = by one.piece refl ∙ sym (ap (filter_map came) (heard-cons speaks one [] ∙ append-nil (heard_one (speaks one) one.piece)))
  where
    came : fragment_delivery.Fragment → Option (ℕ × List ℕ)
    came = samples.came_of key.number (told_samples.shape_of key)

    speaks : sample_acts.PieceAct → Bool
    speaks part = receiver_speech.is_spoken_by part.act key.writer

    none : (b : Bool) → [] ≡ filter_map came (heard_one b None)
    none true = refl
    none false = refl

    only : (b : Bool) (sent : told_samples.SentValue) → flat_map (λ (s : told_samples.SentValue). s.came) (cond b (sent ∷ []) []) ≡ cond b sent.came []
    only true sent = append-nil sent.came
    only false sent = refl

    by : (o : Option fragment_delivery.Piece) → one.piece ≡ o → told_samples.overheard key (merging.sent_in i one.act o) ≡ filter_map came (heard_one (speaks one) o)
    by None e = none (speaks one)
    by (Some piece) e = only (told_samples.is_sample key (merging.key_of one.act piece)) (sent_by_act i one.act piece) ∙ sym (came_by_act one piece (frag piece e) key)

-- what acts send, from any place on
pub sent_acts : (i : ℕ) (acts : List sample_acts.PieceAct) → AreFragmentActs acts → AreSent acts (merging.sents_from i acts)
sent_acts i [] frags = λ key. refl
sent_acts i (one ∷ acts) frags =
    sent_both (one ∷ []) acts (merging.sent_in i one.act one.piece) (merging.sents_from (suc i) acts) (sent_one i one (λ piece e. frags one piece (contains_head one acts) e))
    (sent_acts (suc i) acts (λ other piece among e. frags other piece (contains_tail one acts other among) e))

-- what the acts of all datagrams send
pub sent_all : (recording : List (List sample_acts.PieceAct)) → AreFragmentActs (sample_acts.piece_acts_in recording) → AreSent (sample_acts.piece_acts_in recording) (merging.sents_in recording)
sent_all [] frags = λ key. refl
sent_all (acts ∷ recording) frags =
    sent_both acts (sample_acts.piece_acts_in recording) (merging.sents_from 0 acts) (merging.sents_in recording) (sent_acts 0 acts (λ one piece among e. frags one piece (Contains-append_left acts (sample_acts.piece_acts_in recording) one among) e))
    (sent_all recording (λ one piece among e. frags one piece (Contains-append_right acts (sample_acts.piece_acts_in recording) one among) e))

-- ---- what an act tells

pub map_map : {X Y Z : Type 0} (h : Y → Z) (f : X → Y) (xs : List X) → map h (map f xs) ≡ map (λ x. h (f x)) xs
map_map h f [] = refl
map_map h f (x ∷ xs) = ap (λ zs. h (f x) ∷ zs) (map_map h f xs)

-- a sample that an act tells, as an act
abbrev pub act_told : values.ActValue → told_samples.ToldValue → values.ActValue
act_told act told = samples_sent.noted_act act (unwrap_or (audit_speech.announced_of_body act.body) 0) told.payload

-- of a DATA_FRAG they are those that it tells
pub acts_are : (act : values.ActValue) (value : values.FragmentValue) (told : List told_samples.ToldValue) → act.body ≡ values.ActBodyValue.DataFrag value → merging.acts_told act act.body told ≡ map (act_told act) told
acts_are act value told e = grind (arith, nat_tests, common_steps)

pub no_acts : (act : values.ActValue) (body : values.ActBodyValue) → merging.acts_told act body [] ≡ []
no_acts act body = grind (arith, nat_tests)

pub number_is : (one : sample_acts.PieceAct) (piece : fragment_delivery.Piece) → merging.IsFragmentAct one piece → unwrap_or (audit_speech.announced_of_body one.act.body) 0 ≡ piece.number
number_is one piece frag = ap (λ b. unwrap_or (audit_speech.announced_of_body b) 0) frag.body ∙ frag.number

-- the payloads that are told are those of the samples that are told
pub payloads_more : (before : List fragment_delivery.Fragment) (came : List (ℕ × List ℕ)) (piece : fragment_delivery.Piece) → came ≡ filter_map (samples.came_of piece.number piece.shape) before
    → map (fragment_delivery.payload_by piece.shape) (told_samples.samples_more (data_frag.last_fragment piece.shape) came (heard.came_from piece.first piece.parts)) ≡ samples.told_by before piece
payloads_more before came piece is = grind (arith, nat_tests, common_steps, filter_map-append, piece_came, own_shape, drop-map, length-map)

-- what is told by what an act sends stands behind the act
own_noted : (before : List sample_acts.PieceAct) (sents : List told_samples.SentValue) → AreSent before sents → (i : ℕ) (one : sample_acts.PieceAct) (piece : fragment_delivery.Piece) → merging.IsFragmentAct one piece
    → map (act_told one.act) (told_samples.overheard_behind sents (sent_by_act i one.act piece)) ≡ announcing.notes_told before one.act (Some piece)
own_noted before sents so_far i one piece frag =
    let came = told_samples.overheard (merging.key_of one.act piece) sents in
    let octets = told_samples.samples_more (data_frag.last_fragment piece.shape) came (heard.came_from piece.first piece.parts) in
    noted (announcing.is_built_in (receiver_speech.entity_from one.act.body)) (told_samples.told_as i piece.shape octets) (map (samples_sent.noted_act one.act piece.number) (samples.told_by (samples_sent.sent_by (receiver_speech.origin_of one.act) before) piece))
    (map_map (act_told one.act) (λ octets. let told : told_samples.ToldValue = record { act = i; payload = fragment_delivery.payload_by piece.shape octets } in told) octets
    ∙ ap (λ n. map (λ octets. samples_sent.noted_act one.act n (fragment_delivery.payload_by piece.shape octets)) octets) (number_is one piece frag)
    ∙ sym (map_map (samples_sent.noted_act one.act piece.number) (fragment_delivery.payload_by piece.shape) octets)
    ∙ ap (map (samples_sent.noted_act one.act piece.number)) (payloads_more (samples_sent.sent_by (receiver_speech.origin_of one.act) before) came piece (so_far (merging.key_of one.act piece))))
  where
    noted : (b : Bool) (told : List told_samples.ToldValue) (other : List values.ActValue) → map (act_told one.act) told ≡ other → map (act_told one.act) (cond b told []) ≡ cond b other []
    noted true told other e = e
    noted false told other e = refl

-- ---- places

pub if_among : {X : Type 0} (b : Bool) (xs : List X) (x : X) → Contains (cond b xs []) x → Contains xs x
if_among b xs x h = grind (arith, nat_tests, common_steps, contains_none)

pub sent_at : (i : ℕ) (act : values.ActValue) (o : Option fragment_delivery.Piece) (sent : told_samples.SentValue) → Contains (merging.sent_in i act o) sent → sent.act ≡ i
sent_at i act o sent h = grind (arith, nat_tests)

pub sent_behind : (i : ℕ) (acts : List sample_acts.PieceAct) (sent : told_samples.SentValue) → Contains (merging.sents_from i acts) sent → i ≤ sent.act
sent_behind i [] sent among = absurd (contains_none sent among)
sent_behind i (one ∷ acts) sent among = elim (Contains-append_cases (merging.sent_in i one.act one.piece) (merging.sents_from (suc i) acts) sent among) [
  | inl here ↦ let is = sent_at i one.act one.piece sent here in omega arith
  | inr there ↦ let le = sent_behind (suc i) acts sent there in omega arith
]

-- what is told at a place comes before what is told behind it
runs : (i : ℕ) (own rest : List told_samples.ToldValue) → ((one : told_samples.ToldValue) → Contains own one → one.act ≡ i) → ((one : told_samples.ToldValue) → Contains rest one → i < one.act) → (merging.run_of i (own ++ rest) ≡ own) × (merging.run_past i (own ++ rest) ≡ rest)
runs i [] [] here past = (refl, refl)
runs i [] (one ∷ rest) here past =
    let apart = later one.act i (past one (contains_head one rest)) in
    (ap (λ b. cond b (one ∷ merging.run_of i rest) []) apart, ap (λ b. cond b (merging.run_past i rest) (one ∷ rest)) apart)
  where
    later : (a b : ℕ) → b < a → (a == b) ≡ false
    later a b lt = grind (arith, nat_tests)
runs i (one ∷ own) rest here past =
    let same = (Decides-eqb one.act i).1 (here one (contains_head one own)) in
    let (run, behind) = runs i own rest (λ other among. here other (contains_tail one own other among)) past in
    (ap (λ b. cond b (one ∷ merging.run_of i (own ++ rest)) []) same ∙ ap (λ ts. one ∷ ts) run, ap (λ b. cond b (merging.run_past i (own ++ rest)) (one ∷ (own ++ rest))) same ∙ behind)

pub told_at_sent : (sents : List told_samples.SentValue) (sent : told_samples.SentValue) (told : told_samples.ToldValue) → Contains (told_samples.overheard_behind sents sent) told → told.act ≡ sent.act
told_at_sent sents sent told among =
    let made = if_among (announcing.is_built_in sent.key.writer.entity) (told_samples.told_by_sent sent (told_samples.overheard sent.key sents)) told among in
    let (octets, one, is) = contains_mapped (λ octets. let one : told_samples.ToldValue = record { act = sent.act; payload = fragment_delivery.payload_by (told_samples.shape_of sent.key) octets } in one) (told_samples.samples_more (data_frag.last_fragment (told_samples.shape_of sent.key)) (told_samples.overheard sent.key sents) sent.came) told made in
    ap (λ (t : told_samples.ToldValue). t.act) (sym is)

-- the first of these acts, with what is told at its place
pub merged_one : (i : ℕ) (act : values.ActValue) (acts : List values.ActValue) (own rest : List told_samples.ToldValue) → ((one : told_samples.ToldValue) → Contains own one → one.act ≡ i) → ((one : told_samples.ToldValue) → Contains rest one → i < one.act)
    → merging.merged_from i (act ∷ acts) (own ++ rest) ≡ act ∷ (merging.acts_told act act.body own ++ merging.merged_from (suc i) acts rest)
merged_one i act acts own rest here past = grind (arith, nat_tests, common_steps, runs)

-- ---- the acts of a datagram

told_from_sent : (before sents : List told_samples.SentValue) (told : told_samples.ToldValue) → Contains (told_samples.overheard_in_turn before sents) told → (sent : told_samples.SentValue) × Contains sents sent × (told.act ≡ sent.act)
told_from_sent before [] told among = absurd (contains_none told among)
told_from_sent before (sent ∷ sents) told among = elim (Contains-append_cases (told_samples.overheard_behind before sent) (told_samples.overheard_in_turn (before ++ sent ∷ []) sents) told among) [
  | inl here ↦ (sent, contains_head sent sents, told_at_sent before sent told here)
  | inr there ↦ let (other, among, is) = told_from_sent (before ++ sent ∷ []) sents told there in (other, contains_tail sent sents other among, is)
]

in_turn-append : (before sents more : List told_samples.SentValue) → told_samples.overheard_in_turn before (sents ++ more) ≡ told_samples.overheard_in_turn before sents ++ told_samples.overheard_in_turn (before ++ sents) more
in_turn-append before [] more = ap (λ ss. told_samples.overheard_in_turn ss more) (sym (append-nil before))
in_turn-append before (sent ∷ sents) more =
    ap (λ ts. told_samples.overheard_behind before sent ++ ts) (in_turn-append (before ++ sent ∷ []) sents more)
    ∙ sym (append_assoc (told_samples.overheard_behind before sent) (told_samples.overheard_in_turn (before ++ sent ∷ []) sents) (told_samples.overheard_in_turn ((before ++ sent ∷ []) ++ sents) more))
    ∙ ap (λ ss. told_samples.overheard_in_turn before (sent ∷ sents) ++ told_samples.overheard_in_turn ss more) (append_assoc before (sent ∷ []) sents)

own_told : (before : List sample_acts.PieceAct) (sents : List told_samples.SentValue) → AreSent before sents → (i : ℕ) (one : sample_acts.PieceAct) → ((piece : fragment_delivery.Piece) → one.piece ≡ Some piece → merging.IsFragmentAct one piece)
    → merging.acts_told one.act one.act.body (told_samples.overheard_in_turn sents (merging.sent_in i one.act one.piece)) ≡ announcing.notes_told before one.act one.piece
own_told before sents so_far i one frag = by one.piece refl
  where
    by : (o : Option fragment_delivery.Piece) → one.piece ≡ o → merging.acts_told one.act one.act.body (told_samples.overheard_in_turn sents (merging.sent_in i one.act o)) ≡ announcing.notes_told before one.act o
    by None e = no_acts one.act one.act.body
    by (Some piece) e =
        acts_are one.act (frag piece e).value (told_samples.overheard_behind sents (sent_by_act i one.act piece) ++ []) (frag piece e).body
        ∙ ap (map (act_told one.act)) (append-nil (told_samples.overheard_behind sents (sent_by_act i one.act piece))) ∙ own_noted before sents so_far i one piece (frag piece e)

pub merged_is : (before : List sample_acts.PieceAct) (sents : List told_samples.SentValue) → AreSent before sents → (i : ℕ) (acts : List sample_acts.PieceAct) → AreFragmentActs acts
    → merging.merged_from i (map (λ one. one.act) acts) (told_samples.overheard_in_turn sents (merging.sents_from i acts)) ≡ sample_acts.acts_and announcing.notes_told before acts
merged_is before sents so_far i [] frags = refl
merged_is before sents so_far i (one ∷ acts) frags =
    let sent = merging.sent_in i one.act one.piece in
    let rest = told_samples.overheard_in_turn (sents ++ sent) (merging.sents_from (suc i) acts) in
    ap (merging.merged_from i (map (λ (p : sample_acts.PieceAct). p.act) (one ∷ acts))) (in_turn-append sents sent (merging.sents_from (suc i) acts))
    ∙ merged_one i one.act (map (λ (p : sample_acts.PieceAct). p.act) acts) (told_samples.overheard_in_turn sents sent) rest own_at rest_at
    ∙ ap (λ xs. one.act ∷ (xs ++ merging.merged_from (suc i) (map (λ (p : sample_acts.PieceAct). p.act) acts) rest)) (own_told before sents so_far i one frag)
    ∙ ap (λ xs. one.act ∷ (announcing.notes_told before one.act one.piece ++ xs)) (merged_is (before ++ one ∷ []) (sents ++ sent) (sent_both before (one ∷ []) sents sent so_far (sent_one i one frag)) (suc i) acts (λ other piece among e. frags other piece (contains_tail one acts other among) e))
  where
    frag : (piece : fragment_delivery.Piece) → one.piece ≡ Some piece → merging.IsFragmentAct one piece
    frag piece e = frags one piece (contains_head one acts) e

    own_at : (told : told_samples.ToldValue) → Contains (told_samples.overheard_in_turn sents (merging.sent_in i one.act one.piece)) told → told.act ≡ i
    own_at told among = let (from, there, is) = told_from_sent sents (merging.sent_in i one.act one.piece) told among in is ∙ sent_at i one.act one.piece from there

    rest_at : (told : told_samples.ToldValue) → Contains (told_samples.overheard_in_turn (sents ++ merging.sent_in i one.act one.piece) (merging.sents_from (suc i) acts)) told → i < told.act
    rest_at told among = let (from, there, is) = told_from_sent (sents ++ merging.sent_in i one.act one.piece) (merging.sents_from (suc i) acts) told among in let le = sent_behind (suc i) acts from there in omega arith

-- where no act has a piece, nothing is noted
pub announcing_stays : (recording : List (List sample_acts.PieceAct)) → laws.HasNoPieces recording → announcing.announcing_with recording ≡ sample_acts.acts_sent recording
announcing_stays recording none = all_stay announcing.notes_told (λ before act. refl) [] recording none
