-- What an index takes in of a recording with its samples, with one datagram more.
use Rattle.std.proofs.lemmas.Grind.{common_steps}
use Rattle.std.proofs.lemmas.Bool.Decides.{nat_tests}
use Rattle.std.proofs.Common.{◌≡◌, ℕ, ◌+◌, ◌<◌, ◌≤◌, List, [], ◌∷◌, ◌++◌, drop, length, map, take, get_or, Bor, Option, Some, None, slice_get, refl, sym, ◌∙◌, ap, subst, arith, inl, inr}
use Rattle.std.specs.Prelude.{Contains}
use Rattle.std.specs.Global.{Vec}
use Rattle.std.proofs.lemmas.List.{length-map, length-take-le, map-append, take-map, take_more}
use Rattle.std.proofs.lemmas.List.Elements.{Contains-append_cases}
use Rattle.std.proofs.lemmas.Option.{slice_get-get_or}
use Rattle.rtps_wire.proofs.Offered.{fragments_of_sample}
use Rattle.rtps_wire.specs.DataFrag as data_frag
use Rattle.rtps_wire.specs.Reading as reading
use Rattle.rtps_wire.specs.Tally as tally
use Rattle.rtps_wire.specs.Values as wire_values
use Rattle.rtps_wire.specs.declared.counts.Tally.{Tally}
use Rattle.rtps_wire.specs.declared.header.Header.{Header}
use Rattle.rtps_wire.specs.declared.nack_frag.NackFrag.{NackFrag}
use Rattle.rtps_receiver.specs.Acts as acts
use Rattle.rtps_receiver.specs.Values as receiver_values
use Rattle.rtps_receiver.specs.declared.state.State.{State}
use Rattle.rtps_audit.specs.Speech as speech
use Rattle.rtps_audit.specs.Intake as intake
use Rattle.rtps_audit.proofs.Offered.{contains_cases, contains_mapped, contains_none, get_mapped, if_some}
use Rattle.rtps_fragments.specs.Announcing as announcing
use Rattle.rtps_fragments.specs.FragmentDelivery as fragment_delivery
use Rattle.rtps_fragments.specs.Laws as laws
use Rattle.rtps_fragments.specs.Merging as merging
use Rattle.rtps_fragments.specs.RecordedSamples as recorded_samples
use Rattle.rtps_fragments.specs.SampleActs as sample_acts
use Rattle.rtps_wire.specs.FragmentItem as fragment_item
use Rattle.rtps_fragments.specs.FragmentWalk as fragment_walk
use Rattle.rtps_fragments.specs.ToldSamples as told_samples
use Rattle.rtps_fragments.specs.Whole as whole
use Rattle.rtps_fragments.specs.declared.told_sample.ToldSample.{ToldSample}
use Rattle.rtps_fragments.proofs.ActsAnd.{length-acts, next_acts}
use Rattle.rtps_fragments.proofs.Lists.{flat_from}
use Rattle.rtps_fragments.proofs.KeptLemmas.{length-parts_in}
use Rattle.rtps_fragments.proofs.MergingLemmas.{AreFragmentActs, merged_is, sent_all}
use Rattle.rtps_fragments.proofs.SampleSteps.{octets_of, sending_next, told_there}
use Rattle.rtps_fragments.proofs.WholeLemmas.{all_alike, left_alike}

-- ---- the pieces of a recording are of DATA_FRAG

pub gathered_from : {X : Type 0} (gives : State → wire_values.ItemValue → List X) (start : State) (before items : List wire_values.ItemValue) (x : X) → Contains (acts.gathered gives start before items) x → (state : State) × (item : wire_values.ItemValue) × Contains (gives state item) x
gathered_from gives start before [] x among = absurd (contains_none x among)
gathered_from gives start before (item ∷ items) x among = elim (Contains-append_cases (gives (acts.state_behind start before) item) (acts.gathered gives start (before ++ item ∷ []) items) x among) [
  | inl here ↦ (acts.state_behind start before, item, here)
  | inr there ↦ gathered_from gives start (before ++ item ∷ []) items x there
]

fragment_of_item : (octets : List ℕ) (state : State) (item : wire_values.ItemValue) (body : Option receiver_values.ActBodyValue) (one : sample_acts.PieceAct) (piece : fragment_delivery.Piece) → Contains (fragment_walk.piece_acts_of_item octets state item body) one → one.piece ≡ Some piece → merging.IsFragmentAct one piece
fragment_of_item octets state item body one piece h h2 = grind (arith, nat_tests, common_steps)

-- a piece has fragments of its shape
piece_of_item : (octets : List ℕ) (state : State) (item : wire_values.ItemValue) (body : Option receiver_values.ActBodyValue) (one : sample_acts.PieceAct) (piece : fragment_delivery.Piece) → Contains (fragment_walk.piece_acts_of_item octets state item body) one → one.piece ≡ Some piece → laws.IsPieceAct one piece
piece_of_item octets state item (Some body) one piece among is = elim (contains_cases _ [] one among) [
  | inl same ↦ absurd (let clash : None ≡ Some piece = ap (λ (p : sample_acts.PieceAct). p.piece) same ∙ is in cc)
  | inr none ↦ absurd (contains_none one none)
]
piece_of_item octets state item None one piece among is = by (fragment_item.fragments_at octets item) (fragment_item.asks_at octets item) refl among
  where
    by : (o : Option data_frag.DataFragValue) (asks : Option NackFrag) → fragment_item.fragments_at octets item ≡ o → Contains (fragment_walk.skipped_acts state item o asks) one → laws.IsPieceAct one piece
    by None None e among = absurd (contains_none one among)
    by None (Some asks) e among = elim (contains_cases _ [] one among) [
      | inl same ↦ absurd (let clash : None ≡ Some piece = ap (λ (p : sample_acts.PieceAct). p.piece) same ∙ is in cc)
      | inr none ↦ absurd (contains_none one none)
    ]
    by (Some value) asks e among = elim (contains_cases _ [] one among) [
      | inl same ↦
          let piece_is : fragment_walk.piece_of value ≡ piece = (let h : Some (fragment_walk.piece_of value) ≡ Some piece = ap (λ (p : sample_acts.PieceAct). p.piece) same ∙ is in cc) in
          let well = fragments_of_sample (drop item.at octets) value (if_some (tally.is_fragment item.body) (data_frag.data_frag_at (drop item.at octets)) value e).1 in
          let count = length-parts_in value.shape.fragment value.count value.octets in
          let own : laws.IsPieceAct (record { act = one.act; piece = Some (fragment_walk.piece_of value) }) (fragment_walk.piece_of value) = record {
            announces = ap (λ (p : sample_acts.PieceAct). speech.announced_of_body p.act.body) (sym same);
            first = well.first;
            last = (let le = well.last in omega arith);
          } in
          subst (λ (p : fragment_delivery.Piece). laws.IsPieceAct one p) piece_is (record { announces = own.announces; first = own.first; last = own.last })
      | inr none ↦ absurd (contains_none one none)
    ]

piece_of_datagram : (octets : List ℕ) (one : sample_acts.PieceAct) (piece : fragment_delivery.Piece) → Contains (fragment_walk.piece_acts_of octets) one → one.piece ≡ Some piece → laws.IsPieceAct one piece
unfolding fragment_walk.piece_acts_of
piece_of_datagram octets one piece among is = by (reading.reading_of octets).header among
  where
    by : (header : Option Header) → Contains (fragment_walk.piece_acts_with octets header (reading.reading_of octets).items) one → laws.IsPieceAct one piece
    by None among = absurd (contains_none one among)
    by (Some header) among =
        let (state, item, there) = gathered_from (λ s i. fragment_walk.piece_acts_of_item octets s i (acts.act_body i.body)) (acts.state_at_start header) [] (reading.reading_of octets).items one among in
        piece_of_item octets state item (acts.act_body item.body) one piece there is

pub pieces_of_recording : (recording : List (List ℕ)) → laws.ArePieceActs (fragment_walk.sending_of recording)
pieces_of_recording recording datagram one piece there here is =
    let (octets, sent, same) = contains_mapped fragment_walk.piece_acts_of recording datagram there in
    piece_of_datagram octets one piece (subst (λ (ones : List sample_acts.PieceAct). Contains ones one) (sym same) here) is

pub fragments_of_datagram : (octets : List ℕ) (one : sample_acts.PieceAct) (piece : fragment_delivery.Piece) → Contains (fragment_walk.piece_acts_of octets) one → one.piece ≡ Some piece → merging.IsFragmentAct one piece
unfolding fragment_walk.piece_acts_of
fragments_of_datagram octets one piece among is = by (reading.reading_of octets).header among
  where
    by : (header : Option Header) → Contains (fragment_walk.piece_acts_with octets header (reading.reading_of octets).items) one → merging.IsFragmentAct one piece
    by None among = absurd (contains_none one among)
    by (Some header) among =
        let (state, item, there) = gathered_from (λ s i. fragment_walk.piece_acts_of_item octets s i (acts.act_body i.body)) (acts.state_at_start header) [] (reading.reading_of octets).items one among in
        fragment_of_item octets state item (acts.act_body item.body) one piece there is

pub fragments_of_recording : (recording : List (List ℕ)) → AreFragmentActs (sample_acts.piece_acts_in (fragment_walk.sending_of recording))
fragments_of_recording recording one piece among is =
    let (acts, there, here) = flat_from (λ (datagram : List sample_acts.PieceAct). datagram) (fragment_walk.sending_of recording) one among in
    let (octets, sent, same) = contains_mapped fragment_walk.piece_acts_of recording acts there in
    fragments_of_datagram octets one piece (subst (λ (ones : List sample_acts.PieceAct). Contains ones one) (sym same) here) is

-- ---- one datagram more

-- what is kept at a place is what is told there
pub kept_at : (kept : List (Vec ToldSample)) (all : List (List told_samples.ToldValue)) (i : ℕ) (item : Vec ToldSample) (items : List ToldSample) → map (λ told. map told_samples.told_value told.items) kept ≡ all → i < length kept → item ≡ get_or kept i item → items ≡ item.items
    → slice_get all i ≡ Some (map told_samples.told_value items)
kept_at kept all i item items are lt is same =
    ap (λ (ts : List (List told_samples.ToldValue)). slice_get ts i) (sym are) ∙ get_mapped (λ (t : Vec ToldSample). map told_samples.told_value t.items) kept i item (slice_get-get_or kept i item lt ∙ ap Some (sym is))
    ∙ ap (λ (ts : List ToldSample). Some (map told_samples.told_value ts)) (sym same)

-- what is taken in of so many datagrams of a recording with its samples
abbrev pub taken : List (Bor (List ℕ)) → ℕ → intake.Intake
taken xs i =
    record {
      tallies = map (recorded_samples.tally_with (sample_acts.piece_acts_in (fragment_walk.sending_of (octets_of xs)))) (octets_of (take i xs));
      acts = sample_acts.acts_sent (fragment_walk.sending_of (octets_of (take i xs)));
      announcing = announcing.announcing_with (fragment_walk.sending_of (octets_of (take i xs)));
    }

-- how many datagrams have announced something of them
pub announced_count : (xs : List (Bor (List ℕ))) (i : ℕ) → i ≤ length xs → length (taken xs i).announcing ≡ i
announced_count xs i le =
    length-acts announcing.notes_told [] (fragment_walk.sending_of (octets_of (take i xs))) ∙ length-map (octets_of (take i xs)) fragment_walk.piece_acts_of ∙ length-map (take i xs) (λ (datagram : Bor (List ℕ)). datagram.now) ∙ length-take-le i xs le

module _ (xs : List (Bor (List ℕ))) (i : ℕ) (d : Bor (List ℕ)) (lt : i < length xs) where
  abbrev octets : List ℕ
  octets = (get_or xs i d).now

  abbrev sending : List (List sample_acts.PieceAct)
  sending = fragment_walk.sending_of (octets_of xs)

  there : slice_get (fragment_walk.sending_of (octets_of xs)) i ≡ Some (fragment_walk.piece_acts_of (get_or xs i d).now)
  there = get_mapped fragment_walk.piece_acts_of (octets_of xs) i (get_or xs i d).now (get_mapped (λ (datagram : Bor (List ℕ)). datagram.now) xs i (get_or xs i d) (slice_get-get_or xs i d lt))

  so_far : take i (fragment_walk.sending_of (octets_of xs)) ≡ fragment_walk.sending_of (octets_of (take i xs))
  so_far = take-map fragment_walk.piece_acts_of i (octets_of xs) ∙ ap (map fragment_walk.piece_acts_of) (take-map (λ (datagram : Bor (List ℕ)). datagram.now) i xs)

  -- the acts of a datagram with what they tell among them
  merged_here : (told : List told_samples.ToldValue) → slice_get (recorded_samples.overheard_from [] (fragment_walk.sending_of (octets_of xs))) i ≡ Some told
      → merging.merged_from 0 (map (λ one. one.act) (fragment_walk.piece_acts_of (get_or xs i d).now)) told ≡ sample_acts.acts_and announcing.notes_told (sample_acts.piece_acts_in (fragment_walk.sending_of (octets_of (take i xs)))) (fragment_walk.piece_acts_of (get_or xs i d).now)
  merged_here told at =
      let same : told ≡ told_samples.overheard_in_turn (merging.sents_in (take i sending)) (merging.sents_from 0 (fragment_walk.piece_acts_of octets)) = one_item _ _ (sym at ∙ told_there [] sending i (fragment_walk.piece_acts_of octets) there) in
      ap (merging.merged_from 0 (map (λ (one : sample_acts.PieceAct). one.act) (fragment_walk.piece_acts_of octets))) (same ∙ ap (λ (r : List (List sample_acts.PieceAct)). told_samples.overheard_in_turn (merging.sents_in r) (merging.sents_from 0 (fragment_walk.piece_acts_of octets))) so_far)
      ∙ merged_is (sample_acts.piece_acts_in (fragment_walk.sending_of (octets_of (take i xs)))) (merging.sents_in (fragment_walk.sending_of (octets_of (take i xs)))) (sent_all (fragment_walk.sending_of (octets_of (take i xs))) (fragments_of_recording (octets_of (take i xs))))
      0 (fragment_walk.piece_acts_of octets) (fragments_of_datagram octets)
    where
      one_item : {X : Type 0} (x y : X) → Some x ≡ Some y → x ≡ y
      one_item x y e = cc

  -- its tally
  pub tallied_here : whole.tally_left (merging.sents_in (fragment_walk.sending_of (octets_of xs))) (get_or xs i d).now ≡ recorded_samples.tally_with (sample_acts.piece_acts_in (fragment_walk.sending_of (octets_of xs))) (get_or xs i d).now
  tallied_here =
      let frags = fragments_of_recording (octets_of xs) in
      let heard = sent_all sending frags in
      ap (λ n. whole.tally_with_fragments (tally.tally_of (reading.reading_of octets)) (fragment_walk.unusable_in octets + n))
      (left_alike (sample_acts.piece_acts_in sending) (merging.sents_in sending) heard (λ number. all_alike (sample_acts.piece_acts_in sending) (merging.sents_in sending) heard number sending frags) 0 (fragment_walk.piece_acts_of octets))

  pub read_next : {Y : Type 0} (f : List ℕ → Y) → map f (octets_of (take (i + 1) xs)) ≡ map f (octets_of (take i xs)) ++ f (get_or xs i d).now ∷ []
  read_next f =
      ap (λ ys. map f (octets_of ys)) (take_more xs i d lt) ∙ ap (map f) (map-append (λ (datagram : Bor (List ℕ)). datagram.now) (take i xs) (get_or xs i d ∷ [])) ∙ map-append f (octets_of (take i xs)) (octets ∷ [])

  -- what is taken in, with one datagram more
  pub taken_more : (noted : List told_samples.ToldValue) → slice_get (recorded_samples.overheard_from [] (fragment_walk.sending_of (octets_of xs))) i ≡ Some noted
      → intake.intake_more (taken xs i) (whole.tally_left (merging.sents_in (fragment_walk.sending_of (octets_of xs))) (get_or xs i d).now) (map (λ one. one.act) (fragment_walk.piece_acts_of (get_or xs i d).now)) (merging.merged_from 0 (map (λ one. one.act) (fragment_walk.piece_acts_of (get_or xs i d).now)) noted) ≡ taken xs (i + 1)
  taken_more noted at =
      let own = map (λ (one : sample_acts.PieceAct). one.act) (fragment_walk.piece_acts_of octets) in
      let announced = merging.merged_from 0 own noted in
      let one : List Tally → intake.Intake = λ t. record { tallies = t; acts = (taken xs i).acts ++ own ∷ []; announcing = (taken xs i).announcing ++ announced ∷ [] } in
      let two : List (List receiver_values.ActValue) → intake.Intake = λ a. record { tallies = (taken xs (i + 1)).tallies; acts = a; announcing = (taken xs i).announcing ++ announced ∷ [] } in
      let three : List (List receiver_values.ActValue) → intake.Intake = λ a. record { tallies = (taken xs (i + 1)).tallies; acts = (taken xs (i + 1)).acts; announcing = a } in
      ap one (ap (λ t. (taken xs i).tallies ++ t ∷ []) tallied_here ∙ sym (read_next (recorded_samples.tally_with (sample_acts.piece_acts_in sending))))
      ∙ ap two (sym (ap sample_acts.acts_sent (sending_next xs i d lt) ∙ map-append (map (λ (one : sample_acts.PieceAct). one.act)) (fragment_walk.sending_of (octets_of (take i xs))) (fragment_walk.piece_acts_of octets ∷ [])))
      ∙ ap three (ap (λ a. (taken xs i).announcing ++ a ∷ []) (merged_here noted at) ∙ sym (ap announcing.announcing_with (sending_next xs i d lt) ∙ next_acts announcing.notes_told [] (fragment_walk.sending_of (octets_of (take i xs))) (fragment_walk.piece_acts_of octets)))
