-- What one reader hears of acts as they are sent is what a recording tells it.
use Rattle.std.proofs.lemmas.Grind.{common_steps, div_ceil_times}
use Rattle.std.proofs.lemmas.Bool.Decides.{nat_tests}
use Rattle.std.proofs.Common.{◌≡◌, ℕ, zero, suc, ◌+◌, ◌-◌, ◌*◌, ◌/◌, ◌<◌, ◌≤◌, min, Bool, true, false, cond, ◌&&◌, List, [], ◌∷◌, ◌++◌, drop, filter, length, map, take, Option, Some, None, refl, sym, ◌∙◌, ap, ap₂, subst, inl, inr, append_assoc, append-nil, arith}
use Rattle.std.specs.Prelude.{Contains, nat_le}
use Rattle.std.specs.Int.{div_ceil}
use Rattle.std.specs.List.{cons_option, filter_map}
use Rattle.std.proofs.Math.Nat.{div-mul-le_self, mul-le-mul_right}
use Rattle.std.proofs.lemmas.Bool.{and_from, cases_lt}
use Rattle.std.proofs.lemmas.List.{map-append, take-map}
use Rattle.rtps_wire.proofs.Offered.{fragments_of_sample}
use Rattle.rtps_wire.specs.DataFrag as data_frag
use Rattle.rtps_wire.specs.FragmentItem as fragment_item
use Rattle.rtps_wire.specs.Reading as reading
use Rattle.rtps_wire.specs.Tally as tally
use Rattle.rtps_wire.specs.Values as wire_values
use Rattle.rtps_wire.specs.declared.header.Header.{Header}
use Rattle.rtps_wire.specs.declared.nack_frag.NackFrag.{NackFrag}
use Rattle.rtps_receiver.specs.Acts as acts
use Rattle.rtps_receiver.specs.Values as receiver_values
use Rattle.rtps_receiver.specs.declared.state.State.{State}
use Rattle.rtps_audit.specs.Said as said
use Rattle.rtps_audit.specs.Speech as audit_speech
use Rattle.rtps_audit.proofs.Offered.{contains_cases, contains_mapped, contains_none, if_some}
use Rattle.rtps_fragments.specs.FragmentDelivery as fragment_delivery
use Rattle.rtps_fragments.specs.FragmentWalk as fragment_walk
use Rattle.rtps_fragments.specs.Hearing as hearing
use Rattle.rtps_fragments.specs.Laws as laws
use Rattle.rtps_fragments.specs.SampleActs as sample_acts
use Rattle.rtps_fragments.proofs.ActsAnd.{all_stay, take_acts}
use Rattle.rtps_fragments.proofs.IndexSteps.{gathered_from}

-- ---- how many fragments octets are

-- more than all but one of so many fragments, and no more than all
times_less : (f k q : ℕ) → q < k → q * f + f ≤ k * f
times_less f k q lt = let step : q * f + f ≡ suc q * f = omega arith in let le = mul-le-mul_right {m = suc q} {n = k} f lt in omega (arith, step, le)

ceil_is : (f k octets : ℕ) → 0 < f → octets ≤ k * f → k * f < octets + f → div_ceil octets f ≡ k
ceil_is f k octets some within past =
    let (above, below) = div_ceil_times octets f some in
    elim (cases_lt (div_ceil octets f) k) [
      | inl few ↦ absurd (let less = times_less f k (div_ceil octets f) few in omega arith)
      | inr enough ↦ elim (cases_lt k (div_ceil octets f)) [
        | inl many ↦ absurd (let more = times_less f (div_ceil octets f) k many in omega arith)
        | inr most ↦ omega arith
      ]
    ]

-- the fragments from the one behind so many on
octets_within : (s f before k : ℕ) → 0 < f → 0 < s → 0 < k → before + k ≤ (s + f - 1) / f → (min s ((before + k) * f) - before * f ≤ k * f) × (k * f < (min s ((before + k) * f) - before * f) + f)
octets_within s f before k some sample any within =
    let all = div-mul-le_self (s + f - 1) f in
    let ends = mul-le-mul_right {m = before + k} {n = (s + f - 1) / f} f within in
    let parts : (before + k) * f ≡ before * f + k * f = omega arith in
    (omega (arith, parts), omega (arith, all, ends, parts))

count_is : (value : data_frag.DataFragValue) → data_frag.IsDataFrag value → div_ceil (length value.octets) value.shape.fragment ≡ value.count
count_is value well =
    let before = value.first - 1 in
    let first = well.first in
    let last = well.last in
    let ends : before + value.count ≡ value.first + value.count - 1 = omega arith in
    let (within, past) = octets_within value.shape.sample value.shape.fragment before value.count well.fragment well.sample well.count (omega arith) in
    let size : length value.octets ≡ min value.shape.sample ((before + value.count) * value.shape.fragment) - before * value.shape.fragment = well.octets ∙ ap (λ n. min value.shape.sample (n * value.shape.fragment) - before * value.shape.fragment) (sym ends) in
    ceil_is value.shape.fragment value.count (length value.octets) well.fragment (omega (arith, size, within)) (omega (arith, size, past))

-- ---- the piece of an act

at_least : (n : ℕ) → 0 < n → nat_le 1 n ≡ true
at_least n some = grind (arith, nat_tests)

-- a DATA_FRAG has its piece itself
piece_is : (value : data_frag.DataFragValue) → data_frag.IsDataFrag value → hearing.piece_in (receiver_values.ActBodyValue.DataFrag (fragment_walk.fragment_of value)) ≡ Some (fragment_walk.piece_of value)
piece_is value well =
    let so = λ (count : ℕ). let piece : fragment_delivery.Piece = record { number = value.number; shape = value.shape; first = value.first; parts = data_frag.parts_in value.shape.fragment count value.octets } in Some piece in
    ap (λ b. cond b (so (div_ceil (length value.octets) value.shape.fragment)) None) (and_from _ _ (at_least value.first well.first) (and_from _ _ (at_least value.shape.fragment well.fragment) (at_least value.shape.sample well.sample)))
    ∙ ap so (count_is value well)

pub no_piece : (body : receiver_values.ActBodyValue) → hearing.sends_fragments body ≡ false → hearing.piece_in body ≡ None
no_piece body none = grind (arith, nat_tests)

plain_body : (item : wire_values.BodyValue) (body : receiver_values.ActBodyValue) → acts.act_body item ≡ Some body → hearing.sends_fragments body ≡ false
plain_body item body is = grind (arith, nat_tests)

item_pieces : (octets : List ℕ) (state : State) (item : wire_values.ItemValue) → map hearing.with_piece (map (λ one. one.act) (fragment_walk.piece_acts_of_item octets state item (acts.act_body item.body))) ≡ fragment_walk.piece_acts_of_item octets state item (acts.act_body item.body)
item_pieces octets state item = by (acts.act_body item.body) refl
  where
    made : receiver_values.ActBodyValue → Option fragment_delivery.Piece → List sample_acts.PieceAct
    made body piece = record { act = acts.act_at state item.at item.order body; piece = piece } ∷ []

    skipped : (o : Option data_frag.DataFragValue) (asks : Option NackFrag) → fragment_item.fragments_at octets item ≡ o → map hearing.with_piece (map (λ one. one.act) (fragment_walk.skipped_acts state item o asks)) ≡ fragment_walk.skipped_acts state item o asks
    skipped (Some value) asks e = ap (made (receiver_values.ActBodyValue.DataFrag (fragment_walk.fragment_of value))) (piece_is value (fragments_of_sample (drop item.at octets) value (if_some (tally.is_fragment item.body) (data_frag.data_frag_at (drop item.at octets)) value e).1))
    skipped None (Some asks) e = refl
    skipped None None e = refl

    by : (o : Option receiver_values.ActBodyValue) → acts.act_body item.body ≡ o → map hearing.with_piece (map (λ one. one.act) (fragment_walk.piece_acts_of_item octets state item o)) ≡ fragment_walk.piece_acts_of_item octets state item o
    by (Some body) e = ap (made body) (no_piece body (plain_body item.body body e))
    by None e = skipped (fragment_item.fragments_at octets item) (fragment_item.asks_at octets item) refl

gathered_pieces : (octets : List ℕ) (start : State) (before items : List wire_values.ItemValue) → map hearing.with_piece (map (λ one. one.act) (acts.gathered (λ s i. fragment_walk.piece_acts_of_item octets s i (acts.act_body i.body)) start before items)) ≡ acts.gathered (λ s i. fragment_walk.piece_acts_of_item octets s i (acts.act_body i.body)) start before items
gathered_pieces octets start before [] = refl
gathered_pieces octets start before (item ∷ items) =
    let here = fragment_walk.piece_acts_of_item octets (acts.state_behind start before) item (acts.act_body item.body) in
    let rest = acts.gathered (λ s i. fragment_walk.piece_acts_of_item octets s i (acts.act_body i.body)) start (before ++ item ∷ []) items in
    ap (map hearing.with_piece) (map-append (λ (one : sample_acts.PieceAct). one.act) here rest) ∙ map-append hearing.with_piece (map (λ (one : sample_acts.PieceAct). one.act) here) (map (λ (one : sample_acts.PieceAct). one.act) rest)
    ∙ ap₂ ◌++◌ (item_pieces octets (acts.state_behind start before) item) (gathered_pieces octets start (before ++ item ∷ []) items)

datagram_pieces : (octets : List ℕ) → map hearing.with_piece (map (λ one. one.act) (fragment_walk.piece_acts_of octets)) ≡ fragment_walk.piece_acts_of octets
unfolding fragment_walk.piece_acts_of
datagram_pieces octets = by (reading.reading_of octets).header
  where
    by : (header : Option Header) → map hearing.with_piece (map (λ one. one.act) (fragment_walk.piece_acts_with octets header (reading.reading_of octets).items)) ≡ fragment_walk.piece_acts_with octets header (reading.reading_of octets).items
    by None = refl
    by (Some header) = gathered_pieces octets (acts.state_at_start header) [] (reading.reading_of octets).items

recording_pieces : (recording : List (List ℕ)) → map (map hearing.with_piece) (sample_acts.acts_sent (fragment_walk.sending_of recording)) ≡ fragment_walk.sending_of recording
recording_pieces [] = refl
recording_pieces (octets ∷ recording) = ap₂ ◌∷◌ (datagram_pieces octets) (recording_pieces recording)

pub sent_acts_are_heard : laws.SentActsAreHeard
sent_acts_are_heard reader recording = ap (sample_acts.told_to reader) (recording_pieces recording)

-- ---- the first datagrams

pub first_datagrams_are_heard_first : laws.FirstDatagramsAreHeardFirst
first_datagrams_are_heard_first reader None recording = refl
first_datagrams_are_heard_first reader (Some datagram) recording =
    ap (sample_acts.told_to reader) (sym (take-map (map hearing.with_piece) (datagram - 1) recording)) ∙ take_acts (sample_acts.samples_told reader) [] (datagram - 1) (map (map hearing.with_piece) recording)

first_sent : (until : Option ℕ) (recording : List (List ℕ)) → said.datagrams_until until (sample_acts.acts_sent (fragment_walk.sending_of recording)) ≡ sample_acts.acts_sent (fragment_walk.sending_of (said.datagrams_until until recording))
first_sent None recording = refl
first_sent (Some datagram) recording =
    take-map (map (λ (one : sample_acts.PieceAct). one.act)) (datagram - 1) (fragment_walk.sending_of recording) ∙ ap sample_acts.acts_sent (take-map fragment_walk.piece_acts_of (datagram - 1) recording)

pub first_datagrams_tell_the_same : laws.FirstDatagramsTellTheSame
first_datagrams_tell_the_same reader until recording = ap (hearing.heard_by reader) (first_sent until recording) ∙ sent_acts_are_heard reader (said.datagrams_until until recording)

-- ---- no fragments

acts_again : (ones : List receiver_values.ActValue) → map (λ one. one.act) (map hearing.with_piece ones) ≡ ones
acts_again [] = refl
acts_again (act ∷ ones) = ap (λ rest. act ∷ rest) (acts_again ones)

recording_again : (recording : List (List receiver_values.ActValue)) → map (map (λ one. one.act)) (map (map hearing.with_piece) recording) ≡ recording
recording_again [] = refl
recording_again (ones ∷ recording) = ap₂ ◌∷◌ (acts_again ones) (recording_again recording)

pub acts_are_heard_without_fragments : laws.ActsAreHeardWithoutFragments
acts_are_heard_without_fragments reader recording none = all_stay (sample_acts.samples_told reader) (λ before act. refl) [] (map (map hearing.with_piece) recording) no_pieces ∙ recording_again recording
  where
    no_pieces : laws.HasNoPieces (map (map hearing.with_piece) recording)
    no_pieces datagram one there among =
        let (ones, sent, same) = contains_mapped (map hearing.with_piece) recording datagram there in
        let (act, has, is) = contains_mapped hearing.with_piece ones one (subst (λ (ps : List sample_acts.PieceAct). Contains ps one) (sym same) among) in
        sym (ap (λ (p : sample_acts.PieceAct). p.piece) is) ∙ no_piece act.body (none ones act sent has)

pub skipped_fragments_are_not_sent : laws.SkippedFragmentsAreNotSent
unfolding acts.acts_of
skipped_fragments_are_not_sent recording datagram act there among =
    let (octets, sent, same) = contains_mapped (λ octets. acts.acts_of (reading.reading_of octets)) recording datagram there in
    by octets (reading.reading_of octets).header (subst (λ (ones : List receiver_values.ActValue). Contains ones act) (sym same) among)
  where
    item_acts : (state : State) (item : wire_values.ItemValue) (o : Option receiver_values.ActBodyValue) → acts.act_body item.body ≡ o → Contains (acts.acts_of_item state item o) act → hearing.sends_fragments act.body ≡ false
    item_acts state item None e has = absurd (contains_none act has)
    item_acts state item (Some body) e has = elim (contains_cases (acts.act_at state item.at item.order body) [] act has) [
      | inl same ↦ ap (λ (a : receiver_values.ActValue). hearing.sends_fragments a.body) (sym same) ∙ plain_body item.body body e
      | inr nothing ↦ absurd (contains_none act nothing)
    ]

    by : (octets : List ℕ) (header : Option Header) → Contains (acts.acts_with header (reading.reading_of octets).items) act → hearing.sends_fragments act.body ≡ false
    by octets None has = absurd (contains_none act has)
    by octets (Some header) has =
        let (state, item, here) = gathered_from (λ s i. acts.acts_of_item s i (acts.act_body i.body)) (acts.state_at_start header) [] (reading.reading_of octets).items act has in
        item_acts state item (acts.act_body item.body) refl here
