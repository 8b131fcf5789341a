-- How many samples acts tell: no more than two each, and those of one act more.
use Rattle.std.proofs.lemmas.Bool.Decides.{nat_tests}
use Rattle.std.proofs.Common.{◌≡◌, ◌≤◌, ◌<◌, ◌+◌, ◌-◌, ◌∙◌, ℕ, zero, suc, Bool, true, false, cond, List, [], ◌∷◌, ◌++◌, Option, Some, None, ap, ap₂, append-nil, append_assoc, arith, drop, get_or, length, length-drop, map, refl, sym, take}
use Rattle.std.proofs.lemmas.List.{length-map, map-append, take_more}
use Rattle.std.specs.List.{filter_map, find}
use Rattle.rtps_ids.specs.declared.identity.Guid.{Guid}
use Rattle.rtps_receiver.specs.Speech as speech
use Rattle.rtps_receiver.specs.Values as receiver_values
use Rattle.rtps_wire.specs.DataFrag as data_frag
use Rattle.rtps_wire.specs.Values as wire_values
use Rattle.rtps_audit.specs.Placed as placed_spec
use Rattle.rtps_audit.specs.declared.placed.Placed.{Placed}
use Rattle.rtps_fragments.specs.FragmentDelivery as fragment_delivery
use Rattle.rtps_fragments.specs.Hearing as hearing
use Rattle.rtps_fragments.specs.SampleActs as sample_acts
use Rattle.rtps_fragments.specs.SampleCounts as sample_counts
use Rattle.rtps_fragments.specs.Samples as samples

-- ---- an act tells two samples at most

few_samples : (parts : Option (List (List ℕ))) (other : Option (ℕ × List ℕ)) → length (samples.samples_by parts other) ≤ 2
few_samples None other = omega arith
few_samples (Some parts) None = omega arith
few_samples (Some parts) (Some other) = omega arith

few_told : (before : List fragment_delivery.Fragment) (piece : fragment_delivery.Piece) → length (samples.told_by before piece) ≤ 2
few_told before piece =
    let all = before ++ fragment_delivery.fragments_of piece in
    let last = data_frag.last_fragment piece.shape in
    let came = filter_map (samples.came_of piece.number piece.shape) all in
    let least = length-drop (length (samples.payloads_of piece.number piece.shape before)) (samples.payloads_of piece.number piece.shape all) in
    let long = length-map (samples.samples_of last came) (fragment_delivery.payload_by piece.shape) in
    omega (arith, least, long, few_samples (samples.firsts_of came last) (find (samples.is_other came) came))

few_acts : (reader : Guid) (before : List sample_acts.PieceAct) (act : receiver_values.ActValue) (piece : Option fragment_delivery.Piece) → length (sample_acts.samples_told reader before act piece) ≤ 2
few_acts reader before act None = omega arith
few_acts reader before act (Some piece) = by (speech.is_heard_by act reader)
  where
    told : List wire_values.PayloadValue
    told = samples.told_by (sample_acts.heard_from (speech.origin_of act) reader before) piece

    by : (b : Bool) → length (cond b (map (sample_acts.sample_act reader act piece.number) told) []) ≤ 2
    by true = let long = length-map told (sample_acts.sample_act reader act piece.number) in omega (arith, long, few_told (sample_acts.heard_from (speech.origin_of act) reader before) piece)
    by false = omega arith

pub few_at : (reader : Guid) (before : List placed_spec.PlacedValue) (one : placed_spec.PlacedValue) → sample_counts.samples_at reader before one ≤ 2
few_at reader before one = few_acts reader (sample_counts.with_pieces before) one.act (hearing.piece_in one.act.body)

-- so many acts in one datagram as acts
pub placed_length : (datagram : ℕ) (acts : List receiver_values.ActValue) → length (placed_spec.placed_at datagram acts) ≡ length acts
placed_length datagram acts = length-map acts (λ (act : receiver_values.ActValue). (let one : placed_spec.PlacedValue = record { datagram = datagram; act = act } in one))

-- the pieces of one act more
pub pieces_more : (before : List placed_spec.PlacedValue) (one : placed_spec.PlacedValue) → sample_counts.with_pieces (before ++ one ∷ []) ≡ sample_counts.with_pieces before ++ hearing.with_piece one.act ∷ []
pieces_more before one = map-append (λ (other : placed_spec.PlacedValue). hearing.with_piece other.act) before (one ∷ [])

-- ---- one act more

pub counts_more : (count : List placed_spec.PlacedValue → placed_spec.PlacedValue → ℕ) (before acts : List placed_spec.PlacedValue) (one : placed_spec.PlacedValue)
    → sample_counts.counts_behind count before (acts ++ one ∷ []) ≡ sample_counts.counts_behind count before acts ++ count (before ++ acts) one ∷ []
counts_more count before [] one = ap (λ b. count b one ∷ []) (sym (append-nil before))
counts_more count before (act ∷ acts) one =
    ap (λ l. count before act ∷ l) (counts_more count (before ++ act ∷ []) acts one)
    ∙ ap (λ b. count before act ∷ (sample_counts.counts_behind count (before ++ act ∷ []) acts ++ count b one ∷ [])) (append_assoc before (act ∷ []) acts)

-- acts as values, one more
pub values_more : (acts : List Placed) (i : ℕ) (x : Placed) → i < length acts → x ≡ get_or acts i x → map placed_spec.placed_value (take (i + 1) acts) ≡ map placed_spec.placed_value (take i acts) ++ placed_spec.placed_value x ∷ []
values_more acts i x lt at =
    ap (λ (l : List Placed). map placed_spec.placed_value l) (take_more acts i x lt ∙ ap (λ (y : Placed). take i acts ++ y ∷ []) (sym at)) ∙ map-append placed_spec.placed_value (take i acts) (x ∷ [])

-- counted of acts for everyone is counted of one who hears everything
for_all : (before acts : List placed_spec.PlacedValue)
    → sample_counts.counts_behind (sample_counts.samples_at hearing.nobody) (map hearing.for_everyone before) (map hearing.for_everyone acts) ≡ sample_counts.counts_behind sample_counts.overheard_at before acts
for_all before [] = refl
for_all before (one ∷ acts) =
    ap (λ b. sample_counts.overheard_at before one ∷ sample_counts.counts_behind (sample_counts.samples_at hearing.nobody) b (map hearing.for_everyone acts)) (sym (map-append hearing.for_everyone before (one ∷ [])))
    ∙ ap (λ l. sample_counts.overheard_at before one ∷ l) (for_all (before ++ one ∷ []) acts)

pub overheard_counts : (acts : List placed_spec.PlacedValue)
    → sample_counts.counts_behind (sample_counts.samples_at hearing.nobody) [] (map hearing.for_everyone acts) ≡ sample_counts.counts_behind sample_counts.overheard_at [] acts
overheard_counts acts = for_all [] acts

-- the count of the act at a place
counts_from : (count : List placed_spec.PlacedValue → placed_spec.PlacedValue → ℕ) (before acts : List placed_spec.PlacedValue) (at : ℕ) (one : placed_spec.PlacedValue) → at < length acts → one ≡ get_or acts at one
    → get_or (sample_counts.counts_behind count before acts) at 0 ≡ count (before ++ take at acts) one
counts_from count before [] at one lt is = absurd (omega (arith, lt))
counts_from count before (act ∷ acts) zero one lt is = ap₂ count (sym (append-nil before)) (sym is)
counts_from count before (act ∷ acts) (suc at) one lt is =
    counts_from count (before ++ act ∷ []) acts at one (omega (arith, lt)) is ∙ ap (λ b. count b one) (append_assoc before (act ∷ []) (take at acts))

pub counts_at : (count : List placed_spec.PlacedValue → placed_spec.PlacedValue → ℕ) (acts : List placed_spec.PlacedValue) (at : ℕ) (one : placed_spec.PlacedValue) → at < length acts → one ≡ get_or acts at one
    → get_or (sample_counts.counts_behind count [] acts) at 0 ≡ count (take at acts) one
counts_at count acts at one lt is = counts_from count [] acts at one lt is

-- ---- acts without fragments tell nothing

no_piece : (body : receiver_values.ActBodyValue) → hearing.sends_fragments body ≡ false → hearing.piece_in body ≡ None
no_piece body none = grind (arith, nat_tests)

as_sent : (act : receiver_values.ActValue) (body : receiver_values.ActBodyValue) → hearing.sends_fragments body ≡ false → hearing.sent_to_everyone act body ≡ act
as_sent act (receiver_values.ActBodyValue.DataFrag value) none = ap (λ b. cond b (hearing.to_everyone act value) act) none
as_sent act (receiver_values.ActBodyValue.Data value) none = refl
as_sent act (receiver_values.ActBodyValue.Heartbeat value) none = refl
as_sent act (receiver_values.ActBodyValue.AckNack value) none = refl
as_sent act (receiver_values.ActBodyValue.Gap value) none = refl
as_sent act (receiver_values.ActBodyValue.NackFrag value) none = refl

pub no_samples : (reader : Guid) (before : List placed_spec.PlacedValue) (one : placed_spec.PlacedValue) → hearing.sends_fragments one.act.body ≡ false → sample_counts.samples_at reader before one ≡ 0
no_samples reader before one none = ap (λ p. length (sample_acts.samples_told reader (sample_counts.with_pieces before) one.act p)) (no_piece one.act.body none)

pub none_overheard : (before : List placed_spec.PlacedValue) (one : placed_spec.PlacedValue) → hearing.sends_fragments one.act.body ≡ false → sample_counts.overheard_at before one ≡ 0
none_overheard before one none =
    ap (λ act. sample_counts.samples_at hearing.nobody (map hearing.for_everyone before) (let other : placed_spec.PlacedValue = record { datagram = one.datagram; act = act } in other)) (as_sent one.act one.act.body none)
    ∙ no_samples hearing.nobody (map hearing.for_everyone before) one none
