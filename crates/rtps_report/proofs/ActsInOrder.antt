-- The acts of a recording, with fragments and the samples that they tell a reader, are in the order of their places.
use Rattle.std.proofs.Common.{◌≡◌, ◌∙◌, ℕ, ◌+◌, ◌<◌, ◌≤◌, ◌==◌, ◌&&◌, ◌||◌, Bool, true, false, cond, nat_lt, map, List, [], ◌∷◌, ◌++◌, Option, Some, None, refl, sym, arith}
use Rattle.std.proofs.lemmas.Bool.Decides.{nat_tests}
use Rattle.rtps_ids.specs.declared.identity.Guid.{Guid}
use Rattle.rtps_wire.specs.DataFrag as data_frag
use Rattle.rtps_wire.specs.FragmentItem as fragment_item
use Rattle.rtps_wire.specs.Header as header
use Rattle.rtps_wire.specs.Reading as reading
use Rattle.rtps_wire.specs.Values as wire_values
use Rattle.rtps_wire.specs.declared.fault.WireFault.{WireFault}
use Rattle.rtps_wire.specs.declared.nack_frag.NackFrag.{NackFrag as NackFragBody}
use Rattle.rtps_receiver.specs.Acts as acts
use Rattle.rtps_receiver.specs.Speech as receiver_speech
use Rattle.rtps_receiver.specs.Values as receiver_values
use Rattle.rtps_receiver.specs.declared.state.State.{State}
use Rattle.rtps_audit.specs.Placed as placed
use Rattle.rtps_audit.specs.Said as said
use Rattle.rtps_evidence.specs.UnansweredLaw as unanswered_law
use Rattle.rtps_evidence.proofs.Offered.{After, Each, From, Rise, behind_next, item_places, items_rise, later_next, order_from, rise_later}
use Rattle.rtps_fragments.specs.FragmentDelivery as fragment_delivery
use Rattle.rtps_fragments.specs.FragmentWalk as fragment_walk
use Rattle.rtps_fragments.specs.SampleActs as sample_acts
use Rattle.rtps_fragments.specs.Samples as samples
use Rattle.rtps_report.specs.Laws as laws
use Rattle.rtps_fragments.specs.declared.fragments.Fragments.{Fragments}

-- ---- the acts of a datagram

-- what has a piece is a DATA_FRAG
abbrev IsPiece : Option fragment_delivery.Piece → receiver_values.ActBodyValue → Type 0
IsPiece None body = Unit {0}
IsPiece (Some piece) body = unanswered_law.is_data_frag body ≡ true

-- each of these acts stands behind the one before it, the first not below a place
abbrev Steps : ℕ → List sample_acts.PieceAct → Type 0
Steps low [] = Unit {0}
Steps low (one ∷ ones) = (low ≤ one.act.at) × IsPiece one.piece one.act.body × Steps (one.act.at + 1) ones

steps_later : (low high : ℕ) (ones : List sample_acts.PieceAct) → low ≤ high → Steps high ones → Steps low ones
steps_later low high [] le steps = tt
steps_later low high (one ∷ ones) le (first, piece, rest) = (omega arith, piece, rest)

skipped_step : (state : State) (item : wire_values.ItemValue) (low : ℕ) (more : List sample_acts.PieceAct) → low ≤ item.at → Steps (item.at + 1) more → (value : Option data_frag.DataFragValue) (asks : Option NackFragBody)
    → Steps low (fragment_walk.skipped_acts state item value asks ++ more)
skipped_step state item low more first rest (Some value) asks = (first, refl, rest)
skipped_step state item low more first rest None (Some asks) = (first, tt, rest)
skipped_step state item low more first rest None None = steps_later low (item.at + 1) more (omega arith) rest

item_step : (octets : List ℕ) (state : State) (item : wire_values.ItemValue) (low : ℕ) (more : List sample_acts.PieceAct) → low ≤ item.at → Steps (item.at + 1) more → (body : Option receiver_values.ActBodyValue)
    → Steps low (fragment_walk.piece_acts_of_item octets state item body ++ more)
item_step octets state item low more first rest (Some body) = (first, tt, rest)
item_step octets state item low more first rest None = skipped_step state item low more first rest (fragment_item.fragments_at octets item) (fragment_item.asks_at octets item)

items_step : (octets : List ℕ) (start : State) (before items : List wire_values.ItemValue) (low : ℕ) → Rise low (item_places items)
    → Steps low (acts.gathered (λ state item. fragment_walk.piece_acts_of_item octets state item (acts.act_body item.body)) start before items)
items_step octets start before [] low rise = tt
items_step octets start before (item ∷ items) low (first, rest) =
    item_step octets (acts.state_behind start before) item low _ first (items_step octets start (before ++ item ∷ []) items (item.at + 1) rest) (acts.act_body item.body)

read_from : (octets : List ℕ) (start : State) (rest : List ℕ) (at : ℕ)
    → Steps 0 (acts.gathered (λ state item. fragment_walk.piece_acts_of_item octets state item (acts.act_body item.body)) start [] (reading.items_among (reading.outcomes rest at)))
read_from octets start rest at =
    items_step octets start [] (reading.items_among (reading.outcomes rest at)) 0 (rise_later 0 at (item_places (reading.items_among (reading.outcomes rest at))) (omega arith) (items_rise rest at))

read_step : (fault : Option WireFault) (octets : List ℕ) → Steps 0 (fragment_walk.piece_acts_with octets (reading.reading_with fault octets).header (reading.reading_with fault octets).items)
read_step (Some fault) octets = tt
read_step None octets = read_from octets _ _ _

datagram_step : (octets : List ℕ) → Steps 0 (fragment_walk.piece_acts_of octets)
unfolding fragment_walk.piece_acts_of reading.reading_of
datagram_step octets = read_step (header.header_fault octets) octets

each_step : (recording : List (List ℕ)) → Each (λ (ones : List sample_acts.PieceAct). Steps 0 ones) (fragment_walk.sending_of recording)
each_step [] = tt
each_step (octets ∷ recording) = (datagram_step octets, each_step recording)

-- ---- with the samples that they tell

same_next : (one other : placed.PlacedValue) → one.datagram ≡ other.datagram → one.act.at ≡ other.act.at → unanswered_law.is_data_frag one.act.body ≡ true → unanswered_law.is_data_frag other.act.body ≡ true
    → unanswered_law.stands_next one other ≡ true
same_next one other datagram at is also = grind (arith, nat_tests)

module _ (reader : Guid) where
  -- what stands behind a DATA_FRAG and the samples that it tells stands behind the last of them
  told_from : (d : ℕ) (act : receiver_values.ActValue) (n : ℕ) (payloads : List wire_values.PayloadValue) (x : placed.PlacedValue) (acts : List receiver_values.ActValue) (behind : List placed.PlacedValue)
      → x.datagram ≡ d → x.act.at ≡ act.at → unanswered_law.is_data_frag x.act.body ≡ true
      → ((last : placed.PlacedValue) → last.datagram ≡ d → last.act.at ≡ act.at → From (Some last) (placed.placed_at d acts ++ behind))
      → From (Some x) (placed.placed_at d (map (sample_acts.sample_act reader act n) payloads ++ acts) ++ behind)
  told_from d act n [] x acts behind datagram at is rest = rest x datagram at
  told_from d act n (payload ∷ payloads) x acts behind datagram at is rest =
      let y : placed.PlacedValue = record { datagram = d; act = sample_acts.sample_act reader act n payload } in
      (same_next x y datagram at is refl, told_from d act n payloads y acts behind refl refl refl rest)

  -- what stands behind an act stands behind the samples that it tells
  told_behind : (d : ℕ) (before : List sample_acts.PieceAct) (a : sample_acts.PieceAct) (others : List receiver_values.ActValue) (behind : List placed.PlacedValue)
      → ((last : placed.PlacedValue) → last.datagram ≡ d → last.act.at ≡ a.act.at → From (Some last) (placed.placed_at d others ++ behind)) → (found : Option fragment_delivery.Piece) → IsPiece found a.act.body
      → From (Some (record { datagram = d; act = a.act })) (placed.placed_at d (sample_acts.samples_told reader before a.act found ++ others) ++ behind)
  told_behind d before a others behind more None is = more (record { datagram = d; act = a.act }) refl refl
  told_behind d before a others behind more (Some found) is = by (receiver_speech.is_heard_by a.act reader)
    where
      payloads : List wire_values.PayloadValue
      payloads = samples.told_by (sample_acts.heard_from (receiver_speech.origin_of a.act) reader before) found

      by : (b : Bool) → From (Some (record { datagram = d; act = a.act })) (placed.placed_at d (cond b (map (sample_acts.sample_act reader a.act found.number) payloads) [] ++ others) ++ behind)
      by true = told_from d a.act found.number payloads (record { datagram = d; act = a.act }) others behind refl refl is more
      by false = more (record { datagram = d; act = a.act }) refl refl

  datagram_from : (d : ℕ) (before ones : List sample_acts.PieceAct) (low : ℕ) (one : Option placed.PlacedValue) (behind : List placed.PlacedValue) → Steps low ones
      → ((y : placed.PlacedValue) → y.datagram ≡ d → low ≤ y.act.at → After one y) → ((y : placed.PlacedValue) → d < y.datagram → After one y)
      → ((other : Option placed.PlacedValue) → ((y : placed.PlacedValue) → d < y.datagram → After other y) → From other behind)
      → From one (placed.placed_at d (sample_acts.acts_and (sample_acts.samples_told reader) before ones) ++ behind)
  datagram_from d before [] low one behind steps here past rest = rest one past
  datagram_from d before (a ∷ ones) low one behind (first, piece, steps) here past rest = (
    here (record { datagram = d; act = a.act }) refl first,
    told_behind d before a (sample_acts.acts_and (sample_acts.samples_told reader) (before ++ a ∷ []) ones) behind
        (λ last datagram at. datagram_from d (before ++ a ∷ []) ones (a.act.at + 1) (Some last) behind steps (λ y same le. behind_next last y (datagram ∙ sym same) (omega arith))
        (λ y lt. later_next last y (omega arith)) rest)
        a.piece piece,
  )

  recording_from : (count : ℕ) (before : List sample_acts.PieceAct) (recording : List (List sample_acts.PieceAct)) (one : Option placed.PlacedValue) → Each (λ (ones : List sample_acts.PieceAct). Steps 0 ones) recording
      → ((y : placed.PlacedValue) → count < y.datagram → After one y) → From one (placed.placed_behind count (sample_acts.datagrams_and (sample_acts.samples_told reader) before recording))
  recording_from count before [] one steps past = tt
  recording_from count before (ones ∷ recording) one (first, rest) past =
      datagram_from (count + 1) before ones 0 one (placed.placed_behind (count + 1) (sample_acts.datagrams_and (sample_acts.samples_told reader) (before ++ ones) recording)) first (λ y same le. past y (omega arith))
      (λ y lt. past y (omega arith)) (λ other later. recording_from (count + 1) (before ++ ones) recording other rest later)

  heard_in_order : (recording : List (List ℕ)) → unanswered_law.AreInOrder (placed.placed_in (sample_acts.told_to reader (fragment_walk.sending_of recording)))
  heard_in_order recording =
      order_from None (placed.placed_in (sample_acts.told_to reader (fragment_walk.sending_of recording))) (recording_from 0 [] (fragment_walk.sending_of recording) None (each_step recording) (λ y lt. tt))

-- ---- the acts that are read

pub acts_in_order : unanswered_law.RecordingsAreInOrder → (fragments : Fragments) (reader : Guid) (until : Option ℕ) (recording : List (List ℕ)) → unanswered_law.AreInOrder (placed.placed_in (laws.first_acts fragments reader until recording))
acts_in_order plain Fragments.Skipped reader until recording = plain None (said.datagrams_until until recording)
acts_in_order plain Fragments.Read reader until recording = heard_in_order reader (said.datagrams_until until recording)
