-- The DATA_FRAG that are counted of a recording with its samples: no more of a datagram than without.
use Rattle.std.proofs.Common.{◌≡◌, ℕ, ◌+◌, ◌≤◌, List, [], ◌∷◌, ◌++◌, map, Option, Some, None, refl, arith, rules}
use Rattle.std.specs.Prelude.{sum_by}
use Rattle.std.proofs.lemmas.Bool.Decides.{nat_tests}
use Rattle.std.proofs.lemmas.List.Elements.{All-weaker}
use Rattle.std.proofs.lemmas.List.Sums.{sum_by-append, sum_by-cons}
use Rattle.rtps_wire.proofs.Offered.{only_data_frags_have_fragments}
use Rattle.rtps_wire.specs.Reading as reading
use Rattle.rtps_wire.specs.Tally as tally
use Rattle.rtps_wire.specs.Values as values
use Rattle.rtps_wire.specs.declared.counts.Tally.{Tally}
use Rattle.rtps_wire.specs.declared.header.Header.{Header}
use Rattle.rtps_receiver.specs.Acts as acts
use Rattle.rtps_receiver.specs.declared.state.State.{State}
use Rattle.rtps_fragments.specs.Laws as laws
use Rattle.rtps_fragments.specs.RecordedSamples as recorded_samples
use Rattle.rtps_fragments.specs.SampleActs as sample_acts
use Rattle.rtps_fragments.specs.SamplesSent as samples_sent
use Rattle.rtps_fragments.specs.FragmentWalk as fragment_walk
use Rattle.rtps_fragments.proofs.FragmentWalkLemmas.{one_of, unusable-item}

-- ---- one item

unusable_is_fragment : (octets : List ℕ) (item : values.ItemValue) → fragment_walk.one_unusable octets item ≤ one_of (tally.is_fragment item.body)
unusable_is_fragment octets item = grind (arith, nat_tests)

module _ (all : List sample_acts.PieceAct) (octets : List ℕ) where
  item_at_most : (state : State) (item : values.ItemValue) → fragment_walk.one_unusable octets item + samples_sent.pieces_left all (fragment_walk.piece_acts_of_item octets state item (acts.act_body item.body)) ≤ one_of (tally.is_fragment item.body)
  item_at_most state item = grind (arith, nat_tests)

  items_at_most : (start : State) (before items : List values.ItemValue) → fragment_walk.unusable_among octets items + samples_sent.pieces_left all (acts.gathered (λ s i. fragment_walk.piece_acts_of_item octets s i (acts.act_body i.body)) start before items) ≤ tally.fragments_in items
  items_at_most start before [] = omega arith
  items_at_most start before (item ∷ items) =
      let here = fragment_walk.piece_acts_of_item octets (acts.state_behind start before) item (acts.act_body item.body) in
      let later = acts.gathered (λ s i. fragment_walk.piece_acts_of_item octets s i (acts.act_body i.body)) start (before ++ item ∷ []) items in
      let rest = items_at_most start (before ++ item ∷ []) items in
      let one = item_at_most (acts.state_behind start before) item in
      let unusable = unusable-item octets item items in
      let left : samples_sent.pieces_left all (here ++ later) ≡ samples_sent.pieces_left all here + samples_sent.pieces_left all later = sum_by-append (λ (other : sample_acts.PieceAct). one_of (samples_sent.is_left all other.act other.piece)) here later in
      let fragments : tally.fragments_in (item ∷ items) ≡ one_of (tally.is_fragment item.body) + tally.fragments_in items = sum_by-cons (λ (i : values.ItemValue). one_of (tally.is_fragment i.body)) item items in
      omega arith

  unusable_at_most : (items : List values.ItemValue) → fragment_walk.unusable_among octets items ≤ tally.fragments_in items
  unusable_at_most [] = omega arith
  unusable_at_most (item ∷ items) =
      let rest = unusable_at_most items in
      let one = unusable_is_fragment octets item in
      let unusable = unusable-item octets item items in
      let fragments : tally.fragments_in (item ∷ items) ≡ one_of (tally.is_fragment item.body) + tally.fragments_in items = sum_by-cons (λ (i : values.ItemValue). one_of (tally.is_fragment i.body)) item items in
      omega arith

pub no_more : laws.NoMoreFragmentsAreCounted
unfolding fragment_walk.piece_acts_of
no_more all octets = by (reading.reading_of octets).header
  where
    by : (header : Option Header) → fragment_walk.unusable_in octets + samples_sent.pieces_left all (fragment_walk.piece_acts_with octets header (reading.reading_of octets).items) ≤ tally.fragments_in (reading.reading_of octets).items
    by None = let unusable = unusable_at_most all octets (reading.reading_of octets).items in omega arith
    by (Some header) = items_at_most all octets (acts.state_at_start header) [] (reading.reading_of octets).items

-- ---- a recording

pub counted : laws.FragmentsAreCounted
counted recording = each (sample_acts.piece_acts_in (fragment_walk.sending_of recording)) recording
  where
    each : (all : List sample_acts.PieceAct) (datagrams : List (List ℕ)) → sum_by (λ tally. tally.fragments) (map (recorded_samples.tally_with all) datagrams) ≡ sum_by fragment_walk.unusable_in datagrams + samples_sent.pieces_left all (sample_acts.piece_acts_in (fragment_walk.sending_of datagrams))
    each all [] = refl
    each all (octets ∷ datagrams) =
        let rest = each all datagrams in
        let tallies = sum_by-cons (λ (t : Tally). t.fragments) (recorded_samples.tally_with all octets) (map (recorded_samples.tally_with all) datagrams) in
        let unusable = sum_by-cons fragment_walk.unusable_in octets datagrams in
        let left : samples_sent.pieces_left all (fragment_walk.piece_acts_of octets ++ sample_acts.piece_acts_in (fragment_walk.sending_of datagrams)) ≡ samples_sent.pieces_left all (fragment_walk.piece_acts_of octets) + samples_sent.pieces_left all (sample_acts.piece_acts_in (fragment_walk.sending_of datagrams)) =
        sum_by-append (λ (other : sample_acts.PieceAct). one_of (samples_sent.is_left all other.act other.piece)) (fragment_walk.piece_acts_of octets) (sample_acts.piece_acts_in (fragment_walk.sending_of datagrams)) in
        omega arith

pub only_data_frags : laws.OnlyDataFragsHaveFragments
only_data_frags datagram = search (rules, All-weaker, only_data_frags_have_fragments)
