-- The acts of a datagram, each with the fragments that it sends, and what is counted of it. DDSI-RTPS 2.5, 8.3.4 "The RTPS Message Receiver", 8.3.8.3 "DataFrag" and
-- 8.3.8.12 "NackFrag". own: a DATA_FRAG that has no fragments that can be used is no act, and neither is a NACK_FRAG that cannot be read.
use Rattle.std.specs.Prelude.{ℕ, Bool, false, ◌≡◌, ◌+◌, ◌<◌, ◌^◌, ◌&&◌, if◌then◌else◌, All, List, [], ◌∷◌, ◌++◌, count_by, flat_map, is_none, length, map, Option, Some, None}
use Rattle.rtps_wire.specs.DataFrag as data_frag
use Rattle.rtps_wire.specs.FragmentItem as fragment_item
use Rattle.rtps_wire.specs.Reading as reading
use Rattle.rtps_wire.specs.Tally as tally
use Rattle.rtps_wire.specs.Values as wire_values
use Rattle.rtps_wire.specs.declared.counts.Tally.{Tally}
use Rattle.rtps_wire.specs.declared.header.Header.{Header}
use Rattle.rtps_wire.specs.declared.nack_frag.NackFrag.{NackFrag as NackFragBody}
use Rattle.rtps_receiver.specs.Acts as acts
use Rattle.rtps_receiver.specs.Values as receiver_values
use Rattle.rtps_receiver.specs.declared.state.State.{State}
use Rattle.rtps_fragments.specs.FragmentDelivery as fragment_delivery
use Rattle.rtps_fragments.specs.Merging as merging
use Rattle.rtps_fragments.specs.SampleActs as sample_acts
use Rattle.rtps_fragments.specs.ToldSamples as told_samples
use Rattle.rtps_fragments.specs.declared.fragment_walk.FragmentWalk.{FragmentWalk}

-- the fragments of a DATA_FRAG, as a piece of their sample
abbrev pub piece_of : data_frag.DataFragValue → fragment_delivery.Piece
piece_of value = record { number = value.number; shape = value.shape; first = value.first; parts = data_frag.parts_of value }

-- what a DATA_FRAG with these fragments says
abbrev pub fragment_of : data_frag.DataFragValue → receiver_values.FragmentValue
fragment_of value =
    record {
      reader = value.reader;
      writer = value.writer;
      number = value.number;
      sent = Some (record { first = value.first; shape = value.shape; octets = value.octets });
      told = None;
    }

-- the act that an item is: a DATA_FRAG, if it has fragments, or a NACK_FRAG, if it asks for some
abbrev pub skipped_acts : State → wire_values.ItemValue → Option data_frag.DataFragValue → Option NackFragBody → List sample_acts.PieceAct
skipped_acts state item (Some value) asks =
    record {
      act = acts.act_at state item.at item.order (receiver_values.ActBodyValue.DataFrag (fragment_of value));
      piece = Some (piece_of value);
    } ∷ []
skipped_acts state item None (Some asks) = record { act = acts.act_at state item.at item.order (receiver_values.ActBodyValue.NackFrag asks); piece = None } ∷ []
skipped_acts state item None None = []

-- the item of these octets is a DATA_FRAG, and has no fragments that can be used
abbrev pub is_unusable : List ℕ → wire_values.ItemValue → Bool
is_unusable octets item = fragment_item.is_skipped_data_frag item.body && is_none (fragment_item.fragments_at octets item)

-- 1 for such an item, and 0 for another
abbrev pub one_unusable : List ℕ → wire_values.ItemValue → ℕ
one_unusable octets item = if is_unusable octets item then 1 else 0

-- how many of these items are such
abbrev pub unusable_among : List ℕ → List wire_values.ItemValue → ℕ
unusable_among octets items = count_by (is_unusable octets) items

-- how many of a datagram of these octets are such
abbrev pub unusable_in : List ℕ → ℕ
unusable_in octets = unusable_among octets (reading.reading_of octets).items

-- the act that an item of these octets is, if it is one
abbrev pub piece_acts_of_item : List ℕ → State → wire_values.ItemValue → Option receiver_values.ActBodyValue → List sample_acts.PieceAct
piece_acts_of_item octets state item (Some body) = record { act = acts.act_at state item.at item.order body; piece = None } ∷ []
piece_acts_of_item octets state item None = skipped_acts state item (fragment_item.fragments_at octets item) (fragment_item.asks_at octets item)

-- the acts among items of these octets, each in the state after all items before it
abbrev pub piece_acts_behind : List ℕ → State → List wire_values.ItemValue → List sample_acts.PieceAct
piece_acts_behind octets start items = acts.gathered (λ state item. piece_acts_of_item octets state item (acts.act_body item.body)) start [] items

-- the acts of a reading of these octets; one without a header has none
abbrev pub piece_acts_with : List ℕ → Option Header → List wire_values.ItemValue → List sample_acts.PieceAct
piece_acts_with octets None items = []
piece_acts_with octets (Some header) items = piece_acts_behind octets (acts.state_at_start header) items

-- the acts of a datagram of these octets
unfoldable pub piece_acts_of : List ℕ → List sample_acts.PieceAct
piece_acts_of octets = piece_acts_with octets (reading.reading_of octets).header (reading.reading_of octets).items

-- the acts of a recording's datagrams, those of fragments among them
abbrev pub all_acts_in : List (List ℕ) → List receiver_values.ActValue
all_acts_in recording = flat_map (λ octets. map (λ one. one.act) (piece_acts_of octets)) recording

-- the acts of each datagram of a recording, which is the octets of its datagrams in the order of sending
abbrev pub sending_of : List (List ℕ) → List (List sample_acts.PieceAct)
sending_of recording = map piece_acts_of recording

-- these acts are kept, with what they send and how many DATA_FRAG are no act
pub record IsFragmentWalk (ones : List sample_acts.PieceAct) (count : ℕ) (walk : FragmentWalk) : Type 0 where
  pub acts : map receiver_values.spoken_value walk.acts.items ≡ map (λ one. one.act) ones
  pub sents : map told_samples.sent_value walk.sents.items ≡ merging.sents_from 0 ones
  pub well : All told_samples.IsSent walk.sents.items
  pub unusable : walk.unusable ≡ count
  pub few : walk.unusable + length walk.sents.items < 2 ^ 64

-- what is kept grew by these acts, with what they send, and by so many DATA_FRAG that are no act
pub record AddsActs (old new : FragmentWalk) (ones : List sample_acts.PieceAct) (count : ℕ) : Type 0 where
  pub acts : map receiver_values.spoken_value new.acts.items ≡ map receiver_values.spoken_value old.acts.items ++ map (λ one. one.act) ones
  pub sents : map told_samples.sent_value new.sents.items ≡ map told_samples.sent_value old.sents.items ++ merging.sents_from (length old.acts.items) ones
  pub well : All told_samples.IsSent old.sents.items → All told_samples.IsSent new.sents.items
  pub unusable : new.unusable ≡ old.unusable + count

-- nothing is counted of a datagram
abbrev pub no_tally : Tally
no_tally = record { refused = false; skipped = 0; fragments = 0 }

-- what is counted of a datagram grew by an item with this body
pub record CountsItem (old new : Tally) (body : wire_values.BodyValue) : Type 0 where
  pub refused : new.refused ≡ old.refused
  pub skipped : new.skipped ≡ old.skipped + (if tally.is_skipped body then 1 else 0)
  pub fragments : new.fragments ≡ old.fragments + (if tally.is_fragment body then 1 else 0)
