-- What one reader hears of acts as they are sent: each act, and behind it the samples that it tells this reader. DDSI-RTPS 2.5, 8.3.8.3
-- "DataFrag". own: an act has its fragments itself, so what a reader hears is found of the acts alone, for any reader.
use Rattle.std.specs.Prelude.{ℕ, Bool, false, ◌≡◌, ◌&&◌, if◌then◌else◌, nat_le, is_some, List, [], ◌∷◌, ◌++◌, length, map, Option, Some, None}
use Rattle.std.specs.Int.{div_ceil}
use Rattle.std.specs.List.{filter_map, list_any}
use Rattle.rtps_ids.specs.declared.identity.Guid.{Guid}
use Rattle.rtps_wire.specs.DataFrag as data_frag
use Rattle.rtps_receiver.specs.Speech as speech
use Rattle.rtps_receiver.specs.Values as receiver_values
use Rattle.rtps_audit.specs.Placed as placed
use Rattle.rtps_fragments.specs.FragmentDelivery as fragment_delivery
use Rattle.rtps_fragments.specs.Making as making
use Rattle.rtps_fragments.specs.SampleActs as sample_acts
use Rattle.rtps_fragments.specs.Samples as samples
use Rattle.rtps_fragments.specs.ToldSamples as told_samples
use Rattle.rtps_fragments.specs.declared.hearing.Hearing.{Hearing}
use Rattle.rtps_fragments.specs.declared.making.Makings.{Makings}
use Rattle.rtps_fragments.specs.declared.piece.SampleKey.{SampleKey}

-- ---- the piece of an act

-- The fragments can be of a sample: it has octets, and so has a fragment; fragments count from 1.
abbrev pub is_part : receiver_values.SentPartValue → Bool
is_part part = nat_le 1 part.first && (nat_le 1 part.shape.fragment && nat_le 1 part.shape.sample)

-- The fragments that a DATA_FRAG of this number sends, as a piece of their sample. Each has the size of a fragment, but the last one may be
-- shorter.
abbrev pub piece_sent : ℕ → Option receiver_values.SentPartValue → Option fragment_delivery.Piece
piece_sent n None = None
piece_sent n (Some part) =
    if is_part part
    then Some (record { number = n; shape = part.shape; first = part.first; parts = data_frag.parts_in part.shape.fragment (div_ceil (length part.octets) part.shape.fragment) part.octets })
    else None

-- the piece that an act sends, if it sends one
abbrev pub piece_in : receiver_values.ActBodyValue → Option fragment_delivery.Piece
piece_in (receiver_values.ActBodyValue.DataFrag value) = piece_sent value.number value.sent
piece_in (receiver_values.ActBodyValue.Data value) = None
piece_in (receiver_values.ActBodyValue.Heartbeat value) = None
piece_in (receiver_values.ActBodyValue.AckNack value) = None
piece_in (receiver_values.ActBodyValue.Gap value) = None
piece_in (receiver_values.ActBodyValue.NackFrag value) = None

-- an act with it
abbrev pub with_piece : receiver_values.ActValue → sample_acts.PieceAct
with_piece act = record { act = act; piece = piece_in act.body }

-- it sends fragments
abbrev pub sends_fragments : receiver_values.ActBodyValue → Bool
sends_fragments (receiver_values.ActBodyValue.DataFrag value) = is_some value.sent
sends_fragments (receiver_values.ActBodyValue.Data value) = false
sends_fragments (receiver_values.ActBodyValue.Heartbeat value) = false
sends_fragments (receiver_values.ActBodyValue.AckNack value) = false
sends_fragments (receiver_values.ActBodyValue.Gap value) = false
sends_fragments (receiver_values.ActBodyValue.NackFrag value) = false

-- some of these acts does
abbrev pub have_fragments : List placed.PlacedValue → Bool
have_fragments acts = list_any (λ at. sends_fragments at.act.body) acts

-- ---- what a reader hears

-- the acts of a recording, and behind each the samples that it tells this reader
abbrev pub heard_by : Guid → List (List receiver_values.ActValue) → List (List receiver_values.ActValue)
heard_by reader recording = sample_acts.told_to reader (map (map with_piece) recording)

-- acts in their places, and behind each the samples that it tells this reader, where these came before
abbrev pub heard_behind : Guid → List sample_acts.PieceAct → List placed.PlacedValue → List placed.PlacedValue
heard_behind reader before [] = []
heard_behind reader before (one ∷ acts) =
    one ∷ (placed.placed_at one.datagram (sample_acts.samples_told reader before one.act (piece_in one.act.body)) ++ heard_behind reader (before ++ with_piece one.act ∷ []) acts)

-- where none came before
abbrev pub heard_of : Guid → List placed.PlacedValue → List placed.PlacedValue
heard_of reader acts = heard_behind reader [] acts

-- an act that sends fragments as one for everyone
abbrev pub to_everyone : receiver_values.ActValue → receiver_values.FragmentValue → receiver_values.ActValue
to_everyone act value = record act { dest = None; body = receiver_values.ActBodyValue.DataFrag (record value { reader = speech.unknown_entity }) }

-- the act, if it sends some; any other act as it is
abbrev pub sent_to_everyone : receiver_values.ActValue → receiver_values.ActBodyValue → receiver_values.ActValue
sent_to_everyone act (receiver_values.ActBodyValue.DataFrag value) = if is_some value.sent then to_everyone act value else act
sent_to_everyone act (receiver_values.ActBodyValue.Data value) = act
sent_to_everyone act (receiver_values.ActBodyValue.Heartbeat value) = act
sent_to_everyone act (receiver_values.ActBodyValue.AckNack value) = act
sent_to_everyone act (receiver_values.ActBodyValue.Gap value) = act
sent_to_everyone act (receiver_values.ActBodyValue.NackFrag value) = act

-- the same in its place
abbrev pub for_everyone : placed.PlacedValue → placed.PlacedValue
for_everyone one = record { datagram = one.datagram; act = sent_to_everyone one.act one.act.body }

-- the GUID of nobody
abbrev pub nobody : Guid
nobody = record { prefix = record { 0 = 0 ∷ 0 ∷ 0 ∷ 0 ∷ 0 ∷ 0 ∷ 0 ∷ 0 ∷ 0 ∷ 0 ∷ 0 ∷ 0 ∷ [] }; entity = speech.unknown_entity }

-- acts in their places as one hears them who hears the fragments for everyone: behind each act the samples that it tells whoever hears all
abbrev pub overheard_of : List placed.PlacedValue → List placed.PlacedValue
overheard_of acts = heard_of nobody (map for_everyone acts)

-- what comes to the reader of each sample by these acts
abbrev pub came_to : Guid → List sample_acts.PieceAct → SampleKey → List (ℕ × List ℕ)
came_to reader acts key = filter_map (samples.came_of key.number (told_samples.shape_of key)) (sample_acts.heard_from key.writer reader acts)

-- it is kept
abbrev pub HaveCome : Guid → List sample_acts.PieceAct → Makings → Type 0
HaveCome reader acts makings = making.AreMakings (came_to reader acts) makings

-- This is what the reader hears of these acts in their places.
pub record IsHearing (reader : Guid) (sent : List placed.PlacedValue) (hearing : Hearing) : Type 0 where
  pub own : hearing.reader ≡ reader
  pub makings : HaveCome reader (map (λ one. with_piece one.act) sent) hearing.makings
  pub acts : map placed.placed_value hearing.acts.items ≡ heard_of reader sent
