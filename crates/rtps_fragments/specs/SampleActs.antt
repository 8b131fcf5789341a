-- The samples of a recording, told as acts to one reader. DDSI-RTPS 2.5, 8.3.4 "The RTPS Message Receiver" and 8.3.8.3 "DataFrag". own: the
-- fragments of one sample may be for several audiences, and a reader hears those that are for it; so what is told is said of one reader, by
-- the fragments that it hears. A sample stands behind the act that completes it.
use Rattle.std.specs.Prelude.{ℕ, Bool, false, ◌&&◌, if◌then◌else◌, List, [], ◌∷◌, ◌++◌, filter, map, Option, Some, None}
use Rattle.std.specs.List.{filter_map, flat_map}
use Rattle.rtps_ids.specs.declared.identity.Guid.{Guid}
use Rattle.rtps_wire.specs.Values as wire_values
use Rattle.rtps_receiver.specs.Speech as receiver_speech
use Rattle.rtps_receiver.specs.Values as receiver_values
use Rattle.rtps_audit.specs.Speech as audit_speech
use Rattle.rtps_fragments.specs.FragmentDelivery as fragment_delivery
use Rattle.rtps_wire.specs.declared.data_frag.Shape.{Shape}
use Rattle.rtps_fragments.specs.Samples as samples

-- an act with its piece, where it is a DATA_FRAG that is one
pub record PieceAct : Type 0 where
  pub act : receiver_values.ActValue
  pub piece : Option fragment_delivery.Piece

-- the acts of all datagrams of a recording
abbrev pub piece_acts_in : List (List PieceAct) → List PieceAct
piece_acts_in recording = flat_map (λ datagram. datagram) recording

-- ---- what a recording says of a writer and a reader

-- the piece, where the reader hears it from the writer
abbrev pub piece_for : Guid → Guid → PieceAct → Option fragment_delivery.Piece
piece_for writer reader one = if receiver_speech.is_spoken_by one.act writer && receiver_speech.is_heard_by one.act reader then one.piece else None

-- the acts of the datagrams of a recording, each with its piece, as what they say with fragments
abbrev pub fragment_speech_of : Guid → Guid → List (List PieceAct) → fragment_delivery.FragmentSpeech
fragment_speech_of writer reader recording =
    map (λ datagram. record { said = audit_speech.said_by writer reader (map (λ one. one.act) datagram); pieces = filter_map (piece_for writer reader) datagram }) recording

-- ---- samples

-- the piece is one of the sample of number n in this shape
abbrev pub is_piece_of : ℕ → Shape → Option fragment_delivery.Piece → Bool
is_piece_of n shape (Some piece) = samples.is_of n shape piece.number piece.shape
is_piece_of n shape None = false

-- the acts of a writer with the pieces of a sample
abbrev pub acts_of_sample : Guid → ℕ → Shape → List PieceAct → List PieceAct
acts_of_sample writer n shape acts = filter (λ one. receiver_speech.is_spoken_by one.act writer && is_piece_of n shape one.piece) acts

-- the fragments of a piece, where there is one
abbrev pub fragments_in : Option fragment_delivery.Piece → List fragment_delivery.Fragment
fragments_in (Some piece) = fragment_delivery.fragments_of piece
fragments_in None = []

-- the fragments of these acts that a reader hears from a writer
abbrev pub heard_from : Guid → Guid → List PieceAct → List fragment_delivery.Fragment
heard_from writer reader acts = flat_map (λ one. fragments_in one.piece) (filter (λ one. receiver_speech.is_spoken_by one.act writer && receiver_speech.is_heard_by one.act reader) acts)

-- a sample as a DATA_FRAG that tells it to this one reader, from where this act is from
abbrev pub sample_act : Guid → receiver_values.ActValue → ℕ → wire_values.PayloadValue → receiver_values.ActValue
sample_act reader act n payload =
    record act { dest = Some reader.prefix; body = receiver_values.ActBodyValue.DataFrag (record { reader = reader.entity; writer = receiver_speech.entity_from act.body; number = n; sent = None; told = Some payload }) }

-- The samples that an act tells a reader behind these acts, if the reader hears it: those that the reader can put together by it, and could
-- not before.
abbrev pub samples_told : Guid → List PieceAct → receiver_values.ActValue → Option fragment_delivery.Piece → List receiver_values.ActValue
samples_told reader before act (Some piece) =
    if receiver_speech.is_heard_by act reader then map (sample_act reader act piece.number) (samples.told_by (heard_from (receiver_speech.origin_of act) reader before) piece) else []
samples_told reader before act None = []

-- acts, each with others behind it that it stands for, by those before it
abbrev pub acts_and : (List PieceAct → receiver_values.ActValue → Option fragment_delivery.Piece → List receiver_values.ActValue) → List PieceAct → List PieceAct → List receiver_values.ActValue
acts_and others before [] = []
acts_and others before (one ∷ acts) = one.act ∷ (others before one.act one.piece ++ acts_and others (before ++ one ∷ []) acts)

-- those of each datagram behind these
abbrev pub datagrams_and : (List PieceAct → receiver_values.ActValue → Option fragment_delivery.Piece → List receiver_values.ActValue) → List PieceAct → List (List PieceAct) → List (List receiver_values.ActValue)
datagrams_and others before [] = []
datagrams_and others before (datagram ∷ recording) = acts_and others before datagram ∷ datagrams_and others (before ++ datagram) recording

-- the acts of a recording, and behind each the samples that it tells this reader
abbrev pub told_to : Guid → List (List PieceAct) → List (List receiver_values.ActValue)
told_to reader recording = datagrams_and (samples_told reader) [] recording

-- the acts of a recording as they are sent
abbrev pub acts_sent : List (List PieceAct) → List (List receiver_values.ActValue)
acts_sent recording = map (map (λ one. one.act)) recording
