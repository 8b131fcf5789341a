-- What a recording sends of samples, whoever hears them. DDSI-RTPS 2.5, 8.3.8.3 "DataFrag", and 8.5 "Discovery Module", by which
-- anybody may note what a built-in writer announces. own: fragments of which no sample is ever whole are counted, since what they
-- would tell is not known.
use Rattle.std.specs.Prelude.{ℕ, Bool, false, true, not, ◌==◌, ◌&&◌, List, [], ◌∷◌, ◌++◌, filter, map, count_by, Option, Some, None}
use Rattle.std.specs.List.{flat_map, list_any}
use Rattle.rtps_ids.specs.declared.identity.Guid.{Guid}
use Rattle.rtps_receiver.specs.Speech as speech
use Rattle.rtps_receiver.specs.Values as receiver_values
use Rattle.rtps_wire.specs.Values as wire_values
use Rattle.rtps_fragments.specs.FragmentDelivery as fragment_delivery
use Rattle.rtps_fragments.specs.Samples as samples
use Rattle.rtps_fragments.specs.SampleActs as sample_acts

-- all fragments that a writer sends
abbrev pub sent_by : Guid → List sample_acts.PieceAct → List fragment_delivery.Fragment
sent_by writer acts = flat_map (λ one. sample_acts.fragments_in one.piece) (filter (λ one. speech.is_spoken_by one.act writer) acts)

-- ---- what samples of built-in writers announce

-- a sample as a DATA for everyone, from where this act is from
abbrev pub noted_act : receiver_values.ActValue → ℕ → wire_values.PayloadValue → receiver_values.ActValue
noted_act act n payload =
    record act { dest = None; body = receiver_values.ActBodyValue.Data (record { reader = speech.unknown_entity; writer = speech.entity_from act.body; number = n; qos = None; payload = payload }) }

-- the samples of the number and the shape of this piece that a reader which hears everything is told
abbrev pub samples_sent : List sample_acts.PieceAct → receiver_values.ActValue → Option fragment_delivery.Piece → List receiver_values.ActValue
samples_sent all act (Some piece) = map (noted_act act piece.number) (samples.payloads_of piece.number piece.shape (sent_by (speech.origin_of act) all))
samples_sent all act None = []

-- the acts of a recording, and behind them its samples: what a directory notes of them
abbrev pub acts_to_note : List sample_acts.PieceAct → List receiver_values.ActValue
acts_to_note all = map (λ one. one.act) all ++ flat_map (λ one. samples_sent all one.act one.piece) all

-- ---- fragments of no sample

-- there is a payload
abbrev pub is_some_payload : List wire_values.PayloadValue → Bool
is_some_payload [] = false
is_some_payload (payload ∷ payloads) = true

-- by all that the writer sends, a sample of number n in the shape of this piece is whole
abbrev pub is_whole : List sample_acts.PieceAct → Guid → ℕ → Option fragment_delivery.Piece → Bool
is_whole all writer n (Some piece) = (piece.number == n) && is_some_payload (samples.payloads_of n piece.shape (sent_by writer all))
is_whole all writer n None = false

-- the act has a piece, and no sample of its number is ever whole
abbrev pub is_left : List sample_acts.PieceAct → receiver_values.ActValue → Option fragment_delivery.Piece → Bool
is_left all act (Some piece) = not (list_any (λ other. speech.is_spoken_by other.act (speech.origin_of act) && is_whole all (speech.origin_of act) piece.number other.piece) all)
is_left all act None = false

-- how many of these acts have a piece of no sample, among all of a recording
abbrev pub pieces_left : List sample_acts.PieceAct → List sample_acts.PieceAct → ℕ
pieces_left all acts = count_by (λ one. is_left all one.act one.piece) acts
