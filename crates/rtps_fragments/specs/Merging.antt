-- The samples that acts tell, by what is sent of them, and these samples as acts among the acts of a datagram. DDSI-RTPS 2.5, 8.3.8.3
-- "DataFrag". own: a sample stands behind the act that completes it.
use Rattle.std.specs.Prelude.{ℕ, suc, ◌==◌, ◌≡◌, if◌then◌else◌, List, [], ◌∷◌, ◌++◌, map, Option, Some, None}
use Rattle.std.specs.List.{flat_map}
use Rattle.rtps_receiver.specs.Speech as speech
use Rattle.rtps_receiver.specs.Values as values
use Rattle.rtps_fragments.specs.Heard as heard
use Rattle.rtps_fragments.specs.FragmentDelivery as fragment_delivery
use Rattle.rtps_fragments.specs.SampleActs as sample_acts
use Rattle.rtps_fragments.specs.SamplesSent as samples_sent
use Rattle.rtps_fragments.specs.ToldSamples as told_samples
use Rattle.rtps_fragments.specs.declared.piece.SampleKey.{SampleKey}

-- the sample of which an act has a piece
abbrev pub key_of : values.ActValue → fragment_delivery.Piece → SampleKey
key_of act piece =
    record { writer = speech.origin_of act; number = piece.number; sample = piece.shape.sample; fragment = piece.shape.fragment; is_key = piece.shape.is_key }

-- what an act at this place sends, where it has a piece
abbrev pub sent_in : ℕ → values.ActValue → Option fragment_delivery.Piece → List told_samples.SentValue
sent_in i act (Some piece) = record { act = i; key = key_of act piece; came = heard.came_from piece.first piece.parts } ∷ []
sent_in i act None = []

-- what acts send, the first of which is at this place
abbrev pub sents_from : ℕ → List sample_acts.PieceAct → List told_samples.SentValue
sents_from i [] = []
sents_from i (one ∷ acts) = sent_in i one.act one.piece ++ sents_from (suc i) acts

-- what the acts of all datagrams send
abbrev pub sents_in : List (List sample_acts.PieceAct) → List told_samples.SentValue
sents_in recording = flat_map (sents_from 0) recording

-- the samples that an act with this body tells, each as a DATA for everyone
abbrev pub acts_told : values.ActValue → values.ActBodyValue → List told_samples.ToldValue → List values.ActValue
acts_told act (values.ActBodyValue.DataFrag value) told = map (λ one. samples_sent.noted_act act value.number one.payload) told
acts_told act (values.ActBodyValue.Data value) told = []
acts_told act (values.ActBodyValue.Heartbeat value) told = []
acts_told act (values.ActBodyValue.AckNack value) told = []
acts_told act (values.ActBodyValue.NackFrag value) told = []
acts_told act (values.ActBodyValue.Gap value) told = []

-- the first of these that the act at this place tells
abbrev pub run_of : ℕ → List told_samples.ToldValue → List told_samples.ToldValue
run_of i [] = []
run_of i (one ∷ told) = if one.act == i then one ∷ run_of i told else []

-- those behind them
abbrev pub run_past : ℕ → List told_samples.ToldValue → List told_samples.ToldValue
run_past i [] = []
run_past i (one ∷ told) = if one.act == i then run_past i told else one ∷ told

-- acts, the first of which is at this place, and behind each the samples that it tells
abbrev pub merged_from : ℕ → List values.ActValue → List told_samples.ToldValue → List values.ActValue
merged_from i [] told = []
merged_from i (act ∷ acts) told = act ∷ (acts_told act act.body (run_of i told) ++ merged_from (suc i) acts (run_past i told))

-- An act with a piece is a DATA_FRAG of the piece's number.
pub record IsFragmentAct (one : sample_acts.PieceAct) (piece : fragment_delivery.Piece) : Type 0 where
  pub value : values.FragmentValue
  pub body : one.act.body ≡ values.ActBodyValue.DataFrag value
  pub number : value.number ≡ piece.number
