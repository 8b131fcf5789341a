-- Laws over definitions alone, whatever the number is from which on numbers are asked for. own: what a reader of the definitions
-- would ask of them.
use Rattle.std.specs.Prelude.{ℕ, ◌+◌, ◌<◌, ◌≤◌, ◌≡◌, ◌≢◌, ◌↔◌, ◌⊎◌, filter, length, List, [], map, Option, Some, None, is_some, false, true, drop, sum_by, All, Contains}
use Rattle.rtps_ids.specs.declared.identity.EntityId.{EntityId}
use Rattle.rtps_ids.specs.declared.identity.Guid.{Guid}
use Rattle.rtps_wire.specs.DataFrag as data_frag
use Rattle.rtps_wire.specs.Reading as reading
use Rattle.rtps_wire.specs.Tally as tally
use Rattle.rtps_wire.specs.Values as wire_values
use Rattle.rtps_receiver.specs.Acts as acts
use Rattle.rtps_receiver.specs.Speech as receiver_speech
use Rattle.rtps_receiver.specs.Values as receiver_values
use Rattle.rtps_discovery.specs.Notice as notice
use Rattle.rtps_discovery.specs.declared.matching.Pair.{Pair}
use Rattle.rtps_audit.specs.Delivery as delivery
use Rattle.rtps_audit.specs.RunVerdict as run_verdict
use Rattle.rtps_audit.specs.PlainVerdict as plain_verdict
use Rattle.rtps_audit.specs.Intake as intake
use Rattle.rtps_audit.specs.Placed as placed
use Rattle.rtps_audit.specs.Said as said
use Rattle.rtps_audit.specs.Speech as audit_speech
use Rattle.rtps_audit.specs.declared.said_between.Said.{Said}
use Rattle.rtps_audit.specs.declared.verdict.Verdict.{Verdict}
use Rattle.rtps_fragments.specs.Announcing as announcing
use Rattle.rtps_fragments.specs.FragmentDelivery as fragment_delivery
use Rattle.rtps_wire.specs.declared.data_frag.Shape.{Shape}
use Rattle.rtps_fragments.specs.FragmentVerdict as fragment_verdict
use Rattle.rtps_fragments.specs.Hearing as hearing
use Rattle.rtps_fragments.specs.RecordedSamples as recorded_samples
use Rattle.rtps_fragments.specs.Samples as samples
use Rattle.rtps_wire.specs.FragmentItem as fragment_item
use Rattle.rtps_fragments.specs.FragmentWalk as fragment_walk
use Rattle.rtps_fragments.specs.SampleActs as sample_acts
use Rattle.rtps_fragments.specs.SamplesSent as samples_sent

-- of all that is given, two different payloads are told or can be put together for n
abbrev pub GivesTwoPayloads : ℕ → fragment_delivery.FragmentSpeech → ℕ → Type 0
GivesTwoPayloads from speech n =
    (x : wire_values.PayloadValue) × (y : wire_values.PayloadValue) × fragment_verdict.IsPayloadBefore from speech (length speech) n x × fragment_verdict.IsPayloadBefore from speech (length speech) n y × (x ≢ y)

-- A recording with fragments and one without tell alike: they have as many datagrams, the same claims and the same last announced
-- number. Before each place both have a word for the same numbers, and both give two payloads for the same numbers.
pub record TellsAlike (from : ℕ) (pieces : fragment_delivery.FragmentSpeech) (told : delivery.Speech) : Type 0 where
  pub counted : length told ≡ length pieces
  pub claims : (j n : ℕ) → delivery.Claims from (fragment_delivery.said_in pieces) j n ↔ delivery.Claims from told j n
  pub announced : delivery.last_announced_from from (fragment_delivery.said_in pieces) ≡ delivery.last_announced_from from told
  pub words : (j n : ℕ) → fragment_verdict.IsWordBefore from pieces j n ↔ run_verdict.IsTold from told j n
  pub payloads : (n : ℕ) → GivesTwoPayloads from pieces n ↔ plain_verdict.SpeaksTwo from told n

-- where they tell alike, the verdict by runs that take fragments one by one is the verdict without fragments, each with its numbers
abbrev pub FragmentsTellAlike : Type 0
FragmentsTellAlike =
    (from : ℕ) (pieces : fragment_delivery.FragmentSpeech) (told : delivery.Speech) (verdict : Verdict) → TellsAlike from pieces told
    → fragment_verdict.IsFragmentVerdictFrom from pieces verdict ↔ run_verdict.IsVerdictFrom from told verdict

-- each fragment that is given is one from 1 to the last one of its shape
abbrev pub HasFragmentsWithin : ℕ → fragment_delivery.FragmentSpeech → Type 0
HasFragmentsWithin from speech = (i k : ℕ) (fragment : fragment_delivery.Fragment) → fragment_delivery.GivesFragment from speech i k fragment → (0 < fragment.index) × (fragment.index ≤ data_frag.last_fragment fragment.shape)

-- a recording with fragments and the one into which its samples are told tell alike
abbrev pub SamplesTellAlike : Type 0
SamplesTellAlike = (from : ℕ) (speech : fragment_delivery.FragmentSpeech) → HasFragmentsWithin from speech → TellsAlike from speech (samples.told_in speech)

-- the verdict by runs that take fragments one by one is the verdict of the recording into which the samples are told
abbrev pub FragmentVerdictIsTold : Type 0
FragmentVerdictIsTold =
    (from : ℕ) (speech : fragment_delivery.FragmentSpeech) (verdict : Verdict) → HasFragmentsWithin from speech → fragment_verdict.IsFragmentVerdictFrom from speech verdict ↔ run_verdict.IsVerdictFrom from (samples.told_in speech) verdict

-- An act with a piece announces the piece's number. The piece's fragments are some from 1 to the last one of its shape.
pub record IsPieceAct (one : sample_acts.PieceAct) (piece : fragment_delivery.Piece) : Type 0 where
  pub announces : audit_speech.announced_of_body one.act.body ≡ Some piece.number
  pub first : 0 < piece.first
  pub last : piece.first + length piece.parts ≤ data_frag.last_fragment piece.shape + 1

-- each act with a piece announces it, and has fragments of its shape
abbrev pub ArePieceActs : List (List sample_acts.PieceAct) → Type 0
ArePieceActs recording = (datagram : List sample_acts.PieceAct) (one : sample_acts.PieceAct) (piece : fragment_delivery.Piece) → Contains recording datagram → Contains datagram one → one.piece ≡ Some piece → IsPieceAct one piece

-- of any writer and reader, a recording with pieces and what the reader hears of its acts tell alike
abbrev pub ActsTellAlike : Type 0
ActsTellAlike =
    (from : ℕ) (writer reader : Guid) (recording : List (List sample_acts.PieceAct)) → ArePieceActs recording
    → TellsAlike from (sample_acts.fragment_speech_of writer reader recording) (audit_speech.speech_by writer reader (sample_acts.told_to reader recording))

-- of any writer and reader, the verdict by runs that take fragments one by one is the verdict of what the reader hears of the acts
abbrev pub FragmentVerdictOfActs : Type 0
FragmentVerdictOfActs =
    (from : ℕ) (writer reader : Guid) (recording : List (List sample_acts.PieceAct)) (verdict : Verdict) → ArePieceActs recording
    → fragment_verdict.IsFragmentVerdictFrom from (sample_acts.fragment_speech_of writer reader recording) verdict ↔ run_verdict.IsVerdictFrom from (audit_speech.speech_by writer reader (sample_acts.told_to reader recording)) verdict

-- the same of the first datagrams, with what the reader hears of the whole recording
abbrev pub FirstDatagramsTellAlike : Type 0
FirstDatagramsTellAlike =
    (from : ℕ) (writer reader : Guid) (until : Option ℕ) (recording : List (List sample_acts.PieceAct)) → ArePieceActs recording
    → TellsAlike from (sample_acts.fragment_speech_of writer reader (said.datagrams_until until recording)) (audit_speech.speech_by writer reader (said.datagrams_until until (sample_acts.told_to reader recording)))

-- so the verdict by what the reader hears of the first datagrams of what is taken in is that by runs on the recording that ends there
abbrev pub FirstDatagramsDecideSamples : Type 0
FirstDatagramsDecideSamples =
    (from : ℕ) (writer reader : Guid) (until : Option ℕ) (recording : List (List ℕ)) (verdict : Verdict)
    → fragment_verdict.IsFragmentVerdictFrom from (sample_acts.fragment_speech_of writer reader (fragment_walk.sending_of (said.datagrams_until until recording))) verdict
    ↔ run_verdict.IsVerdictFrom from (audit_speech.speech_by writer reader (hearing.heard_by reader (said.datagrams_until until (recorded_samples.intake_with recording).acts))) verdict

-- what the reader hears of the acts of the first datagrams, by what was sent before
abbrev pub first_acts_heard : Guid → Option ℕ → List (List ℕ) → List (List receiver_values.ActValue)
first_acts_heard reader until recording = sample_acts.told_to reader (fragment_walk.sending_of (said.datagrams_until until recording))

-- it is what the reader hears of the first datagrams of what is taken in
abbrev pub FirstDatagramsTellTheSame : Type 0
FirstDatagramsTellTheSame = (reader : Guid) (until : Option ℕ) (recording : List (List ℕ)) → hearing.heard_by reader (said.datagrams_until until (recorded_samples.intake_with recording).acts) ≡ first_acts_heard reader until recording

-- what a reader hears of the first datagrams is the beginning of what it hears of all: what is sent later adds nothing to them
abbrev pub FirstDatagramsAreHeardFirst : Type 0
FirstDatagramsAreHeardFirst = (reader : Guid) (until : Option ℕ) (recording : List (List receiver_values.ActValue)) → hearing.heard_by reader (said.datagrams_until until recording) ≡ said.datagrams_until until (hearing.heard_by reader recording)

-- what a reader hears of the acts of a recording as they are sent is what the recording tells it
abbrev pub SentActsAreHeard : Type 0
SentActsAreHeard = (reader : Guid) (recording : List (List ℕ)) → hearing.heard_by reader (sample_acts.acts_sent (fragment_walk.sending_of recording)) ≡ sample_acts.told_to reader (fragment_walk.sending_of recording)

-- no act sends fragments
abbrev pub SendNoFragments : List (List receiver_values.ActValue) → Type 0
SendNoFragments recording = (datagram : List receiver_values.ActValue) (act : receiver_values.ActValue) → Contains recording datagram → Contains datagram act → hearing.sends_fragments act.body ≡ false

-- where none does, each reader hears the acts as they are
abbrev pub ActsAreHeardWithoutFragments : Type 0
ActsAreHeardWithoutFragments = (reader : Guid) (recording : List (List receiver_values.ActValue)) → SendNoFragments recording → hearing.heard_by reader recording ≡ recording

-- where no act of a writer sends fragments, the verdict on what a reader hears is the one on the acts as they are sent
abbrev pub VerdictsStayWithoutFragments : Type 0
VerdictsStayWithoutFragments =
    (from : ℕ) (writer reader : Guid) (recording : List (List receiver_values.ActValue)) (verdict : Verdict) → hearing.have_fragments (filter (placed.is_from writer) (placed.placed_in recording)) ≡ false
    → run_verdict.IsVerdictFrom from (audit_speech.speech_by writer reader (hearing.heard_by reader recording)) verdict ↔ run_verdict.IsVerdictFrom from (audit_speech.speech_by writer reader recording) verdict

-- acts without fragments are overheard as they are
abbrev pub OverheardWithoutFragments : Type 0
OverheardWithoutFragments = (acts : List placed.PlacedValue) → hearing.have_fragments acts ≡ false → hearing.overheard_of acts ≡ acts

-- where neither what a writer said nor what a reader asked sends fragments, that is what the reader hears
abbrev pub PairsAreHeardWithoutFragments : Type 0
PairsAreHeardWithoutFragments =
    (pair : Pair) (recording : List (List receiver_values.ActValue)) (pair_said : Said) → said.IsSaid pair recording pair_said
    → hearing.have_fragments (map placed.placed_value pair_said.acts.now) ≡ false → hearing.have_fragments (map placed.placed_value pair_said.asks.now) ≡ false
    → said.IsSaid pair (hearing.heard_by pair.reader recording) pair_said

-- no act of a recording whose fragments are skipped sends some
abbrev pub SkippedFragmentsAreNotSent : Type 0
SkippedFragmentsAreNotSent = (recording : List (List ℕ)) → SendNoFragments (intake.intake_of recording).acts

-- no act has a piece
abbrev pub HasNoPieces : List (List sample_acts.PieceAct) → Type 0
HasNoPieces recording = (datagram : List sample_acts.PieceAct) (one : sample_acts.PieceAct) → Contains recording datagram → Contains datagram one → one.piece ≡ None

-- where no act has a piece, each reader hears the acts as they are
abbrev pub ActsStayWithoutPieces : Type 0
ActsStayWithoutPieces = (reader : Guid) (recording : List (List sample_acts.PieceAct)) → HasNoPieces recording → sample_acts.told_to reader recording ≡ sample_acts.acts_sent recording

-- where no act has a piece, the verdict by runs that take fragments is that of the acts as they are
abbrev pub VerdictStaysWithoutPieces : Type 0
VerdictStaysWithoutPieces =
    (from : ℕ) (writer reader : Guid) (recording : List (List sample_acts.PieceAct)) (verdict : Verdict) → HasNoPieces recording
    → fragment_verdict.IsFragmentVerdictFrom from (sample_acts.fragment_speech_of writer reader recording) verdict ↔ run_verdict.IsVerdictFrom from (audit_speech.speech_by writer reader (map (map (λ one. one.act)) recording)) verdict

-- a piece is left exactly where of all fragments that its writer sends no payload of its number can be put together
abbrev pub PiecesLeftAreOfNoSample : Type 0
PiecesLeftAreOfNoSample =
    (recording : List (List sample_acts.PieceAct)) → ArePieceActs recording → (one : sample_acts.PieceAct) (piece : fragment_delivery.Piece) → Contains (sample_acts.piece_acts_in recording) one → one.piece ≡ Some piece
    → (samples_sent.is_left (sample_acts.piece_acts_in recording) one.act one.piece ≡ true)
    ↔ ((payload : wire_values.PayloadValue) → ¬ fragment_delivery.IsPutTogether (Contains (samples_sent.sent_by (receiver_speech.origin_of one.act) (sample_acts.piece_acts_in recording))) piece.number payload)

-- among these acts, the payload of n is to be noted as a sample of the writer
abbrev pub IsNoted : List sample_acts.PieceAct → Guid → ℕ → wire_values.PayloadValue → Type 0
IsNoted all writer n payload =
    (one : sample_acts.PieceAct) × Contains all one × (receiver_speech.is_spoken_by one.act writer ≡ true) × Contains (samples_sent.samples_sent all one.act one.piece) (samples_sent.noted_act one.act n payload)

-- what is noted as a sample is put together of all fragments that the writer sends. What can be put together of them is noted, or two
-- payloads are that differ
abbrev pub NotedSamplesAreSent : Type 0
NotedSamplesAreSent =
    (recording : List (List sample_acts.PieceAct)) → ArePieceActs recording → (writer : Guid) (n : ℕ) (payload : wire_values.PayloadValue)
    → (IsNoted (sample_acts.piece_acts_in recording) writer n payload → fragment_delivery.IsPutTogether (Contains (samples_sent.sent_by writer (sample_acts.piece_acts_in recording))) n payload)
    × (fragment_delivery.IsPutTogether (Contains (samples_sent.sent_by writer (sample_acts.piece_acts_in recording))) n payload
    → IsNoted (sample_acts.piece_acts_in recording) writer n payload
    ⊎ ((x : wire_values.PayloadValue) × (y : wire_values.PayloadValue) × IsNoted (sample_acts.piece_acts_in recording) writer n x × IsNoted (sample_acts.piece_acts_in recording) writer n y × (x ≢ y)))

-- the number and the payload of a DATA
abbrev pub data_of : receiver_values.ActBodyValue → Option (ℕ × wire_values.PayloadValue)
data_of (receiver_values.ActBodyValue.Data value) = Some (value.number, value.payload)
data_of (receiver_values.ActBodyValue.Heartbeat value) = None
data_of (receiver_values.ActBodyValue.AckNack value) = None
data_of (receiver_values.ActBodyValue.Gap value) = None
data_of (receiver_values.ActBodyValue.DataFrag value) = None
data_of (receiver_values.ActBodyValue.NackFrag value) = None

-- one of these acts is a DATA of the writer with the payload of n
abbrev pub HasData : List receiver_values.ActValue → Guid → ℕ → wire_values.PayloadValue → Type 0
HasData acts writer n payload = (act : receiver_values.ActValue) × Contains acts act × (receiver_speech.is_spoken_by act writer ≡ true) × (data_of act.body ≡ Some (n, payload))

-- Of a built-in writer, the acts that announce have the DATA that the recording has, and for each payload that is to be noted a DATA.
-- They have no others.
abbrev pub BuiltInSamplesAnnounce : Type 0
BuiltInSamplesAnnounce =
    (recording : List (List sample_acts.PieceAct)) → ArePieceActs recording → (writer : Guid) (n : ℕ) (payload : wire_values.PayloadValue) → announcing.is_built_in writer.entity ≡ true
    → HasData (intake.acts_together (announcing.announcing_with recording)) writer n payload ↔ HasData (samples_sent.acts_to_note (sample_acts.piece_acts_in recording)) writer n payload

-- each writer of which a directory notes what it announces is a built-in one
abbrev pub AnnouncersAreBuiltIn : Type 0
AnnouncersAreBuiltIn = (writer : EntityId) → is_some (notice.subject_of writer) ≡ true → announcing.is_built_in writer ≡ true

-- fewer fragments than a sample has make no payload of it
abbrev pub FewFragmentsMakeNoSample : Type 0
FewFragmentsMakeNoSample = (n : ℕ) (shape : Shape) (fragments : List fragment_delivery.Fragment) → length fragments < data_frag.last_fragment shape → samples.payloads_of n shape fragments ≡ []

-- what an act tells a reader of a sample depends on the acts with its pieces alone
abbrev pub SamplesStandAlone : Type 0
SamplesStandAlone =
    (reader : Guid) (before : List sample_acts.PieceAct) (act : receiver_values.ActValue) (piece : fragment_delivery.Piece)
    → sample_acts.samples_told reader before act (Some piece) ≡ sample_acts.samples_told reader (sample_acts.acts_of_sample (receiver_speech.origin_of act) piece.number piece.shape before) act (Some piece)

-- an act tells a reader nothing that it does not hear
abbrev pub UnheardActsTellNothing : Type 0
UnheardActsTellNothing =
    (reader : Guid) (before : List sample_acts.PieceAct) (act : receiver_values.ActValue) (piece : Option fragment_delivery.Piece) → receiver_speech.is_heard_by act reader ≡ false → sample_acts.samples_told reader before act piece ≡ []

-- of any writer and reader of a recording, the verdict by runs that take fragments one by one is that of what the reader hears of the acts as
-- they are sent
abbrev pub RecordedVerdictIsOfRuns : Type 0
RecordedVerdictIsOfRuns =
    (from : ℕ) (writer reader : Guid) (recording : List (List ℕ)) (verdict : Verdict)
    → fragment_verdict.IsFragmentVerdictFrom from (sample_acts.fragment_speech_of writer reader (fragment_walk.sending_of recording)) verdict
    ↔ run_verdict.IsVerdictFrom from (audit_speech.speech_by writer reader (hearing.heard_by reader (recorded_samples.intake_with recording).acts)) verdict

-- where no submessage belongs to fragments, an index with fragments takes in what a plain one does
abbrev pub IntakeStaysWithoutFragments : Type 0
IntakeStaysWithoutFragments = (recording : List (List ℕ)) → recorded_samples.IsWithoutFragments recording → recorded_samples.intake_with recording ≡ intake.intake_of recording

-- and its acts are those that are no fragments
abbrev pub ActsStayWithoutFragments : Type 0
ActsStayWithoutFragments = (recording : List (List ℕ)) → recorded_samples.IsWithoutFragments recording → fragment_walk.all_acts_in recording ≡ acts.acts_in recording

-- of all datagrams together those DATA_FRAG are counted that have no fragments that can be used, and those of a number of which no sample
-- is whole
abbrev pub FragmentsAreCounted : Type 0
FragmentsAreCounted =
    (recording : List (List ℕ)) → sum_by (λ tally. tally.fragments) (recorded_samples.intake_with recording).tallies
    ≡ sum_by fragment_walk.unusable_in recording + samples_sent.pieces_left (sample_acts.piece_acts_in (fragment_walk.sending_of recording)) (sample_acts.piece_acts_in (fragment_walk.sending_of recording))

-- of a datagram, no more are counted than without samples, whatever acts the recording has
abbrev pub NoMoreFragmentsAreCounted : Type 0
NoMoreFragmentsAreCounted = (all : List sample_acts.PieceAct) (datagram : List ℕ) → recorded_samples.fragments_left all datagram ≤ (tally.tally_of (reading.reading_of datagram)).fragments

-- only what is skipped as a DATA_FRAG has fragments
abbrev pub OnlyDataFragsHaveFragments : Type 0
OnlyDataFragsHaveFragments =
    (datagram : List ℕ) → All (λ item. (value : data_frag.DataFragValue) → data_frag.data_frag_at (drop item.at datagram) ≡ Some value → fragment_item.is_skipped_data_frag item.body ≡ true) (reading.reading_of datagram).items
