-- Another recording, made at the host of readers, against which rows are held.
-- own: it is read as the recording that is judged is, so a sample that comes in fragments arrived where they did.
use Rattle.std.specs.Prelude.{Option, Some, None}
use Rattle.std.specs.Borrow.{Bor}
use Rattle.rtps_audit.specs.Index as index
use Rattle.rtps_evidence.specs.OtherSide as other_side
use Rattle.rtps_fragments.specs.RecordedSamples as recorded_samples
use Rattle.rtps_fragments.specs.declared.fragments.Fragments.{Fragments}
use Rattle.rtps_policies.specs.Namings as namings
use Rattle.rtps_report.specs.ActsRead as acts_read
use Rattle.rtps_report.specs.Recording as recording
use Rattle.rtps_report.specs.declared.reader_side.ReaderSide.{ReaderSide}

-- what is taken in of it, and all acts that are read of each of its datagrams
abbrev pub other_of : recording.RecordingValue → other_side.OtherRecording
other_of recording = record { intake = recorded_samples.intake_as Fragments.Read recording.datagrams; named = acts_read.datagrams_read recording.datagrams }

-- the same where there is one
abbrev pub other_by : Option recording.RecordingValue → Option other_side.OtherRecording
other_by None = None
other_by (Some recording) = Some (other_of recording)

-- what stands beside a recording: the other one, where there is one, and when its own datagrams came
abbrev pub beside_of : Option recording.RecordingValue → recording.RecordingValue → other_side.Beside
beside_of other recording = record { other = other_by other; times = recording.times.of_datagrams }

-- the recording that the code borrows, where there is one
abbrev pub arrived_value : Option (Bor recording.RecordingValue) → Option recording.RecordingValue
arrived_value None = None
arrived_value (Some recording) = Some recording.now

-- the code keeps this of it
pub record IsReaderSide (other : other_side.OtherRecording) (side : ReaderSide) : Type 0 where
  pub index : index.IsIndexBy other.intake side.index
  pub namings : namings.AreNamingsOf other.named side.namings

-- the code keeps it where there is one
abbrev pub IsReaderSideBy : Option other_side.OtherRecording → Option ReaderSide → Type 0
IsReaderSideBy None None = Unit {0}
IsReaderSideBy None (Some side) = ⊥
IsReaderSideBy (Some other) None = ⊥
IsReaderSideBy (Some other) (Some side) = IsReaderSide other side
