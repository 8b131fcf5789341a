-- What a run does to the reader and the writer that it is given, where their octets are known.
-- own: all is read before anything is written, so that a text never stands for a part of the input.
use Rattle.std.specs.Prelude.{ℕ, ◌≡◌, ◌≢◌, ◌<◌, ◌≤◌, List, length, take, Option, Some, Result, Ok, Err}
use Rattle.std.specs.Io.KnownBytes.{Appends, Consumes, Keeps, IsAtEnd}
use Rattle.rtps_report.specs.Recording as recording
use Rattle.rtps_tool.specs.Forms as forms
use Rattle.rtps_tool.specs.Limits as limits
use Rattle.rtps_capture.specs.declared.captures.Captures.{Captures}
use Rattle.rtps_tool.specs.declared.faults.BesideFault.{BesideFault}
use Rattle.rtps_tool.specs.declared.faults.RecFault.{RecFault}
use Rattle.rtps_tool.specs.declared.faults.RunFault.{RunFault}
use Rattle.rtps_tool.specs.declared.runs.Limits.{Limits}
use Rattle.rtps_report.specs.declared.findings.Ending.{Ending}

-- these octets were read: all that the reader had, or more of it than a recording may have
pub record Reads (limits : Limits) (old new : Option (List ℕ)) (text : List ℕ) : Type 0 where
  pub taken : Consumes old new text
  pub whole : length text ≤ limits.octets → IsAtEnd new

-- this is the recording of all that the reader had, within these limits, where these captures are read
pub record ReadsRecording (limits : Limits) (captures : Captures) (old new : Option (List ℕ)) (recording : recording.RecordingValue) : Type 0 where
  pub text : List ℕ
  pub taken : Consumes old new text
  pub whole : IsAtEnd new
  pub is_read : forms.recording_within limits captures text ≡ Ok recording

-- this is the fault of what was read: never want of memory, which is a fault of the run
pub record ReadsFault (limits : Limits) (captures : Captures) (old new : Option (List ℕ)) (fault : RecFault) : Type 0 where
  pub text : List ℕ
  pub reads : Reads limits old new text
  pub faulty : forms.recording_within limits captures text ≡ Err fault
  pub readable : fault ≢ RecFault.Memory

-- a run fails so before it writes anything
abbrev pub FailsReading : Limits → Captures → (old new : Option (List ℕ)) → RunFault → Type 0
FailsReading limits captures old new (RunFault.Recording fault) = ReadsFault limits captures old new fault
FailsReading limits captures old new RunFault.Input = Unit {0}
FailsReading limits captures old new (RunFault.Output written) = ⊥
FailsReading limits captures old new RunFault.Memory = Unit {0}
FailsReading limits captures old new RunFault.Changed = ⊥

-- so many octets of this text were written, and the rest was not
abbrev pub FailsWriting : (old new : Option (List ℕ)) → List ℕ → RunFault → Type 0
FailsWriting old new text (RunFault.Recording fault) = ⊥
FailsWriting old new text RunFault.Input = ⊥
FailsWriting old new text (RunFault.Output written) = (written < length text) × Appends old new (take written text)
FailsWriting old new text RunFault.Memory = ⊥
FailsWriting old new text RunFault.Changed = ⊥

-- A run that writes a text of the recording that it reads within these limits, where these captures are read, and ends as it
-- tells; `IsPrinted` says which texts and ends those are. The reader before and after it, the writer before and after it, and what the run answers.
abbrev pub RunsWithin : Limits → Captures → (recording.RecordingValue → List ℕ → Ending → Type 0) → (unread left held holds : Option (List ℕ)) → Result Ending RunFault → Type 0
RunsWithin limits captures IsPrinted unread left held holds (Ok ending) =
    (recording : recording.RecordingValue) × (text : List ℕ) × ReadsRecording limits captures unread left recording × IsPrinted recording text ending × Appends held holds text
RunsWithin limits captures IsPrinted unread left held holds (Err (RunFault.Recording fault)) = ReadsFault limits captures unread left fault × Keeps held holds
RunsWithin limits captures IsPrinted unread left held holds (Err RunFault.Input) = Keeps held holds
RunsWithin limits captures IsPrinted unread left held holds (Err (RunFault.Output written)) =
    (recording : recording.RecordingValue) × (text : List ℕ) × (ending : Ending) × ReadsRecording limits captures unread left recording × IsPrinted recording text ending
    × FailsWriting held holds text (RunFault.Output written)
RunsWithin limits captures IsPrinted unread left held holds (Err RunFault.Memory) = Keeps held holds
RunsWithin limits captures IsPrinted unread left held holds (Err RunFault.Changed) = ⊥

-- within the usual limits, where classic captures are read
abbrev pub Runs : (recording.RecordingValue → List ℕ → Ending → Type 0) → (unread left held holds : Option (List ℕ)) → Result Ending RunFault → Type 0
Runs IsPrinted unread left held holds result = RunsWithin limits.usual Captures.Classic IsPrinted unread left held holds result

-- the other recording was not read, for such a fault
abbrev pub IsOtherFault : (RunFault → Type 0) → BesideFault → Type 0
IsOtherFault Fails (BesideFault.Run fault) = ⊥
IsOtherFault Fails (BesideFault.Other fault) = Fails fault

-- The other recording was read too, and then a run of FILE beside it ended so: the other reader before and after it, and the run.
abbrev pub RunsWithOther : Limits → Captures → (theirs rest : Option (List ℕ)) → (recording.RecordingValue → Type 0) → Type 0
RunsWithOther limits captures theirs rest EndsSo = (other : recording.RecordingValue) × ReadsRecording limits captures theirs rest other × EndsSo other

-- A run of FILE beside another recording: FILE is read first, and then the other one, each within these limits, where these captures are
-- read; then a text of both is written. So a fault of the other recording is told only where FILE has none, and the other reader stays
-- as it is where FILE has one. The reader of FILE before and after it, that of the other recording before and after it, the writer
-- before and after it, and what the run answers.
abbrev pub RunsBeside : Limits → Captures → (Option recording.RecordingValue → recording.RecordingValue → List ℕ → Ending → Type 0) → (unread left theirs rest held holds : Option (List ℕ)) → Result Ending BesideFault → Type 0
RunsBeside limits captures IsPrinted unread left theirs rest held holds (Ok ending) =
    RunsWithOther limits captures theirs rest (λ other. RunsWithin limits captures (IsPrinted (Some other)) unread left held holds (Ok ending))
RunsBeside limits captures IsPrinted unread left theirs rest held holds (Err (BesideFault.Run (RunFault.Recording fault))) =
    (rest ≡ theirs) × ReadsFault limits captures unread left fault × Keeps held holds
RunsBeside limits captures IsPrinted unread left theirs rest held holds (Err (BesideFault.Run RunFault.Input)) = (rest ≡ theirs) × Keeps held holds
RunsBeside limits captures IsPrinted unread left theirs rest held holds (Err (BesideFault.Run (RunFault.Output written))) =
    RunsWithOther limits captures theirs rest (λ other. RunsWithin limits captures (IsPrinted (Some other)) unread left held holds (Err (RunFault.Output written)))
RunsBeside limits captures IsPrinted unread left theirs rest held holds (Err (BesideFault.Run RunFault.Memory)) = Keeps held holds
RunsBeside limits captures IsPrinted unread left theirs rest held holds (Err (BesideFault.Run RunFault.Changed)) = ⊥
RunsBeside limits captures IsPrinted unread left theirs rest held holds (Err (BesideFault.Other fault)) =
    (recording : recording.RecordingValue) × ReadsRecording limits captures unread left recording × FailsReading limits captures theirs rest fault × Keeps held holds

-- A run that has no other recording: it leaves the other reader as it is, and no fault is of the other recording. The other reader
-- before and after it, and what the run answers.
abbrev pub RunsAlone : (Result Ending RunFault → Type 0) → (theirs rest : Option (List ℕ)) → Result Ending BesideFault → Type 0
RunsAlone IsRun theirs rest (Ok ending) = (rest ≡ theirs) × IsRun (Ok ending)
RunsAlone IsRun theirs rest (Err (BesideFault.Run fault)) = (rest ≡ theirs) × IsRun (Err fault)
RunsAlone IsRun theirs rest (Err (BesideFault.Other fault)) = ⊥

-- A run that reads nothing and writes this text: the writer before and after it, and what the run answers.
abbrev pub Writes : List ℕ → (held holds : Option (List ℕ)) → Result Ending RunFault → Type 0
Writes text held holds (Ok ending) = (ending ≡ Ending.Clean) × Appends held holds text
Writes text held holds (Err fault) = FailsWriting held holds text fault
