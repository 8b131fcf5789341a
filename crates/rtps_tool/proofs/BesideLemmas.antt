-- What a run beside another recording answers where its text is not made, or not written.
use Rattle.std.proofs.Common.{ℕ, List, Option, Some, None, refl}
use Rattle.std.specs.Prelude.{Err}
use Rattle.std.specs.Io.KnownBytes.{Keeps}
use Rattle.rtps_capture.specs.declared.captures.Captures.{Captures}
use Rattle.rtps_report.specs.Recording as recording
use Rattle.rtps_report.specs.declared.findings.Ending.{Ending}
use Rattle.rtps_tool.specs.Runs as runs
use Rattle.rtps_tool.specs.declared.faults.BesideFault.{BesideFault}
use Rattle.rtps_tool.specs.declared.faults.RunFault.{RunFault}
use Rattle.rtps_tool.specs.declared.runs.Limits.{Limits}

-- a writer that is not written to
pub keeps_same : (held : Option (List ℕ)) → Keeps held held
keeps_same None = tt
keeps_same (Some octets) = refl

-- both were read and the text made, and writing it failed
pub beside_unwritten : (limits : Limits) (captures : Captures) (IsPrinted : Option recording.RecordingValue → recording.RecordingValue → List ℕ → Ending → Type 0) (unread left theirs rest held holds : Option (List ℕ))
    (other own : recording.RecordingValue) (text : List ℕ) (ending : Ending) (fault : RunFault) → runs.ReadsRecording limits captures theirs rest other → runs.ReadsRecording limits captures unread left own
    → IsPrinted (Some other) own text ending → runs.FailsWriting held holds text fault → runs.RunsBeside limits captures IsPrinted unread left theirs rest held holds (Err (BesideFault.Run fault))
beside_unwritten limits captures IsPrinted unread left theirs rest held holds other own text ending (RunFault.Recording fault) reads is printed fails = absurd fails
beside_unwritten limits captures IsPrinted unread left theirs rest held holds other own text ending RunFault.Input reads is printed fails = absurd fails
beside_unwritten limits captures IsPrinted unread left theirs rest held holds other own text ending (RunFault.Output written) reads is printed fails = (other, reads, (own, text, ending, is, printed, fails))
beside_unwritten limits captures IsPrinted unread left theirs rest held holds other own text ending RunFault.Memory reads is printed fails = absurd fails
beside_unwritten limits captures IsPrinted unread left theirs rest held holds other own text ending RunFault.Changed reads is printed fails = absurd fails
