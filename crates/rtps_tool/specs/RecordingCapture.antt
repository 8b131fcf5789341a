-- The recording that a capture stands for, of those that are read, or its first fault.
-- own: the datagrams are numbered without the frames that give none, whether their packet came whole or in fragments, since a verdict
-- speaks of datagrams; and those frames are counted. Where any capture is read, they are counted by the reason, too.
use Rattle.std.specs.Prelude.{ℕ, ◌++◌, List, map, slice_range, Option, None, Some, Result, Ok, Err}
use Rattle.rtps_capture.specs.Capture as capture
use Rattle.rtps_capture.specs.declared.byte_range.ByteRange.{ByteRange}
use Rattle.rtps_capture.specs.declared.capture.CaptureFault.{CaptureFault}
use Rattle.rtps_capture.specs.declared.capture_reader.Summary.{Summary}
use Rattle.rtps_capture.specs.declared.captures.Captures.{Captures}
use Rattle.rtps_report.specs.Recording as recording
use Rattle.rtps_report.specs.declared.recording.Reasons.{Reasons}
use Rattle.rtps_tool.specs.Collected as collected
use Rattle.rtps_tool.specs.declared.faults.RecFault.{RecFault}

-- the fault of a capture as that of a recording
abbrev pub rec_fault_of : CaptureFault → RecFault
rec_fault_of CaptureFault.BadCapture = RecFault.BadCapture
rec_fault_of (CaptureFault.Damaged frame) = RecFault.Damaged frame
rec_fault_of (CaptureFault.CutCapture frame) = RecFault.CutCapture frame
rec_fault_of CaptureFault.TooMany = RecFault.TooMany
rec_fault_of CaptureFault.Memory = RecFault.Memory

-- the octets of these ranges
abbrev pub octets_in : List ℕ → List ByteRange → List (List ℕ)
octets_in octets ranges = map (λ range. slice_range octets range.from range.to) ranges

-- how many frames gave no datagram, by the reason
abbrev pub reasons_of : capture.Answer → Reasons
reasons_of answer = record { pieces = answer.pieces; cut = answer.cut; other = answer.other; links = record { number = answer.links; first = answer.first_link } }

-- the reasons, where they are told
abbrev pub reasons_told : Captures → capture.Answer → Option Reasons
reasons_told Captures.Classic answer = None
reasons_told Captures.Any answer = Some (reasons_of answer)

-- the same, by what is told of the frames of a capture that was read
abbrev pub reasons_in : Summary → Reasons
reasons_in summary = record { pieces = summary.pieces; cut = summary.cut; other = summary.other; links = record { number = summary.links; first = summary.first_link } }

-- the same reasons, where they are told
abbrev pub reasons_if_told : Captures → Summary → Option Reasons
reasons_if_told Captures.Classic summary = None
reasons_if_told Captures.Any summary = Some (reasons_in summary)

-- the recording that these datagrams are, where this is told of the frames of their capture
abbrev pub recording_collected : Captures → collected.CollectedValue → Summary → recording.RecordingValue
recording_collected captures collected summary = record {
  datagrams = collected.datagrams;
  times = record { start = summary.start; end = summary.end; of_datagrams = collected.times; frames = collected.frames };
  ignored = Some (recording.ignored_by (reasons_in summary));
  reasons = reasons_if_told captures summary;
}

-- the datagrams stand in the file, or behind it where their packet came in fragments
abbrev pub recording_told : Captures → List ℕ → Result capture.Answer CaptureFault → Result recording.RecordingValue RecFault
recording_told captures file (Ok answer) = Ok (record {
  datagrams = octets_in (file ++ answer.behind) answer.datagrams;
  times = record { start = answer.start; end = answer.end; of_datagrams = answer.times; frames = answer.frames };
  ignored = Some (recording.ignored_by (reasons_of answer));
  reasons = reasons_told captures answer;
})
recording_told captures file (Err fault) = Err (rec_fault_of fault)

-- the datagrams of a capture in their order, so many at most, or its first fault
unfoldable pub recording_of_capture : Captures → (most : ℕ) → List ℕ → Result recording.RecordingValue RecFault
recording_of_capture captures most file = recording_told captures file (capture.capture_read captures most file)
