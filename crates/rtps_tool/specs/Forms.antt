-- The recording that an input stands for, or its first fault.
-- own: the first four octets tell a capture from a text, of which none begins so; the limit on octets is the first to be
-- looked at. Which captures are read is asked for, and a text stands for the same whatever is asked for.
use Rattle.std.specs.Prelude.{ℕ, ◌||◌, nat_lt, Bool, true, false, if◌then◌else◌, List, length, is_some, Result, Err}
use Rattle.rtps_capture.specs.Blocks as blocks
use Rattle.rtps_capture.specs.Opening as opening
use Rattle.rtps_report.specs.Recording as recording
use Rattle.rtps_tool.specs.Limits as limits
use Rattle.rtps_tool.specs.RecordingCapture as recording_capture
use Rattle.rtps_tool.specs.RecordingText as recording_text
use Rattle.rtps_capture.specs.declared.captures.Captures.{Captures}
use Rattle.rtps_tool.specs.declared.faults.RecFault.{RecFault}
use Rattle.rtps_tool.specs.declared.runs.Limits.{Limits}

-- an input that begins as a capture does, of those that are read
abbrev pub begins_capture : Captures → List ℕ → Bool
begins_capture Captures.Classic input = is_some (opening.order_of input)
begins_capture Captures.Any input = is_some (opening.order_of input) || blocks.is_pcapng input

-- a capture or a text, of so many datagrams at most
abbrev pub recording_in_form : Captures → (most : ℕ) → (is_capture : Bool) → List ℕ → Result recording.RecordingValue RecFault
recording_in_form captures most false input = recording_text.recording_of_text most input
recording_in_form captures most true input = recording_capture.recording_of_capture captures most input

-- by the captures that are read
abbrev pub recording_in : Captures → (most : ℕ) → List ℕ → Result recording.RecordingValue RecFault
recording_in captures most input = recording_in_form captures most (begins_capture captures input) input

-- the recording that an input is within these limits, where these captures are read, or its first fault
abbrev pub recording_within : Limits → Captures → List ℕ → Result recording.RecordingValue RecFault
recording_within limits captures input =
    if nat_lt limits.octets (length input) then Err RecFault.TooMany else recording_in captures limits.datagrams input

-- within the usual limits: 1,000,000 datagrams and 2^30 octets
abbrev pub recording_of : List ℕ → Result recording.RecordingValue RecFault
recording_of input = recording_within limits.usual Captures.Classic input
