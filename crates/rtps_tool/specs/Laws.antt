-- What a reader of the definitions would ask of the runs. own: what a run prints can be trusted only if nothing but the
-- input decides it, and a limit that is raised must not change what was told within it.
use Rattle.std.specs.Prelude.{ℕ, ◌<◌, ◌≡◌, ◌≤◌, ◌^◌, ◌++◌, ◌∷◌, true, false, All, List, Option, Some, Ok, Err}
use Rattle.std.specs.Io.KnownBytes.{Appends}
use Rattle.std.specs.List.{fold}
use Rattle.rtps_report.specs.Recording as recording
use Rattle.rtps_report.specs.declared.findings.Ending.{Ending}
use Rattle.rtps_tool.specs.Forms as forms
use Rattle.rtps_tool.specs.RecordingText as recording_text
use Rattle.rtps_tool.specs.Runs as runs
use Rattle.rtps_tool.specs.Sums as sums
use Rattle.rtps_capture.specs.declared.captures.Captures.{Captures}
use Rattle.rtps_tool.specs.declared.faults.RecFault.{RecFault}
use Rattle.rtps_tool.specs.declared.runs.Limits.{Limits}

-- two runs over one input that both answer an ending answer the same one, and write the same text
abbrev pub RunsAgree : (recording.RecordingValue → List ℕ → Ending → Type 0) → Type 0
RunsAgree Answers =
    (input : List ℕ) (left held holds left' held' holds' : Option (List ℕ)) (ending ending' : Ending)
    → runs.Runs Answers (Some input) left held holds (Ok ending) → runs.Runs Answers (Some input) left' held' holds' (Ok ending')
    → (ending ≡ ending') × ((text : List ℕ) × Appends held holds text × Appends held' holds' text)

-- and so do two runs within any limits, which may differ, where the same captures are read
abbrev pub RunsAgreeWithin : (recording.RecordingValue → List ℕ → Ending → Type 0) → Type 0
RunsAgreeWithin Answers =
    (limits limits' : Limits) (captures : Captures) (input : List ℕ) (left held holds left' held' holds' : Option (List ℕ)) (ending ending' : Ending)
    → runs.RunsWithin limits captures Answers (Some input) left held holds (Ok ending) → runs.RunsWithin limits' captures Answers (Some input) left' held' holds' (Ok ending')
    → (ending ≡ ending') × ((text : List ℕ) × Appends held holds text × Appends held' holds' text)

-- within these limits there is room for all that there is room for within those
pub record AreWithin (limits greater : Limits) : Type 0 where
  pub datagrams : limits.datagrams ≤ greater.datagrams
  pub octets : limits.octets ≤ greater.octets

-- an input that is a recording within some limits is the same recording within greater ones
abbrev pub StaysWithin : Type 0
StaysWithin =
    (limits greater : Limits) (captures : Captures) (input : List ℕ) (recording : recording.RecordingValue) → AreWithin limits greater
    → forms.recording_within limits captures input ≡ Ok recording → forms.recording_within greater captures input ≡ Ok recording

-- Octets that begin as a capture, of those that are read, are no text, however many datagrams are let in: that captures are
-- taken changes nothing of what texts stand for.
abbrev pub NoTextBeginsAsACapture : Type 0
NoTextBeginsAsACapture =
    (captures : Captures) (most : ℕ) (input : List ℕ) → All (λ octet. octet < 256) input → forms.begins_capture captures input ≡ true
    → (fault : RecFault) × (recording_text.recording_of_text most input ≡ Err fault)

-- A text stands for the same whatever captures are read.
abbrev pub TextsStayTexts : Type 0
TextsStayTexts =
    (limits : Limits) (input : List ℕ) → forms.begins_capture Captures.Any input ≡ false → forms.recording_within limits Captures.Any input ≡ forms.recording_within limits Captures.Classic input

-- of lists of words that differ in one word, the sums differ
abbrev pub EachWordTells : Type 0
EachWordTells =
    (before behind : List ℕ) (sum one other : ℕ) → sum < 2 ^ 64 → one < 2 ^ 64 → other < 2 ^ 64
    → fold sums.sum_word sum (before ++ one ∷ behind) ≡ fold sums.sum_word sum (before ++ other ∷ behind) → one ≡ other
