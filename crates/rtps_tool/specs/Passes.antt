-- A recording that is read more than once, and a run of it. own: a report on a long recording is made without keeping its datagrams, which are
-- read again for what the first reading does not tell; where the octets of the input are known, this changes nothing of what is written.
use Rattle.std.specs.Prelude.{ℕ, ◌==◌, ◌≡◌, ◌≤◌, ◌&&◌, Bool, false, true, List, [], length, Option, Some, None, Result, Ok, Err}
use Rattle.std.specs.Io.KnownBytes.{Appends, Keeps}
use Rattle.rtps_capture.specs.Course as course
use Rattle.rtps_capture.specs.declared.captures.Captures.{Captures}
use Rattle.rtps_report.specs.Recording as recording
use Rattle.rtps_report.specs.declared.findings.Ending.{Ending}
use Rattle.rtps_tool.specs.Forms as forms
use Rattle.rtps_tool.specs.Lines as lines
use Rattle.rtps_tool.specs.RecordingText as recording_text
use Rattle.rtps_tool.specs.Runs as runs
use Rattle.rtps_tool.specs.Sums as sums
use Rattle.rtps_tool.specs.declared.faults.RecFault.{RecFault}
use Rattle.rtps_tool.specs.declared.faults.RunFault.{RunFault}
use Rattle.rtps_tool.specs.declared.form.whole.Whole.{Whole}
use Rattle.rtps_tool.specs.declared.form.whole_capture.WholeCapture.{WholeCapture}
use Rattle.rtps_tool.specs.declared.passes.first_pass.FirstPass.{FirstPass}
use Rattle.rtps_tool.specs.declared.runs.Limits.{Limits}

-- the datagrams of a text, which has some where it has no fault
abbrev pub datagrams_or_none : Result (List (List ℕ)) RecFault → List (List ℕ)
datagrams_or_none (Ok datagrams) = datagrams
datagrams_or_none (Err fault) = []

-- all datagrams of a capture or a text of these octets
abbrev pub datagrams_in_form : (is_capture : Bool) → Limits → Captures → List ℕ → List course.DatagramValue
datagrams_in_form true limits captures all = (course.course_of captures limits.datagrams all).datagrams
datagrams_in_form false limits captures all = recording_text.untimed (datagrams_or_none (recording_text.recording_of_lines limits.datagrams 1 0 (lines.lines_of all)))

-- by their form
abbrev pub datagrams_of : Limits → Captures → List ℕ → List course.DatagramValue
datagrams_of limits captures all = datagrams_in_form (forms.begins_capture captures all) limits captures all

-- this was found of a capture of these octets, all of which were read
pub record IsWholeOf (limits : Limits) (captures : Captures) (all : List ℕ) (whole : WholeCapture) : Type 0 where
  pub begins : forms.begins_capture captures all ≡ true
  pub within : length all ≤ limits.octets
  pub size : whole.octets ≡ length all
  pub ends : (course.course_of captures limits.datagrams all).end ≡ Ok whole.summary

-- so many octets were read of a text of these octets: all
pub record IsTextOf (limits : Limits) (captures : Captures) (all : List ℕ) (octets : ℕ) : Type 0 where
  pub plain : forms.begins_capture captures all ≡ false
  pub within : length all ≤ limits.octets
  pub size : octets ≡ length all
  pub datagrams : List (List ℕ)
  pub told : recording_text.recording_of_lines limits.datagrams 1 0 (lines.lines_of all) ≡ Ok datagrams

-- this was found of a recording of these octets
abbrev pub IsAllOf : Limits → Captures → List ℕ → Whole → Type 0
IsAllOf limits captures all (Whole.Capture whole) = IsWholeOf limits captures all whole
IsAllOf limits captures all (Whole.Text octets) = IsTextOf limits captures all octets

-- how many octets it has
abbrev pub size_of : Whole → ℕ
size_of (Whole.Capture whole) = whole.octets
size_of (Whole.Text octets) = octets

-- how many of its frames gave no datagram, where it is a capture
abbrev pub ignored_in : Whole → Option ℕ
ignored_in (Whole.Capture whole) = Some (course.ignored_of whole.summary)
ignored_in (Whole.Text octets) = None

-- what one pass over these octets answers, whose datagrams were all taken; `Took` says that these were
abbrev pub IsFoundOf : Limits → Captures → List ℕ → (List course.DatagramValue → Type 0) → Whole → Type 0
IsFoundOf limits captures all Took whole = IsAllOf limits captures all whole × Took (datagrams_of limits captures all)

-- the same, by the first pass
abbrev pub datagrams_in : FirstPass → List ℕ → List course.DatagramValue
datagrams_in first all = datagrams_of first.terms.limits first.terms.captures all

-- and their octets
abbrev pub octets_in : FirstPass → List ℕ → List (List ℕ)
octets_in first all = sums.octets_of (datagrams_in first all)

-- the first pass was over a recording of these octets
pub record IsFirstOf (all : List ℕ) (first : FirstPass) : Type 0 where
  pub whole : IsAllOf first.terms.limits first.terms.captures all first.whole
  pub sum : first.sum ≡ sums.sum_of sums.initial (datagrams_in first all)

-- another pass found as many octets, and datagrams with the same sum
abbrev pub is_found_again : FirstPass → Whole → ℕ → Bool
is_found_again first whole sum = size_of whole == size_of first.whole && sum == first.sum

-- a fault that is met behind the first pass: what was a recording then has changed
abbrev pub fault_again : RunFault → RunFault
fault_again (RunFault.Recording fault) = RunFault.Changed
fault_again RunFault.Input = RunFault.Input
fault_again (RunFault.Output written) = RunFault.Output written
fault_again RunFault.Memory = RunFault.Memory
fault_again RunFault.Changed = RunFault.Changed

-- an input of these octets is not read, for such a fault
abbrev pub FailsOn : Limits → Captures → List ℕ → RunFault → Type 0
FailsOn limits captures all fault = (left : Option (List ℕ)) × runs.FailsReading limits captures (Some all) left fault

-- nothing was written before such a fault
abbrev pub IsReadFault : RunFault → Type 0
IsReadFault (RunFault.Recording fault) = Unit {0}
IsReadFault RunFault.Input = Unit {0}
IsReadFault (RunFault.Output written) = ⊥
IsReadFault RunFault.Memory = Unit {0}
IsReadFault RunFault.Changed = Unit {0}

-- a text of the recording that these octets are, and how a run ends that writes it
abbrev pub Tells : Limits → Captures → (recording.RecordingValue → List ℕ → Ending → Type 0) → (all text : List ℕ) → Ending → Type 0
Tells limits captures IsPrinted all text ending = (recording : recording.RecordingValue) × (forms.recording_within limits captures all ≡ Ok recording) × IsPrinted recording text ending

-- whatever was read, some text was written, or there was a fault before that, or a write failed
abbrev pub Writes : (held holds : Option (List ℕ)) → Result Ending RunFault → Type 0
Writes held holds (Ok ending) = (text : List ℕ) × Appends held holds text
Writes held holds (Err (RunFault.Output written)) = (text : List ℕ) × runs.FailsWriting held holds text (RunFault.Output written)
Writes held holds (Err (RunFault.Recording fault)) = Keeps held holds
Writes held holds (Err RunFault.Input) = Keeps held holds
Writes held holds (Err RunFault.Memory) = Keeps held holds
Writes held holds (Err RunFault.Changed) = Keeps held holds

-- A run of a source. Where its octets are known, it is a run that reads them; so it is never told that they changed.
abbrev pub RunsSource : Limits → Captures → (recording.RecordingValue → List ℕ → Ending → Type 0) → (octets held holds : Option (List ℕ)) → Result Ending RunFault → Type 0
RunsSource limits captures IsPrinted (Some all) held holds result = (left : Option (List ℕ)) × runs.RunsWithin limits captures IsPrinted (Some all) left held holds result
RunsSource limits captures IsPrinted None held holds result = Writes held holds result
