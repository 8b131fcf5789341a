-- What a text stands for of which a part was read.
-- own: a recording may come in pieces, and stands for the same however it is cut into them.
use Rattle.std.specs.Prelude.{◌≡◌, ℕ, ◌+◌, ◌≤◌, false, List, ◌++◌, length, Option, None, Result, Ok, Err}
use Rattle.std.specs.List.{position}
use Rattle.std.specs.Io.KnownBytes.{Consumes, IsAtEnd}
use Rattle.rtps_capture.specs.Course as course
use Rattle.rtps_tool.specs.Forms as forms
use Rattle.rtps_tool.specs.Outcomes as outcomes
use Rattle.rtps_tool.specs.Lines as lines_spec
use Rattle.rtps_tool.specs.RecordingText as recording_text
use Rattle.rtps_capture.specs.declared.captures.Captures.{Captures}
use Rattle.rtps_tool.specs.declared.faults.RecFault.{RecFault}
use Rattle.rtps_tool.specs.declared.form.line_reader.LineReader.{LineReader}
use Rattle.rtps_tool.specs.declared.runs.Limits.{Limits}

-- datagrams in front of a recording, which a fault keeps as it is
abbrev pub with_front : List (List ℕ) → Result (List (List ℕ)) RecFault → Result (List (List ℕ)) RecFault
with_front front (Ok datagrams) = Ok (front ++ datagrams)
with_front front (Err fault) = Err fault

-- what a text stands for whose first lines, so many, gave these datagrams, where this is left of it, and there may be so
-- many datagrams in all
unfoldable pub recording_behind : (most : ℕ) → List (List ℕ) → ℕ → List ℕ → Result (List (List ℕ)) RecFault
recording_behind most done lines left = with_front done (recording_text.recording_of_lines most (lines + 1) (length done) (lines_spec.lines_of left))

-- The lines that were read gave these datagrams, and as many were counted. `Told` says of datagrams that a taker was told them.
pub record HasTold (Told : List course.DatagramValue → Type 0) (reader : LineReader) (done : List (List ℕ)) : Type 0 where
  pub told : Told (recording_text.untimed done)
  pub count : reader.found ≡ length done

-- No line ends in what is left of a text, and there are no more lines than octets.
pub record LeavesLine (old : LineReader) (text : List ℕ) (new : LineReader) (left : List ℕ) : Type 0 where
  pub goes_on : position lines_spec.is_line_feed left ≡ None
  pub counted : new.lines + length left ≤ old.lines + length text

-- A text was read up to what is left of it. With whatever comes later, it stands for the same.
pub record IsReadUpTo (most : ℕ) (done : List (List ℕ)) (old : LineReader) (text : List ℕ) (Told : List course.DatagramValue → Type 0) (new : LineReader) (left : List ℕ) : Type 0 where
  pub all : List (List ℕ)
  pub has_told : HasTold Told new all
  pub stands : (later : List ℕ) → recording_behind most all new.lines (left ++ later) ≡ recording_behind most done old.lines (text ++ later)

-- a text was read to its end, and stands for what was told
pub record IsReadWhole (most : ℕ) (done : List (List ℕ)) (old : LineReader) (text : List ℕ) (Told : List course.DatagramValue → Type 0) : Type 0 where
  pub all : List (List ℕ)
  pub told : Told (recording_text.untimed all)
  pub stands : recording_behind most done old.lines text ≡ Ok all

-- with whatever comes later, this is the first fault
abbrev pub IsFaultWithin : (most : ℕ) → List (List ℕ) → LineReader → List ℕ → RecFault → Type 0
IsFaultWithin most done reader text fault = (later : List ℕ) → outcomes.IsFaultOf (recording_behind most done reader.lines (text ++ later)) fault

-- All datagrams of a text were taken, which has so many octets and is no longer than it may be; `Took` says that these were.
pub record TakesText (limits : Limits) (captures : Captures) (before now : Option (List ℕ)) (Took : List course.DatagramValue → Type 0) (octets : ℕ) : Type 0 where
  pub text : List ℕ
  pub datagrams : List (List ℕ)
  pub took : Took (recording_text.untimed datagrams)
  pub taken : Consumes before now text
  pub plain : forms.begins_capture captures text ≡ false
  pub at_end : IsAtEnd now
  pub size : octets ≡ length text
  pub within : length text ≤ limits.octets
  pub told : recording_text.recording_of_lines limits.datagrams 1 0 (lines_spec.lines_of text) ≡ Ok datagrams

-- reading went on from so many octets, to the end of the input or past the most octets that it may have
pub record ReadsOn (most : ℕ) (old new : Option (List ℕ)) (from to : ℕ) : Type 0 where
  pub text : List ℕ
  pub taken : Consumes old new text
  pub size : from + length text ≡ to
  pub whole : to ≤ most → IsAtEnd new
