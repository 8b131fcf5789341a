-- A capture of which a part was read. own: a recording may come in blocks, and stands for the same however it is cut into them.
use Rattle.std.specs.Prelude.{ℕ, ◌+◌, ◌≡◌, ◌<◌, ◌≤◌, ◌⊎◌, Bool, false, true, List, [], ◌++◌, length, Option, Ok, Err}
use Rattle.std.specs.Io.KnownBytes.{Consumes, IsAtEnd}
use Rattle.rtps_capture.specs.Advancing as advancing
use Rattle.rtps_capture.specs.Course as course
use Rattle.rtps_capture.specs.Held as held
use Rattle.rtps_capture.specs.declared.capture.CaptureFault.{CaptureFault}
use Rattle.rtps_capture.specs.declared.capture_reader.CaptureReader.{CaptureReader}
use Rattle.rtps_capture.specs.declared.captures.Captures.{Captures}
use Rattle.rtps_capture.specs.declared.read_fault.ReadFault.{ReadFault}
use Rattle.rtps_tool.specs.Forms as forms
use Rattle.rtps_tool.specs.declared.faults.RunFault.{RunFault}
use Rattle.rtps_tool.specs.declared.form.capture_blocks.Stop.{Stop}
use Rattle.rtps_tool.specs.declared.form.whole_capture.WholeCapture.{WholeCapture}
use Rattle.rtps_tool.specs.declared.runs.Limits.{Limits}

-- These octets were read, which begin a capture: what a reader had in front, and what it has now.
pub record Began (captures : Captures) (before now : Option (List ℕ)) (text : List ℕ) : Type 0 where
  pub taken : Consumes before now text
  pub begun : 4 ≤ length text
  pub form : forms.begins_capture captures text ≡ true

-- Of a capture these datagrams were told, and its reader tells the others, whatever may come behind the octets that were read.
pub record CameSo (limits : Limits) (captures : Captures) (before now : Option (List ℕ)) (reader : CaptureReader) (datagrams : List course.DatagramValue) : Type 0 where
  pub text : List ℕ
  pub began : Began captures before now text
  pub size : reader.frames.held.read ≡ length text
  pub at_end : reader.frames.held.ended ≡ true → IsAtEnd now
  pub stands : (later : List ℕ) → held.MayCome reader.frames.held later
      → course.course_of captures limits.datagrams (text ++ later)
      ≡ record { datagrams = datagrams ++ (advancing.course_behind reader later).datagrams; end = (advancing.course_behind reader later).end }

-- these are all its datagrams, and this is told of its frames
pub record IsWhole (limits : Limits) (captures : Captures) (before now : Option (List ℕ)) (reader : CaptureReader) (datagrams : List course.DatagramValue) : Type 0 where
  pub text : List ℕ
  pub began : Began captures before now text
  pub size : reader.frames.held.read ≡ length text
  pub at_end : IsAtEnd now
  pub told : course.course_of captures limits.datagrams text ≡ record { datagrams = datagrams; end = Ok (advancing.summary_of reader) }

-- It has a fault, and so many octets were read of it, whether it ended there or not.
pub record StopsAt (limits : Limits) (captures : Captures) (before now : Option (List ℕ)) (stop : Stop) : Type 0 where
  pub text : List ℕ
  pub began : Began captures before now text
  pub size : stop.read ≡ length text
  pub at_end : stop.ended ≡ true → IsAtEnd now
  pub faulty : (later : List ℕ) → (stop.ended ≡ true → later ≡ []) → (course.course_of captures limits.datagrams (text ++ later)).end ≡ Err stop.fault

-- the datagrams of a capture were taken, all of them or past the most octets that it may have; `Took` says that these were
abbrev pub Takes : Limits → Captures → (before now : Option (List ℕ)) → CaptureReader → (List course.DatagramValue → Type 0) → Type 0
Takes limits captures before now reader Took =
    (datagrams : List course.DatagramValue) × Took datagrams
    × (((limits.octets < reader.frames.held.read) × CameSo limits captures before now reader datagrams) ⊎ IsWhole limits captures before now reader datagrams)

-- or it has a fault
abbrev pub FailsTaking : Limits → Captures → (before now : Option (List ℕ)) → CaptureReader → ReadFault → Type 0
FailsTaking limits captures before now reader ReadFault.Input = Unit {0}
FailsTaking limits captures before now reader (ReadFault.Capture CaptureFault.Memory) = Unit {0}
FailsTaking limits captures before now reader (ReadFault.Capture fault) =
    StopsAt limits captures before now (record { read = reader.frames.held.read; ended = reader.frames.held.ended; fault = fault })

-- All datagrams of a capture were taken, which is no longer than it may be; `Took` says that these were.
pub record TakesAll (limits : Limits) (captures : Captures) (before now : Option (List ℕ)) (Took : List course.DatagramValue → Type 0) (whole : WholeCapture) : Type 0 where
  pub text : List ℕ
  pub datagrams : List course.DatagramValue
  pub took : Took datagrams
  pub began : Began captures before now text
  pub at_end : IsAtEnd now
  pub size : whole.octets ≡ length text
  pub within : length text ≤ limits.octets
  pub told : course.course_of captures limits.datagrams text ≡ record { datagrams = datagrams; end = Ok whole.summary }

-- memory was refused, which says nothing of the capture
abbrev pub is_memory : CaptureFault → Bool
is_memory CaptureFault.Memory = true
is_memory other = false

-- the rest of an input was read behind a fault, up to its end or past the most octets that it may have; so many there are in all
pub record ReadsRest (most : ℕ) (old new : Option (List ℕ)) (stop : Stop) (total : ℕ) : Type 0 where
  pub text : List ℕ
  pub taken : Consumes old new text
  pub size : stop.read + length text ≡ total
  pub none : stop.ended ≡ true → (text ≡ []) × (new ≡ old)
  pub whole : total ≤ most → (stop.ended ≡ true) ⊎ IsAtEnd new

-- a fault of the run alone: a read failed, or memory was refused
abbrev pub IsNoRecFault : RunFault → Type 0
IsNoRecFault RunFault.Input = Unit {0}
IsNoRecFault RunFault.Memory = Unit {0}
IsNoRecFault other = ⊥
