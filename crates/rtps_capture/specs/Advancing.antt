-- How a reader of captures goes on, datagram by datagram. own: it is held to the course of the capture by the octets that it has read and
-- any that may come behind them, so that it is held to it also where the octets of the input are not known.
use Rattle.std.specs.Prelude.{ℕ, ◌+◌, ◌≡◌, Bool, true, false, List, [], ◌∷◌, ◌++◌, length, Option, Some, None, Result, Ok, Err}
use Rattle.std.specs.Io.KnownBytes.{Consumes, IsAtEnd}
use Rattle.rtps_capture.specs.Course as course
use Rattle.rtps_capture.specs.Frames as frames_spec
use Rattle.rtps_capture.specs.Held as held
use Rattle.rtps_capture.specs.Noting as noting
use Rattle.rtps_capture.specs.declared.advance.Opened.{Opened}
use Rattle.rtps_capture.specs.declared.capture.CaptureFault.{CaptureFault}
use Rattle.rtps_capture.specs.declared.capture_reader.CaptureReader.{CaptureReader}
use Rattle.rtps_capture.specs.declared.capture_reader.Summary.{Summary}
use Rattle.rtps_capture.specs.declared.captures.Captures.{Captures}
use Rattle.rtps_capture.specs.declared.frames.Frames.{Frames}
use Rattle.rtps_capture.specs.declared.notes.Notes.{Notes as NotesStruct}
use Rattle.rtps_capture.specs.declared.read_fault.ReadFault.{ReadFault}

-- what is still told of a capture for which this is noted, and of which that is held, by the octets that come behind it
abbrev pub course_at : NotesStruct → held.HeldValue → Frames → List ℕ → course.Course
course_at notes held frames later = course.course_left notes.most (noting.notes_of notes) (frames_spec.unread_of (held.octets ++ later) frames)

-- what a reader still tells, by the octets that come behind those that it has read
abbrev pub course_behind : CaptureReader → List ℕ → course.Course
course_behind reader later = course_at reader.notes reader.frames.held reader.frames.frames later

-- the datagram that came last
abbrev pub last_of : CaptureReader → Option course.DatagramValue
last_of reader = noting.found_datagram reader.frames.held.octets reader.notes reader.found

-- what is told of the frames that were read
abbrev pub summary_of : CaptureReader → Summary
summary_of reader = course.summary_of (noting.notes_of reader.notes)

-- these octets were read behind those that begin an input, so many in all, and whether it ended
pub record Begins (unread left : Option (List ℕ)) (begun more : List ℕ) (read : ℕ) (ended : Bool) : Type 0 where
  pub taken : Consumes unread left more
  pub counted : read ≡ length begun + length more
  pub at_end : ended ≡ true → IsAtEnd left

-- an input was opened: as a capture of those that are read, or as none of them
abbrev pub Opens : Captures → ℕ → (unread left : Option (List ℕ)) → List ℕ → Opened → Type 0
Opens captures most unread left begun (Opened.Capture reader) =
    (more : List ℕ) × Begins unread left begun more reader.frames.held.read reader.frames.held.ended
    × ((later : List ℕ) → held.MayCome reader.frames.held later → course.course_of captures most (begun ++ (more ++ later)) ≡ course_behind reader later)
Opens captures most unread left begun (Opened.Other read ended) =
    (more : List ℕ) × Begins unread left begun more read ended
    × ((later : List ℕ) → (ended ≡ true → later ≡ []) → course.course_of captures most (begun ++ (more ++ later)) ≡ record { datagrams = []; end = Err CaptureFault.BadCapture })

-- something is told of the capture: no read of the input failed, nor was memory refused
abbrev pub IfTold : Result Bool ReadFault → Type 0 → Type 0
IfTold (Ok found) Told = Told
IfTold (Err ReadFault.Input) Told = Unit {0}
IfTold (Err (ReadFault.Capture CaptureFault.Memory)) Told = Unit {0}
IfTold (Err (ReadFault.Capture fault)) Told = Told

-- what comes next was told, by what is told before and behind it: a fault, or what is told of the frames, or a datagram, which came last
abbrev pub Tells : Result Bool ReadFault → course.Course → course.Course → Summary → Option course.DatagramValue → Type 0
Tells (Err ReadFault.Input) old new summary last = ⊥
Tells (Err (ReadFault.Capture fault)) old new summary last = old ≡ record { datagrams = []; end = Err fault }
Tells (Ok false) old new summary last = old ≡ record { datagrams = []; end = Ok summary }
Tells (Ok true) old new summary None = ⊥
Tells (Ok true) old new summary (Some datagram) = old ≡ record { datagrams = datagram ∷ new.datagrams; end = new.end }

-- A reader went on: it read these octets, and told what comes next, whatever may come behind them.
pub record Advances (unread left : Option (List ℕ)) (old new : CaptureReader) (result : Result Bool ReadFault) : Type 0 where
  pub more : List ℕ
  pub reads : held.Reads unread left old.frames.held new.frames.held more
  pub tells : (later : List ℕ) → held.MayCome new.frames.held later → Tells result (course_behind old (more ++ later)) (course_behind new later) (summary_of new) (last_of new)
  pub done : result ≡ Ok false → new.frames.held.ended ≡ true
