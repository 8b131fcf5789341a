-- The course of a capture is what is told of the whole file. own: whoever reads a capture by blocks tells what one tells who has all of it.
use Rattle.std.specs.Prelude.{ℕ, ◌≡◌, List, [], ◌∷◌, ◌++◌, length, slice_range, Option, Result, Ok, Err}
use Rattle.rtps_capture.specs.Capture as capture
use Rattle.rtps_capture.specs.Course as course
use Rattle.rtps_capture.specs.declared.byte_range.ByteRange.{ByteRange}
use Rattle.rtps_capture.specs.declared.capture.CaptureFault.{CaptureFault}
use Rattle.rtps_capture.specs.declared.capture_reader.Summary.{Summary}
use Rattle.rtps_capture.specs.declared.captures.Captures.{Captures}

-- the datagrams that stand so in octets, with their times and the numbers of their frames
abbrev pub datagrams_in : List ℕ → List ByteRange → List (Option ℕ) → List ℕ → List course.DatagramValue
datagrams_in octets (range ∷ ranges) (time ∷ times) (frame ∷ frames) =
    record { octets = slice_range octets range.from range.to; time = time; frame = frame } ∷ datagrams_in octets ranges times frames
datagrams_in octets ranges times frames = []

-- what an answer tells beside the datagrams
abbrev pub answer_summary : capture.Answer → Summary
answer_summary answer = record {
  start = answer.start;
  end = answer.end;
  pieces = answer.pieces;
  cut = answer.cut;
  other = answer.other;
  links = answer.links;
  first_link = answer.first_link;
}

-- This course has the same datagrams, with a time and a number for each, and ends with the same numbers; or it ends with the same fault.
abbrev pub AgreesWith : List ℕ → course.Course → Result capture.Answer CaptureFault → Type 0
AgreesWith file course (Ok answer) =
    (course.end ≡ Ok (answer_summary answer))
    × (length answer.times ≡ length answer.datagrams) × (length answer.frames ≡ length answer.datagrams)
    × (course.datagrams ≡ datagrams_in (file ++ answer.behind) answer.datagrams answer.times answer.frames)
AgreesWith file course (Err fault) = course.end ≡ Err fault

-- the course of a file is what is told of it
pub record CourseIsTold : Type 0 where
  pub agrees : (captures : Captures) (most : ℕ) (file : List ℕ) → AgreesWith file (course.course_of captures most file) (capture.capture_read captures most file)
