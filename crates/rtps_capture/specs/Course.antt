-- The course of a capture: its datagrams, one after another, and what is told of its frames then, or its fault. It is what `specs/Capture.antt`
-- tells of the whole file, in the order in which it is told. RFC 791 "Internet Protocol", 2.3 "Function Description"; RFC 768 "User
-- Datagram Protocol", "Format".
-- own: whoever reads a capture of any size keeps a datagram no longer than needed.
use Rattle.std.specs.Prelude.{ℕ, ◌+◌, ◌-◌, ◌==◌, nat_lt, if◌then◌else◌, List, [], ◌∷◌, ◌++◌, length, slice_range, Option, Some, None, option_to_list, Result, Ok, Err}
use Rattle.std.specs.Option.{option_or}
use Rattle.std.specs.Ordering.{is_eq}
use Rattle.rtps_capture.specs.Assembly as assembly
use Rattle.rtps_capture.specs.Frames as frames
use Rattle.rtps_capture.specs.Packets as packets
use Rattle.rtps_capture.specs.Pieces as pieces
use Rattle.rtps_capture.specs.Recent as recent
use Rattle.rtps_capture.specs.Times as times
use Rattle.rtps_capture.specs.declared.assembly.KeyedMaking.{KeyedMaking}
use Rattle.rtps_capture.specs.declared.byte_range.ByteRange.{ByteRange}
use Rattle.rtps_capture.specs.declared.capture.CaptureFault.{CaptureFault}
use Rattle.rtps_capture.specs.declared.capture.Counts.{Counts}
use Rattle.rtps_capture.specs.declared.capture_reader.Summary.{Summary}
use Rattle.rtps_capture.specs.declared.captures.Captures.{Captures}
use Rattle.rtps_capture.specs.declared.fragment.Fragment.{Fragment}
use Rattle.rtps_capture.specs.declared.fragment.FragmentHosts.{FragmentHosts}
use Rattle.rtps_capture.specs.declared.fragment.FragmentKey.{FragmentKey}
use Rattle.rtps_capture.specs.declared.frames.CapturedFrame.{CapturedFrame}
use Rattle.rtps_capture.specs.declared.frames.Frame.{Frame}
use Rattle.rtps_capture.specs.declared.packet.Contents.{Contents}

-- a datagram: its octets, when the frame was captured that gave or completed it, in nanoseconds since 1970 began (UTC), and the
-- number of that frame
pub record DatagramValue : Type 0 where
  pub octets : List ℕ
  pub time : Option ℕ
  pub frame : ℕ

-- What is noted of the frames so far: the octets of their fragments, one behind another, and the fragments of the keys that are
-- remembered, which stand there; how many datagrams there were; the first and the greatest time of a frame, and the numbers of frames.
pub record Notes : Type 0 where
  pub kept : List ℕ
  pub recent : FragmentHosts → List KeyedMaking
  pub datagrams : ℕ
  pub start : Option ℕ
  pub end : Option ℕ
  pub counts : Counts

-- of no frame
abbrev pub no_notes : Notes
no_notes = record {
  kept = [];
  recent = λ hosts. [];
  datagrams = 0;
  start = None;
  end = None;
  counts = record { frames = 0; fresh = 0; settled = 0; cut = 0; other = 0; links = 0; first_link = None };
}

-- what a frame gives, and what is noted then
pub record Given : Type 0 where
  pub datagram : Option DatagramValue
  pub notes : Notes

-- no datagram
abbrev pub gives_none : Notes → Given
gives_none notes = record { datagram = None; notes = notes }

-- a datagram of the frame that was counted last
abbrev pub gives_one : Notes → Option ℕ → List ℕ → Given
gives_one notes time octets = record {
  datagram = Some (record { octets = octets; time = time; frame = notes.counts.frames });
  notes = record notes { datagrams = notes.datagrams + 1 };
}

-- a fragment as it stands behind so many octets
abbrev pub fragment_behind : ℕ → Fragment → Fragment
fragment_behind at fragment = record fragment { range = record { from = at; to = at + packets.fragment_size fragment } }

-- with a fragment of this key, whose octets are kept
abbrev pub notes_joined : Notes → List ℕ → FragmentKey → assembly.Joined → Notes
notes_joined notes kept key joined = record notes {
  kept = kept;
  recent = λ hosts. if is_eq (recent.hosts_cmp (recent.hosts_of key) hosts) then recent.recent_with key.identification joined.making (notes.recent (recent.hosts_of key)) else notes.recent hosts;
  counts = record notes.counts {
    fresh = notes.counts.fresh + (if joined.taken.fresh then 1 else 0);
    settled = notes.counts.settled + joined.taken.settled;
  };
}

-- the datagram of a packet, if it gives one now
abbrev pub gives_joined : Notes → Option ℕ → assembly.Joined → Option ByteRange → Given
gives_joined notes time joined None = gives_none notes
gives_joined notes time joined (Some range) = gives_one notes time (slice_range joined.packet range.from range.to)

-- what the fragments of its key give with one more, which stands in what is kept
abbrev pub joined_in : Notes → List ℕ → Fragment → assembly.Joined
joined_in notes kept fragment = assembly.taken_piece kept fragment.key (recent.making_in (notes.recent (recent.hosts_of fragment.key)) fragment.key.identification) (pieces.piece_of fragment)

-- a fragment, which stands in what is kept
abbrev pub gives_kept : Notes → Option ℕ → List ℕ → Fragment → Given
gives_kept notes time kept fragment =
    let joined = joined_in notes kept fragment in gives_joined (notes_joined notes kept fragment.key joined) time joined joined.taken.datagram

-- a fragment, which stands in the octets of its frame
abbrev pub gives_fragment : Notes → Option ℕ → List ℕ → Fragment → Given
gives_fragment notes time frame fragment =
    gives_kept notes time (notes.kept ++ slice_range frame fragment.range.from fragment.range.to) (fragment_behind (length notes.kept) fragment)

-- a frame with these octets and contents, which is counted
abbrev pub gives_contents : Notes → Option ℕ → List ℕ → Contents → Given
gives_contents notes time frame (Contents.Datagram range) = gives_one notes time (slice_range frame range.from range.to)
gives_contents notes time frame (Contents.Fragment fragment) = gives_fragment notes time frame fragment
gives_contents notes time frame Contents.Cut = gives_none (record notes { counts = record notes.counts { cut = notes.counts.cut + 1 } })
gives_contents notes time frame Contents.Other = gives_none (record notes { counts = record notes.counts { other = notes.counts.other + 1 } })

-- one frame more was there
abbrev pub counted : Notes → Notes
counted notes = record notes { counts = record notes.counts { frames = notes.counts.frames + 1 } }

-- the octets of a frame
abbrev pub frame_octets : List ℕ → CapturedFrame → List ℕ
frame_octets octets frame = slice_range octets frame.range.from frame.range.to

-- a frame whose link type is read, which stands in these octets
unfoldable pub gives_captured : Captures → List ℕ → Notes → CapturedFrame → Given
gives_captured captures octets notes frame =
    gives_contents (counted notes) frame.time (frame_octets octets frame) (packets.contents_read captures frame.link (frame_octets octets frame))

-- a frame of a link type that is not read; the first one is told
abbrev pub with_link : Notes → Option ℕ → Notes
with_link notes link = record notes {
  counts = record notes.counts {
    links = notes.counts.links + 1;
    first_link = if notes.counts.links == 0 then link else notes.counts.first_link;
  };
}

-- the datagrams are as many as are wanted
abbrev pub limited : ℕ → Given → Result Given CaptureFault
limited most given = if nat_lt most given.notes.datagrams then Err CaptureFault.TooMany else Ok given

-- the rest of a file that ends within a frame
abbrev pub gives_rest : Captures → Notes → Result Given CaptureFault
gives_rest Captures.Classic notes = Err (CaptureFault.CutCapture (notes.counts.frames + 1))
gives_rest Captures.Any notes = Ok (gives_none (record notes { counts = record notes.counts { frames = notes.counts.frames + 1; cut = notes.counts.cut + 1 } }))

-- with the time of a frame: the first one that there is stays, and so does the greatest one
abbrev pub timed : Notes → Frame → Notes
timed notes frame = record notes { start = option_or notes.start (frames.time_of frame); end = times.later_of notes.end (frames.time_of frame) }

-- what a record or block gives whose time is noted and which stands in these octets
abbrev pub gives_noted : Captures → ℕ → List ℕ → Notes → Frame → Result Given CaptureFault
gives_noted captures most octets notes (Frame.Captured frame) = limited most (gives_captured captures octets notes frame)
gives_noted captures most octets notes (Frame.Unread link time) = Ok (gives_none (with_link (counted notes) link))
gives_noted captures most octets notes Frame.NoFrame = Ok (gives_none notes)
gives_noted captures most octets notes Frame.Rest = gives_rest captures notes
gives_noted captures most octets notes Frame.BadBlock = Err CaptureFault.BadCapture
gives_noted captures most octets notes Frame.Damaged = Err (CaptureFault.Damaged (notes.counts.frames + 1))
gives_noted captures most octets notes Frame.CutFrame = Err (CaptureFault.CutCapture (notes.counts.frames + 1))

-- what a record or block gives that stands in these octets
unfoldable pub frame_gives : Captures → ℕ → List ℕ → Notes → Frame → Result Given CaptureFault
frame_gives captures most octets notes frame = gives_noted captures most octets (timed notes frame) frame

-- what is told of the frames for which this is noted
abbrev pub summary_of : Notes → Summary
summary_of notes = record {
  start = notes.start;
  end = notes.end;
  pieces = notes.counts.fresh - notes.counts.settled;
  cut = notes.counts.cut;
  other = notes.counts.other;
  links = notes.counts.links;
  first_link = notes.counts.first_link;
}

-- all frames that are ignored
abbrev pub ignored_of : Summary → ℕ
ignored_of summary = summary.pieces + summary.cut + summary.other + summary.links

-- the datagrams, and what is told of the frames behind the last one, or the fault behind them
pub record Course : Type 0 where
  pub datagrams : List DatagramValue
  pub end : Result Summary CaptureFault

-- what is told of a frame, and then more
abbrev pub course_with : Result Given CaptureFault → (Notes → Course) → Course
course_with (Ok given) more = record { datagrams = option_to_list given.datagram ++ (more given.notes).datagrams; end = (more given.notes).end }
course_with (Err fault) more = record { datagrams = []; end = Err fault }

-- what is told of these records or blocks, one after another, which stand in these octets
abbrev pub course_of_frames : Captures → ℕ → List ℕ → Notes → List Frame → Course
course_of_frames captures most octets notes [] = record { datagrams = []; end = Ok (summary_of notes) }
course_of_frames captures most octets notes (frame ∷ frames) =
    course_with (frame_gives captures most octets notes frame) (λ next. course_of_frames captures most octets next frames)

-- what is told of what is unread
unfoldable pub course_left : ℕ → Notes → frames.Unread → Course
course_left most notes unread = course_of_frames unread.captures most unread.octets notes (frames.frames_left unread)

-- what is told of a capture, behind its header
abbrev pub course_opened : ℕ → Option frames.Unread → Course
course_opened most None = record { datagrams = []; end = Err CaptureFault.BadCapture }
course_opened most (Some unread) = course_left most no_notes unread

-- what is told of a file where these captures are read, datagram by datagram
unfoldable pub course_of : Captures → ℕ → List ℕ → Course
course_of captures most file = course_opened most (frames.opened captures file)
