-- The datagrams of a capture, with their times and frames, its start and its end, and its ignored frames by the reason.
-- own: a frame is ignored that gives no datagram, is no fragment of a packet that gives one, and is no repeat. Faults stand at their
-- places in the file: the first one is told. A file that ends within a record or a block is no fault: a recorder that is stopped
-- leaves such a file, and what was not recorded cannot be told from what was not sent. Of classic captures alone it is one.
use Rattle.std.specs.Prelude.{ℕ, ◌+◌, ◌-◌, ◌≡◌, ◌==◌, nat_lt, if◌then◌else◌, List, [], ◌∷◌, ◌++◌, length, slice_range, Option, Some, None, option_map, option_to_list, Result, Ok, Err}
use Rattle.std.specs.Option.{option_or}
use Rattle.std.specs.Ordering.{is_eq}
use Rattle.rtps_capture.specs.Frames as frames_spec
use Rattle.rtps_capture.specs.Assembly as assembly
use Rattle.rtps_capture.specs.Packets as packets
use Rattle.rtps_capture.specs.Pieces as pieces
use Rattle.rtps_capture.specs.Recent as recent
use Rattle.rtps_capture.specs.Times as times
use Rattle.rtps_capture.specs.declared.capture.CaptureFault.{CaptureFault}
use Rattle.rtps_capture.specs.declared.capture.Counts.{Counts}
use Rattle.rtps_capture.specs.declared.captures.Captures.{Captures}
use Rattle.rtps_capture.specs.declared.frames.Frame.{Frame}
use Rattle.rtps_capture.specs.declared.frames.CapturedFrame.{CapturedFrame}
use Rattle.rtps_capture.specs.declared.assembly.KeyedMaking.{KeyedMaking}
use Rattle.rtps_capture.specs.declared.assembly.Making.{Making}
use Rattle.rtps_capture.specs.declared.byte_range.ByteRange.{ByteRange}
use Rattle.rtps_capture.specs.declared.packet.Contents.{Contents}
use Rattle.rtps_capture.specs.declared.fragment.FragmentHosts.{FragmentHosts}
use Rattle.rtps_capture.specs.declared.fragment.FragmentKey.{FragmentKey}

-- what was read so far: the fragments of the keys of each two hosts that are remembered, the datagrams, their times and the numbers of their frames, the first and the greatest time of a frame, the
-- octets behind the file, and the numbers of frames
pub record Collected : Type 0 where
  pub recent : FragmentHosts → List KeyedMaking
  pub datagrams : List ByteRange
  pub times : List (Option ℕ)
  pub frames : List ℕ
  pub start : Option ℕ
  pub end : Option ℕ
  pub behind : List ℕ
  pub counts : Counts

-- nothing so far
abbrev pub nothing : Collected
nothing = record {
  recent = λ hosts. [];
  datagrams = [];
  times = [];
  frames = [];
  start = None;
  end = None;
  behind = [];
  counts = record { frames = 0; fresh = 0; settled = 0; cut = 0; other = 0; links = 0; first_link = None };
}

-- what a frame contains that stands there in the file
unfoldable pub contents_in : Captures → List ℕ → CapturedFrame → Contents
contents_in captures file frame =
    packets.moved_contents frame.range.from (packets.contents_read captures frame.link (slice_range file frame.range.from frame.range.to))

-- the fragments of a key; one that is forgotten has none
abbrev pub remembered : Collected → FragmentKey → Making
remembered so_far key = recent.making_in (so_far.recent (recent.hosts_of key)) key.identification

-- What is there with a fragment of this key, whose frame has this time: the octets of a packet that gives its datagram come behind
-- the others.
abbrev pub with_fragment : List ℕ → Option ℕ → Collected → FragmentKey → assembly.Joined → Collected
with_fragment file time so_far key joined = record {
  recent = λ hosts. if is_eq (recent.hosts_cmp (recent.hosts_of key) hosts) then recent.recent_with key.identification joined.making (so_far.recent (recent.hosts_of key)) else so_far.recent hosts;
  datagrams = so_far.datagrams ++ option_to_list (option_map (packets.moved_range (length file + length so_far.behind)) joined.taken.datagram);
  times = so_far.times ++ option_to_list (option_map (λ datagram. time) joined.taken.datagram);
  frames = so_far.frames ++ option_to_list (option_map (λ datagram. so_far.counts.frames) joined.taken.datagram);
  start = so_far.start;
  end = so_far.end;
  behind = so_far.behind ++ joined.packet;
  counts = record so_far.counts {
    fresh = so_far.counts.fresh + (if joined.taken.fresh then 1 else 0);
    settled = so_far.counts.settled + joined.taken.settled;
  };
}

-- With the contents of a frame more, which has this time and is the last one that was counted. own: a datagram has the number of the frame
-- that gave or completed it, by which other programs name it.
abbrev pub with_contents : List ℕ → Option ℕ → Collected → Contents → Collected
with_contents file time so_far (Contents.Datagram range) =
    record so_far { datagrams = so_far.datagrams ++ range ∷ []; times = so_far.times ++ time ∷ []; frames = so_far.frames ++ so_far.counts.frames ∷ [] }
with_contents file time so_far (Contents.Fragment fragment) =
    with_fragment file time so_far fragment.key (assembly.taken_piece file fragment.key (remembered so_far fragment.key) (pieces.piece_of fragment))
with_contents file time so_far Contents.Cut = record so_far { counts = record so_far.counts { cut = so_far.counts.cut + 1 } }
with_contents file time so_far Contents.Other = record so_far { counts = record so_far.counts { other = so_far.counts.other + 1 } }

-- one frame more was there
abbrev pub with_frame : Collected → Collected
with_frame so_far = record so_far { counts = record so_far.counts { frames = so_far.counts.frames + 1 } }

-- with a frame that contains this
unfoldable pub collected : List ℕ → Option ℕ → Collected → Contents → Collected
collected file time so_far contents = with_contents file time (with_frame so_far) contents

-- with a frame of a link type that is not read; the first one is told
abbrev pub with_link : Collected → Option ℕ → Collected
with_link so_far link = record so_far {
  counts = record so_far.counts {
    links = so_far.counts.links + 1;
    first_link = if so_far.counts.links == 0 then link else so_far.counts.first_link;
  };
}

-- the datagrams are as many as are wanted
abbrev pub limited : ℕ → Collected → Result Collected CaptureFault
limited most so_far = if nat_lt most (length so_far.datagrams) then Err CaptureFault.TooMany else Ok so_far

-- the number of the next frame
abbrev pub next_number : Collected → ℕ
next_number so_far = so_far.counts.frames + 1

-- with the rest of a file that ends within a frame
abbrev pub with_rest : Captures → List ℕ → Collected → Result Collected CaptureFault
with_rest Captures.Classic file so_far = Err (CaptureFault.CutCapture (next_number so_far))
with_rest Captures.Any file so_far = Ok (collected file None so_far Contents.Cut)

-- with the time of a frame: the first one that there is stays, and so does the greatest one
abbrev pub timed : Collected → Frame → Collected
timed so_far frame = record so_far { start = option_or so_far.start (frames_spec.time_of frame); end = times.later_of so_far.end (frames_spec.time_of frame) }

-- with what a record or block gives, whose time is there
abbrev pub with_given : Captures → List ℕ → ℕ → Collected → Frame → Result Collected CaptureFault
with_given captures file most so_far (Frame.Captured frame) = limited most (collected file frame.time so_far (contents_in captures file frame))
with_given captures file most so_far (Frame.Unread link time) = Ok (with_link (with_frame so_far) link)
with_given captures file most so_far Frame.NoFrame = Ok so_far
with_given captures file most so_far Frame.Rest = with_rest captures file so_far
with_given captures file most so_far Frame.BadBlock = Err CaptureFault.BadCapture
with_given captures file most so_far Frame.Damaged = Err (CaptureFault.Damaged (next_number so_far))
with_given captures file most so_far Frame.CutFrame = Err (CaptureFault.CutCapture (next_number so_far))

-- with what a record or block gives
unfoldable pub noted : Captures → List ℕ → ℕ → Collected → Frame → Result Collected CaptureFault
noted captures file most so_far frame = with_given captures file most (timed so_far frame) frame

-- what is behind a result, if that is no fault
abbrev pub or_fault : Result Collected CaptureFault → (Collected → Result Collected CaptureFault) → Result Collected CaptureFault
or_fault (Ok so_far) more = more so_far
or_fault (Err fault) more = Err fault

-- with what these records or blocks give, one after another, up to the first fault
abbrev pub all_noted : Captures → List ℕ → ℕ → Collected → List Frame → Result Collected CaptureFault
all_noted captures file most so_far [] = Ok so_far
all_noted captures file most so_far (frame ∷ frames) = or_fault (noted captures file most so_far frame) (λ more. all_noted captures file most more frames)

-- what is told of a capture: the datagrams and their times, the first and the greatest time of a frame, the octets behind the file, the
-- numbers of ignored frames, and the link type of the first one whose link type is not read
pub record Answer : Type 0 where
  pub datagrams : List ByteRange
  pub times : List (Option ℕ)
  pub frames : List ℕ
  pub start : Option ℕ
  pub end : Option ℕ
  pub behind : List ℕ
  pub pieces : ℕ
  pub cut : ℕ
  pub other : ℕ
  pub links : ℕ
  pub first_link : Option ℕ

-- all is read: the fragments that are no repeats, less those of packets that were whole, are of packets that never were
abbrev pub answer_of : Collected → Answer
answer_of so_far = record {
  datagrams = so_far.datagrams;
  times = so_far.times;
  frames = so_far.frames;
  start = so_far.start;
  end = so_far.end;
  behind = so_far.behind;
  pieces = so_far.counts.fresh - so_far.counts.settled;
  cut = so_far.counts.cut;
  other = so_far.counts.other;
  links = so_far.counts.links;
  first_link = so_far.counts.first_link;
}

-- what is told when all is read, or the fault
abbrev pub answered : Result Collected CaptureFault → Result Answer CaptureFault
answered (Ok so_far) = Ok (answer_of so_far)
answered (Err fault) = Err fault

-- what a capture tells, behind its header
abbrev pub opened_read : Captures → ℕ → Option frames_spec.Unread → Result Answer CaptureFault
opened_read captures most None = Err CaptureFault.BadCapture
opened_read captures most (Some unread) = answered (all_noted captures unread.octets most nothing (frames_spec.frames_left unread))

-- what a file tells where these captures are read
unfoldable pub capture_read : Captures → ℕ → List ℕ → Result Answer CaptureFault
capture_read captures most file = opened_read captures most (frames_spec.opened captures file)

-- the first time among those of these frames, in their order
abbrev pub first_time : List Frame → Option ℕ
first_time [] = None
first_time (frame ∷ frames) = option_or (frames_spec.time_of frame) (first_time frames)

-- The start that is told of a capture is the first time among those of its frames. own: what a reader is told of times is counted
-- from it.
pub record StartIsFirstTime : Type 0 where
  pub first : (captures : Captures) (most : ℕ) (file : List ℕ) (unread : frames_spec.Unread) (answer : Answer) → frames_spec.opened captures file ≡ Some unread
      → capture_read captures most file ≡ Ok answer → answer.start ≡ first_time (frames_spec.frames_left unread)

-- the greatest time among those of these frames
abbrev pub last_time : List Frame → Option ℕ
last_time [] = None
last_time (frame ∷ frames) = times.later_of (frames_spec.time_of frame) (last_time frames)

-- The end that is told of a capture is the greatest time among those of its frames, which is not always that of the last one.
-- own: who is there up to the end is told by it.
pub record EndIsGreatestTime : Type 0 where
  pub greatest : (captures : Captures) (most : ℕ) (file : List ℕ) (unread : frames_spec.Unread) (answer : Answer) → frames_spec.opened captures file ≡ Some unread
      → capture_read captures most file ≡ Ok answer → answer.end ≡ last_time (frames_spec.frames_left unread)

-- the fault is the one that is there, or memory was refused
abbrev pub IsFault : {X : Type 0} → Result X CaptureFault → CaptureFault → Type 0
IsFault is CaptureFault.Memory = Unit {0}
IsFault is other = is ≡ Err other
