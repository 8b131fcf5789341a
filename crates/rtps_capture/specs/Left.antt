-- The frames of a capture by what is left of its octets: a capture that comes by blocks is read so, since what is passed is held no more.
-- PCAP Capture File Format (IETF draft), 5 "Packet Record"; PCAP Now Generic Capture File Format (IETF draft), 3 "General File Structure".
-- own: where a capture is cut into blocks changes nothing of what it says.
use Rattle.std.specs.Prelude.{ℕ, ◌+◌, ◌≡◌, ◌≤◌, nat_le, Bool, true, false, if◌then◌else◌, List, ◌++◌, length, drop, Option, Some, None}
use Rattle.rtps_capture.specs.Blocks as blocks
use Rattle.rtps_capture.specs.Frames as frames_spec
use Rattle.rtps_capture.specs.Held as held_spec
use Rattle.rtps_capture.specs.OctetNumbers as octet_numbers
use Rattle.rtps_capture.specs.Packets as packets
use Rattle.rtps_capture.specs.declared.capture.CaptureFault.{CaptureFault}
use Rattle.rtps_capture.specs.declared.frames.Frame.{Frame}
use Rattle.rtps_capture.specs.declared.frames.Frames.{Frames}
use Rattle.rtps_capture.specs.declared.frames.Records.{Records}
use Rattle.rtps_capture.specs.declared.layout.record.TheConstants as frame_header
use Rattle.rtps_capture.specs.declared.read_fault.ReadFault.{ReadFault}

-- what is unread, without the octets that are passed
abbrev pub behind_passed : frames_spec.Unread → frames_spec.Unread
behind_passed unread = record unread { octets = drop unread.at unread.octets; at = 0 }

-- a frame whose range is counted from another place on
abbrev pub moved_frame : ℕ → Frame → Frame
moved_frame by (Frame.Captured frame) = Frame.Captured (record frame { range = packets.moved_range by frame.range })
moved_frame by other = other

-- behind this nothing can be found
abbrev pub ends_reading : Frame → Bool
ends_reading Frame.BadBlock = true
ends_reading Frame.Damaged = true
ends_reading other = false

-- how many octets a record has that is whole, or those that tell that it cannot be
abbrev pub record_size : frames_spec.Unread → ℕ → ℕ
record_size unread size = if frames_spec.is_damaged unread.captures size then frame_header.SIZE else frame_header.SIZE + size

-- how many octets from its place on decide what the next record gives
abbrev pub record_needed : frames_spec.Unread → ℕ
record_needed unread =
    if nat_le (frames_spec.frame_from unread) (length unread.octets)
    then record_size unread (octet_numbers.four_at unread.order unread.octets (unread.at + frame_header.CAPTURED))
    else frame_header.SIZE

-- how many decide what the next record or block gives
abbrev pub needed_by : frames_spec.Unread → Option Records → ℕ
needed_by unread None = blocks.block_needed unread.order unread.octets unread.at
needed_by unread (Some records) = record_needed unread

-- how many octets from its place on decide what the next record or block gives
abbrev pub needed : frames_spec.Unread → ℕ
needed unread = needed_by unread unread.records

-- With more octets behind those of what is unread, the next step gives the same, and leaves the same but for these.
abbrev pub IsDecided : frames_spec.Unread → List ℕ → Type 0
IsDecided unread more =
    let one = frames_spec.step_of unread in let other = frames_spec.step_of (record unread { octets = unread.octets ++ more }) in
    (other.gives ≡ one.gives) × (ends_reading one.gives ≡ false → other.next ≡ record one.next { octets = unread.octets ++ more })

-- the step gave this, and left that, unless nothing can be found behind it
abbrev pub IsStep : frames_spec.Step → Frame → frames_spec.Unread → Type 0
IsStep step frame unread = (frame ≡ step.gives) × (ends_reading frame ≡ false → unread ≡ step.next)

-- what was next was given, by the octets that are left before and behind it
abbrev pub GivesFrame : frames_spec.Unread → frames_spec.Unread → Option Frame → Type 0
GivesFrame old new None = (length old.octets ≤ old.at) × (length new.octets ≤ new.at)
GivesFrame old new (Some frame) = (old.at + 1 ≤ length old.octets) × IsStep (frames_spec.step_of (behind_passed old)) frame new

-- what was next was given for which these octets were read, whatever may come behind them
pub record GivesNext (unread left : Option (List ℕ)) (old new : held_spec.HeldValue) (before after : Frames) (given : Option Frame) : Type 0 where
  pub more : List ℕ
  pub reads : held_spec.Reads unread left old new more
  pub gives : (later : List ℕ) → held_spec.MayCome new later
      → GivesFrame (frames_spec.unread_of (old.octets ++ (more ++ later)) before) (frames_spec.unread_of (new.octets ++ later) after) given

-- a fault that says nothing of the capture: a read of the input failed, or memory was refused
abbrev pub IsOpenFault : ReadFault → Type 0
IsOpenFault ReadFault.Input = Unit {0}
IsOpenFault (ReadFault.Capture fault) = fault ≡ CaptureFault.Memory
