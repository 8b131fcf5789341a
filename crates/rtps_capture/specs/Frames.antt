-- The frames of a capture of either form. PCAP Capture File Format (IETF draft), 4 "File Header" and 5 "Packet Record"; PCAP Now
-- Generic Capture File Format (IETF draft), 4 "Block Definitions".
-- own: behind a record or a block that is not whole, or cannot be, nothing is read, since what is there cannot be found. A frame with
-- more octets than tools capture of one cannot be; of classic captures alone any number of octets is taken.
use Rattle.std.specs.Prelude.{ℕ, zero, suc, ◌+◌, ◌-◌, ◌≡◌, ◌==◌, ◌≤◌, ◌<◌, min, nat_le, nat_lt, Bool, false, if◌then◌else◌, List, [], ◌∷◌, ◌++◌, length, slice_get, slice_range, Option, Some, None, option_and_then, option_map}
use Rattle.rtps_ids.specs.declared.order.Order.{Order}
use Rattle.rtps_capture.specs.Blocks as blocks
use Rattle.rtps_capture.specs.LinkTypes as link_types
use Rattle.rtps_capture.specs.OctetNumbers as octet_numbers
use Rattle.rtps_capture.specs.Opening as opening
use Rattle.rtps_capture.specs.Options as options
use Rattle.rtps_capture.specs.Times as times
use Rattle.rtps_capture.specs.declared.blocks.Block.{Block}
use Rattle.rtps_capture.specs.declared.blocks.Interface.{Interface}
use Rattle.rtps_capture.specs.declared.blocks.WholeBlock.{WholeBlock}
use Rattle.rtps_capture.specs.declared.byte_range.ByteRange.{ByteRange}
use Rattle.rtps_capture.specs.declared.captures.Captures.{Captures}
use Rattle.rtps_capture.specs.declared.frames.Frame.{Frame}
use Rattle.rtps_capture.specs.declared.frames.Frames.{Frames}
use Rattle.rtps_capture.specs.declared.frames.Records.{Records}
use Rattle.rtps_capture.specs.declared.layout.block.TheConstants as block
use Rattle.rtps_capture.specs.declared.layout.file.TheConstants as file_header
use Rattle.rtps_capture.specs.declared.layout.interface.TheConstants as interface
use Rattle.rtps_capture.specs.declared.layout.packet_block.TheConstants as packet_block
use Rattle.rtps_capture.specs.declared.layout.record.TheConstants as frame_header
use Rattle.rtps_capture.specs.declared.link_type.LinkType.{LinkType}

-- what is still unread of a capture: its octets from this place on, what the records of a classic one are, and the interfaces of
-- the section so far
pub record Unread : Type 0 where
  pub captures : Captures
  pub octets : List ℕ
  pub at : ℕ
  pub order : Order
  pub records : Option Records
  pub interfaces : List Interface

-- no frame has so many octets: the file is damaged there, or is two files in one
abbrev pub is_damaged : Captures → ℕ → Bool
is_damaged Captures.Classic size = false
is_damaged Captures.Any size = nat_lt frame_header.MOST size

-- a frame of this link type, if that is read
abbrev pub frame_of_link : Interface → Option ℕ → ByteRange → Option LinkType → Frame
frame_of_link interface ticks range None = Frame.Unread (Some interface.link) (option_and_then (times.block_time interface) ticks)
frame_of_link interface ticks range (Some link) = Frame.Captured (record { link = link; range = range; time = option_and_then (times.block_time interface) ticks })

-- a frame of this interface, if the section declared it; else the unit of its time is not known
abbrev pub frame_of_interface : Option ℕ → ByteRange → Option Interface → Frame
frame_of_interface ticks range None = Frame.Unread None None
frame_of_interface ticks range (Some interface) = frame_of_link interface ticks range (link_types.link_type_numbered interface.link)

-- the time of a frame, if it has one; the rest of a file that ends within a frame has none
abbrev pub time_of : Frame → Option ℕ
time_of (Frame.Captured frame) = frame.time
time_of (Frame.Unread link time) = time
time_of other = None

-- the frame of so many octets that begins a range, where the range has them
unfoldable pub framed : Option Interface → Option ℕ → ℕ → ByteRange → Frame
framed interface ticks size range =
    if is_damaged Captures.Any size then Frame.Damaged
    else if nat_le size (range.to - range.from) then frame_of_interface ticks (record { from = range.from; to = range.from + size }) interface
    else Frame.CutFrame

-- the most octets that an interface captures of a frame; 0 is no limit
abbrev pub snap_of : Option Interface → ℕ
snap_of None = 0
snap_of (Some interface) = interface.snap

-- how many octets of a frame of this length a Simple Packet Block has, with room for so many: the interface limits them
abbrev pub simple_size : ℕ → ℕ → ℕ → ℕ
simple_size snap original room = min original (if snap == 0 then room else min snap room)

-- where the body of a block begins that is at this place
abbrev pub body_at : ℕ → ℕ
body_at at = at + block.BODY

-- where it ends
abbrev pub body_end : WholeBlock → ℕ
body_end whole = whole.to - block.REPETITION

-- the frame of a block whose interface has this number; they count from 0
abbrev pub packet_framed : List Interface → ℕ → WholeBlock → List ℕ → ℕ → Frame
packet_framed interfaces number whole file at =
    framed (slice_get interfaces number) (Some (times.pair_at whole.order file (body_at at + packet_block.TICKS)))
    (octet_numbers.four_at whole.order file (body_at at + packet_block.CAPTURED)) (record { from = body_at at + packet_block.FIXED; to = body_end whole })

-- the frame of a Simple Packet Block
abbrev pub simple_framed : Option Interface → WholeBlock → List ℕ → ℕ → Frame
simple_framed first whole file at =
    framed first None (simple_size (snap_of first) (octet_numbers.four_at whole.order file (body_at at)) (body_end whole - (body_at at + packet_block.SIMPLE)))
    (record { from = body_at at + packet_block.SIMPLE; to = body_end whole })

-- what a block at this place gives
unfoldable pub frame_of_block : List Interface → WholeBlock → List ℕ → ℕ → Frame
frame_of_block interfaces whole file at =
    if whole.kind == block.ENHANCED then packet_framed interfaces (octet_numbers.four_at whole.order file (body_at at)) whole file at
    else if whole.kind == block.OLD then packet_framed interfaces (octet_numbers.two_at whole.order file (body_at at)) whole file at
    else if whole.kind == block.SIMPLE then simple_framed (slice_get interfaces 0) whole file at
    else Frame.NoFrame

-- the interface that a block declares at this place: two fields, and two of its options
abbrev pub interface_of : WholeBlock → List ℕ → ℕ → Interface
interface_of whole file at = record {
  link = octet_numbers.two_at whole.order file (body_at at + interface.LINK);
  snap = octet_numbers.four_at whole.order file (body_at at + interface.SNAP);
  resolution = options.resolution_told whole.order (slice_range file (body_at at + interface.FIXED) (body_end whole));
  offset = options.offset_told whole.order (slice_range file (body_at at + interface.FIXED) (body_end whole));
}

-- the interfaces behind a block: a section begins with none
unfoldable pub interfaces_behind : List Interface → WholeBlock → List ℕ → ℕ → List Interface
interfaces_behind interfaces whole file at =
    if whole.kind == block.SECTION then []
    else if whole.kind == block.INTERFACE then interfaces ++ interface_of whole file at ∷ []
    else interfaces

-- what one record or block gives, and what is unread behind it
pub record Step : Type 0 where
  pub gives : Frame
  pub next : Unread

-- this gives so much, and behind it nothing is read
abbrev pub end_with : Frame → Unread → Step
end_with frame unread = record { gives = frame; next = record unread { at = length unread.octets } }

-- this is what the step gives, and what it leaves
abbrev pub TakesStep : Step → Frame → Unread → Type 0
TakesStep step frame unread = (frame ≡ step.gives) × (unread ≡ step.next)

-- a block
abbrev pub step_of_block : Unread → Block → Step
step_of_block unread Block.Unfinished = end_with Frame.Rest unread
step_of_block unread Block.Bad = end_with Frame.BadBlock unread
step_of_block unread (Block.Whole whole) = record {
  gives = frame_of_block unread.interfaces whole unread.octets unread.at;
  next = record unread {
    at = whole.to;
    order = whole.order;
    interfaces = interfaces_behind unread.interfaces whole unread.octets unread.at;
  };
}

-- where the octets of a record begin
abbrev pub frame_from : Unread → ℕ
frame_from unread = unread.at + frame_header.SIZE

-- a record of a classic capture that has so many octets of a frame
abbrev pub step_of_sized : Unread → Records → ℕ → Step
step_of_sized unread records size =
    if is_damaged unread.captures size then end_with Frame.Damaged unread
    else if nat_le size (length unread.octets - frame_from unread) then record {
      gives = Frame.Captured (record {
        link = records.link;
        range = record { from = frame_from unread; to = frame_from unread + size };
        time = Some (times.record_time records.nanoseconds unread.order unread.octets unread.at);
      });
      next = record unread { at = frame_from unread + size };
    }
    else end_with Frame.Rest unread

-- a record
abbrev pub step_of_record : Unread → Records → Step
step_of_record unread records =
    if nat_le (frame_from unread) (length unread.octets)
    then step_of_sized unread records (octet_numbers.four_at unread.order unread.octets (unread.at + frame_header.CAPTURED))
    else end_with Frame.Rest unread

-- by the form of the file
abbrev pub step_by : Unread → Option Records → Step
step_by unread None = step_of_block unread (blocks.block_at unread.order unread.octets unread.at)
step_by unread (Some records) = step_of_record unread records

-- one record or block
unfoldable pub step_of : Unread → Step
step_of unread = step_by unread unread.records

-- what at most so many records or blocks give
unfoldable pub steps_within : ℕ → Unread → List Frame
steps_within zero unread = []
steps_within (suc n) unread =
    if nat_lt unread.at (length unread.octets) then (step_of unread).gives ∷ steps_within n (step_of unread).next else []

-- what all of them give: each has one octet at least
unfoldable pub frames_left : Unread → List Frame
frames_left unread = steps_within (length unread.octets - unread.at) unread

-- These are what a file gives from here on, and then it ends.
abbrev pub HasFrames : Unread → List Frame → Type 0
HasFrames unread [] = length unread.octets ≤ unread.at
HasFrames unread (frame ∷ frames) =
    (unread.at < length unread.octets) × (frame ≡ (step_of unread).gives) × HasFrames (step_of unread).next frames

-- From each place on, a file has frames, no others, and these are read. own: a file that could be read in two ways would be no evidence.
pub record HasOneReading : Type 0 where
  pub exists : (unread : Unread) → (frames : List Frame) × HasFrames unread frames
  pub unique : (unread : Unread) (frames others : List Frame) → HasFrames unread frames → HasFrames unread others → frames ≡ others
  pub read : (unread : Unread) (frames : List Frame) → HasFrames unread frames → frames_left unread ≡ frames

-- a classic capture whose frames are of this link type; the number that it begins with tells what fractions of a second are
abbrev pub classic_with : Captures → List ℕ → Order → LinkType → Unread
classic_with captures file order link = record {
  captures = captures;
  octets = file;
  at = file_header.SIZE;
  order = order;
  records = Some (record { link = link; nanoseconds = octet_numbers.four_at order file 0 == file_header.NANOSECONDS });
  interfaces = [];
}

-- a pcapng file whose first block is this one: it is a section header
abbrev pub section_opened : List ℕ → Block → Option Unread
section_opened file (Block.Whole whole) =
    if whole.kind == block.SECTION
    then Some (record { captures = Captures.Any; octets = file; at = whole.to; order = whole.order; records = None; interfaces = [] })
    else None
section_opened file other = None

-- a capture of the form that its first four octets tell; of classic captures alone one of the other form is none
abbrev pub opened_by : Captures → List ℕ → Option Order → Option Unread
opened_by Captures.Classic file None = None
opened_by Captures.Any file None = section_opened file (blocks.block_at Order.Big file 0)
opened_by captures file (Some order) = option_map (classic_with captures file order) (option_and_then (link_types.link_read captures) (opening.link_type_in order file))

-- a capture with its frames still unread, where these octets are one of those that are read
unfoldable pub opened : Captures → List ℕ → Option Unread
opened captures file = opened_by captures file (opening.order_of file)

-- a frame stands within so many octets
abbrev pub StandsInFile : ℕ → Frame → Type 0
StandsInFile size (Frame.Captured frame) = (frame.range.from ≤ frame.range.to) × (frame.range.to ≤ size)
StandsInFile size other = Unit {0}

-- what these frames are unread of a file
abbrev pub unread_of : List ℕ → Frames → Unread
unread_of file frames = record {
  captures = frames.captures;
  octets = file;
  at = frames.at;
  order = frames.order;
  records = frames.records;
  interfaces = frames.interfaces.items;
}
