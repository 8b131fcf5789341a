-- What the structs hold that note the course of a capture. own: they are seen as the values of `specs/Course.antt`.
use Rattle.std.specs.Prelude.{ℕ, ◌+◌, ◌*◌, ◌^◌, ◌≡◌, ◌≤◌, List, ◌++◌, length, slice_range, Option, Some, None, option_map, Result, Ok, Err}
use Rattle.rtps_capture.specs.Capture as capture
use Rattle.rtps_capture.specs.Course as course
use Rattle.rtps_capture.specs.Recent as recent
use Rattle.rtps_capture.specs.declared.byte_range.ByteRange.{ByteRange}
use Rattle.rtps_capture.specs.declared.capture.CaptureFault.{CaptureFault}
use Rattle.rtps_capture.specs.declared.fragment.Fragment.{Fragment}
use Rattle.rtps_capture.specs.declared.notes.Found.{Found}
use Rattle.rtps_capture.specs.declared.notes.Notes.{Notes as NotesStruct}
use Rattle.rtps_capture.specs.declared.notes.Place.{Place}

-- what a struct has noted
abbrev pub notes_of : NotesStruct → course.Notes
notes_of notes = record {
  kept = notes.kept.items;
  recent = recent.recent_of notes.assembly.recents;
  datagrams = notes.datagrams;
  start = notes.start;
  end = notes.end;
  counts = notes.counts;
}

-- the octets at a place of a frame or a packet
abbrev pub place_octets : List ℕ → List ℕ → Place → List ℕ
place_octets frame packet (Place.Frame range) = slice_range frame range.from range.to
place_octets frame packet (Place.Packet range) = slice_range packet range.from range.to

-- the datagram at a place, with this time and number
abbrev pub given_at : List ℕ → List ℕ → Option ℕ → ℕ → Place → course.DatagramValue
given_at frame packet time number place = record { octets = place_octets frame packet place; time = time; frame = number }

-- the datagram that was found, where its frame stands in these octets
abbrev pub datagram_at : List ℕ → List ℕ → Found → course.DatagramValue
datagram_at octets packet found = given_at (slice_range octets found.range.from found.range.to) packet found.time found.frame found.place

-- the datagram that was found last, with what is held of the capture
abbrev pub found_datagram : List ℕ → NotesStruct → Option Found → Option course.DatagramValue
found_datagram held notes found = option_map (datagram_at held notes.packet.items) found

-- the range of a place
abbrev pub place_range : Place → ByteRange
place_range (Place.Frame range) = range
place_range (Place.Packet range) = range

-- how many octets there are where a place is
abbrev pub place_size : List ℕ → List ℕ → Place → ℕ
place_size frame packet (Place.Frame range) = length frame
place_size frame packet (Place.Packet range) = length packet

-- the range of the frame; where none was found, it is empty
abbrev pub frame_range : Option Found → ByteRange
frame_range None = record { from = 0; to = 0 }
frame_range (Some found) = found.range

-- the range of the datagram in its frame or packet
abbrev pub datagram_range : Option Found → ByteRange
datagram_range None = record { from = 0; to = 0 }
datagram_range (Some found) = place_range found.place

-- how many octets its frame or packet has
abbrev pub datagram_room : List ℕ → List ℕ → Option Found → ℕ
datagram_room octets packet None = 0
datagram_room octets packet (Some found) = place_size (slice_range octets found.range.from found.range.to) packet found.place

-- the range is one of so many octets
abbrev pub IsRange : ByteRange → ℕ → Type 0
IsRange range size = (range.from ≤ range.to) × (range.to ≤ size)

-- the frame stands in these octets, and the datagram in it or in a packet
abbrev pub FoundStands : List ℕ → List ℕ → Option Found → Type 0
FoundStands octets packet found = IsRange (frame_range found) (length octets) × IsRange (datagram_range found) (datagram_room octets packet found)

-- the frames that are counted are no more than there are, less so many, each of them settled fewer fragments than 64 bits count, and
-- each gave one datagram at most
pub record AreCountedWith (room : ℕ) (notes : NotesStruct) : Type 0 where
  pub told : notes.counts.fresh + notes.counts.cut + notes.counts.links + room ≤ notes.counts.frames
  pub settled : notes.counts.settled + 2 ^ 64 * room ≤ 2 ^ 64 * notes.counts.frames
  pub other : notes.counts.other + room ≤ notes.counts.frames
  pub given : notes.datagrams + room ≤ notes.counts.frames

-- they are no more than there are
abbrev pub AreCounted : NotesStruct → Type 0
AreCounted notes = AreCountedWith 0 notes

-- This was noted, and the datagram found that is given, or the fault is the one that is there.
abbrev pub IsNoted : Result course.Given CaptureFault → List ℕ → NotesStruct → Result (Option Found) CaptureFault → Type 0
IsNoted defined octets notes (Ok found) = defined ≡ Ok (record { datagram = option_map (datagram_at octets notes.packet.items) found; notes = notes_of notes })
IsNoted defined octets notes (Err fault) = capture.IsFault defined fault

-- a fragment of this frame was taken
abbrev pub TakesKept : NotesStruct → NotesStruct → List ℕ → Fragment → Option Place → Type 0
TakesKept old new frame fragment found =
    let kept = old.kept.items ++ slice_range frame fragment.range.from fragment.range.to in
    let joined = course.joined_in (notes_of old) kept (course.fragment_behind (length old.kept.items) fragment) in
    (notes_of new ≡ course.notes_joined (notes_of old) kept fragment.key joined) × (found ≡ option_map Place.Packet joined.taken.datagram) × (new.packet.items ≡ joined.packet)
