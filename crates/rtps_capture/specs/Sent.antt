-- What a datagram of any capture is, whoever collects it: what some packet carried whose octets stand in the file. RFC 791
-- "Internet Protocol", 2.3 "Function Description"; RFC 8200, 4.5 "Fragment Header"; RFC 768 "User Datagram Protocol", "Format".
-- own: a reader that told of a datagram which no packet carried would be no evidence.
use Rattle.std.specs.Prelude.{ℕ, ◌+◌, ◌≡◌, ◌≤◌, ◌<◌, ◌⊎◌, true, false, List, [], ◌∷◌, ◌++◌, length, slice_range, take, Some, None, Ok}
use Rattle.std.specs.List.{AllByRecursion}
use Rattle.rtps_capture.specs.Capture as capture
use Rattle.rtps_capture.specs.Frames as frames
use Rattle.rtps_capture.specs.Assembly as assembly
use Rattle.rtps_capture.specs.Checksum as checksum
use Rattle.rtps_capture.specs.Packets as packets
use Rattle.rtps_capture.specs.Pieces as pieces_spec
use Rattle.rtps_capture.specs.declared.frames.Frame.{Frame}
use Rattle.rtps_capture.specs.declared.captures.Captures.{Captures}
use Rattle.rtps_capture.specs.declared.assembly.Making.{Making}
use Rattle.rtps_capture.specs.declared.byte_range.ByteRange.{ByteRange}
use Rattle.rtps_capture.specs.declared.layout.udp.TheConstants as udp
use Rattle.rtps_capture.specs.declared.packet.Contents.{Contents}
use Rattle.rtps_capture.specs.declared.fragment.Fragment.{Fragment}
use Rattle.rtps_capture.specs.declared.fragment.FragmentKey.{FragmentKey}
use Rattle.rtps_capture.specs.declared.pieces.Piece.{Piece}

-- what these frames contain whose link type is read, in their order
abbrev pub contents_among : Captures → List ℕ → List Frame → List Contents
contents_among captures file [] = []
contents_among captures file (Frame.Captured frame ∷ frames) = capture.contents_in captures file frame ∷ contents_among captures file frames
contents_among captures file (other ∷ frames) = contents_among captures file frames

-- one of the frames contains this
abbrev pub StandsAmong : List Contents → Contents → Type 0
StandsAmong frames contents = (before : List Contents) × (after : List Contents) × (frames ≡ before ++ contents ∷ after)

-- these fragments stand in frames, and all have this key
abbrev pub AreFragments : List Contents → FragmentKey → List Fragment → Type 0
AreFragments frames key [] = Unit {0}
AreFragments frames key (fragment ∷ fragments) =
    (fragment.key ≡ key) × StandsAmong frames (Contents.Fragment fragment) × AreFragments frames key fragments

-- They go on from a place without a gap: the first one begins there, each other one where the one before it ends, and the last one
-- has no more behind it.
abbrev pub GoOn : ℕ → List Fragment → Type 0
GoOn at [] = ⊥
GoOn at (fragment ∷ []) = (fragment.start ≡ at) × (fragment.more ≡ false)
GoOn at (fragment ∷ next ∷ fragments) = (fragment.start ≡ at) × GoOn (fragment.start + packets.fragment_size fragment) (next ∷ fragments)

-- the octets of the fragments, one after another
abbrev pub put_together : List ℕ → List Fragment → List ℕ
put_together file [] = []
put_together file (fragment ∷ fragments) = slice_range file fragment.range.from fragment.range.to ++ put_together file fragments

-- the payload of a packet of this key with these octets: what is behind the UDP header, up to the end that its length tells, where
-- the checksum is right
abbrev pub IsPayload : FragmentKey → List ℕ → List ℕ → Type 0
IsPayload key packet payload =
    (udp.SIZE ≤ assembly.udp_length packet) × (assembly.udp_length packet ≤ length packet) × (checksum.is_right key (take (assembly.udp_length packet) packet) ≡ true)
    × (payload ≡ slice_range packet udp.SIZE (assembly.udp_length packet))

-- it stands whole in one frame
abbrev pub IsInOneFrame : List ℕ → List Contents → List ℕ → Type 0
IsInOneFrame file frames payload =
    (range : ByteRange) × StandsAmong frames (Contents.Datagram range) × (payload ≡ slice_range file range.from range.to)

-- its packet came in fragments of one key, which go on from 0, and its checksum is right
abbrev pub IsInFragments : List ℕ → List Contents → List ℕ → Type 0
IsInFragments file frames payload =
    (key : FragmentKey) × (fragments : List Fragment) × AreFragments frames key fragments × GoOn 0 fragments
    × IsPayload key (put_together file fragments) payload

-- some packet carried it
abbrev pub WasCarried : List ℕ → List Contents → List ℕ → Type 0
WasCarried file frames payload = IsInOneFrame file frames payload ⊎ IsInFragments file frames payload

-- each of these datagrams was carried: their ranges are of the file and the octets behind it
abbrev pub AllWereCarried : List ℕ → List Contents → List ℕ → List ByteRange → Type 0
AllWereCarried file frames behind [] = Unit {0}
AllWereCarried file frames behind (range ∷ ranges) =
    WasCarried file frames (slice_range (file ++ behind) range.from range.to) × AllWereCarried file frames behind ranges

-- each datagram that is told of a capture was carried by a packet whose octets stand in it
pub record EachWasCarried : Type 0 where
  pub carried : (captures : Captures) (most : ℕ) (file : List ℕ) (unread : frames.Unread) (answer : capture.Answer) → frames.opened captures file ≡ Some unread
      → capture.capture_read captures most file ≡ Ok answer
      → AllWereCarried unread.octets (contents_among captures unread.octets (frames.frames_left unread)) answer.behind answer.datagrams

-- what a key has behind these pieces of it, which come one after another
abbrev pub behind_pieces : List ℕ → FragmentKey → Making → List Piece → Making
behind_pieces file key making [] = making
behind_pieces file key making (piece ∷ pieces) = behind_pieces file key (assembly.taken_piece file key making piece).making pieces

-- none of them gives a datagram
abbrev pub GiveNone : List ℕ → FragmentKey → Making → List Piece → Type 0
GiveNone file key making [] = Unit {0}
GiveNone file key making (piece ∷ pieces) =
    ((assembly.taken_piece file key making piece).taken.datagram ≡ None) × GiveNone file key (assembly.taken_piece file key making piece).making pieces

-- each of these pieces clashes with none that came before it: these seen, and those in front of it
abbrev pub AreApart : List Piece → List Piece → Type 0
AreApart seen [] = Unit {0}
AreApart seen (piece ∷ pieces) = (pieces_spec.clashes_with seen piece ≡ false) × AreApart (seen ++ piece ∷ []) pieces

-- the piece has an octet
abbrev pub HasOctet : Piece → Type 0
HasOctet piece = piece.start < piece.end

-- a piece that waits is none of these, and has an octet
abbrev pub IsOther : List ℕ → List Piece → Piece → Type 0
IsOther file pieces old = HasOctet old × AllByRecursion (λ piece. pieces_spec.is_same file piece old ≡ false) pieces

-- These pieces, in the order in which they come, are those of one packet: no two clash, each has an octet, and they have all octets of
-- the packet. None of them waits.
pub record ArePacket (file : List ℕ) (waiting pieces : List Piece) : Type 0 where
  pub apart : AreApart [] pieces
  pub octets : AllByRecursion HasOctet pieces
  pub whole : pieces_spec.fills 0 (pieces_spec.in_order pieces) ≡ true
  pub others : AllByRecursion (IsOther file pieces) waiting

-- Each whole packet is given. Where its pieces come one after another for their key, and have a right datagram, it is given at the
-- last of them with its octets, whatever waited, unless one of them gave another datagram before. A repeat of a piece that waits
-- changes nothing.
pub record EachPacketIsGiven : Type 0 where
  pub given : (file : List ℕ) (key : FragmentKey) (making : Making) (pieces : List Piece) (last : Piece) (range : ByteRange)
      → ArePacket file making.making (pieces ++ last ∷ []) → assembly.datagram_of_whole key (assembly.packet_of file (pieces ++ last ∷ [])) ≡ Some range → GiveNone file key making pieces
      → let joined = assembly.taken_piece file key (behind_pieces file key making pieces) last in
      (joined.taken.datagram ≡ Some range) × (joined.packet ≡ assembly.packet_of file (pieces ++ last ∷ []))
  pub repeated : (file : List ℕ) (key : FragmentKey) (making : Making) (piece : Piece) → pieces_spec.is_repeat file piece making.making ≡ true
      → ((assembly.taken_piece file key making piece).making ≡ making) × ((assembly.taken_piece file key making piece).taken.datagram ≡ None)
