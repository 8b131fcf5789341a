-- How the fragments of IP are put together. RFC 791 "Internet Protocol", 2.3 "Function Description"; RFC 8200 "Internet Protocol,
-- Version 6", 4.5 "Fragment Header".
-- own: a packet gives its datagram at the frame that completes it, if its UDP header is right and its checksum is: an identification that
-- came again could join the parts of two packets. Where it is not, the oldest piece goes, and the packet waits for more. A piece that
-- equals one of the packet in the making changes nothing; one that equals one of the last packet given is not counted as ignored, since a
-- frame may be recorded twice. A key is forgotten with all that it has (`specs/Recent.antt`).
use Rattle.std.specs.Prelude.{ℕ, ◌≡◌, ◌≤◌, ◌&&◌, not, nat_le, Bool, false, if◌then◌else◌, List, [], length, count_by, drop, take, Option, Some, None}
use Rattle.rtps_ids.specs.declared.order.Order.{Order}
use Rattle.rtps_capture.specs.Checksum as checksum
use Rattle.rtps_capture.specs.OctetNumbers as octet_numbers
use Rattle.rtps_capture.specs.Pieces as pieces_spec
use Rattle.rtps_capture.specs.declared.assembly.Making.{Making}
use Rattle.rtps_capture.specs.declared.assembly.Taken.{Taken}
use Rattle.rtps_capture.specs.declared.byte_range.ByteRange.{ByteRange}
use Rattle.rtps_capture.specs.declared.fragment.FragmentKey.{FragmentKey}
use Rattle.rtps_capture.specs.declared.layout.udp.TheConstants as udp
use Rattle.rtps_capture.specs.declared.pieces.Piece.{Piece}

-- what is left behind one fragment more: the fragments of its key, the octets of the packet if that gives its datagram now, and
-- what it gave
pub record Joined : Type 0 where
  pub making : Making
  pub packet : List ℕ
  pub taken : Taken

-- a key of which no fragment came
abbrev pub fresh_making : Making
fresh_making = record { making = []; given = [] }

-- the length that the UDP header tells which begins a packet, its own octets included
abbrev pub udp_length : List ℕ → ℕ
udp_length packet = octet_numbers.two_at Order.Big packet udp.LENGTH

-- a UDP header begins the packet, which has all of its datagram, and the checksum is right
unfoldable pub has_right_datagram : FragmentKey → List ℕ → Bool
has_right_datagram key packet =
    nat_le udp.SIZE (length packet) && nat_le udp.SIZE (udp_length packet) && nat_le (udp_length packet) (length packet)
    && checksum.is_right key (take (udp_length packet) packet)

-- where the datagram stands in a whole packet
abbrev pub datagram_of_whole : FragmentKey → List ℕ → Option ByteRange
datagram_of_whole key packet = if has_right_datagram key packet then Some (record { from = udp.SIZE; to = udp_length packet }) else None

-- a piece is no repeat of the last packet given
abbrev pub is_new : List ℕ → Making → Piece → Bool
is_new file making piece = not (pieces_spec.is_repeat file piece making.given)

-- no datagram is given
abbrev pub gives_none : Making → Bool → Joined
gives_none making fresh = record { making = making; packet = []; taken = record { fresh = fresh; settled = 0; datagram = None } }

-- a packet that is whole, with its datagram: the packet in the making is the last one given
abbrev pub given_with : List ℕ → Making → Bool → List ℕ → Option ByteRange → Joined
given_with file making fresh packet None = gives_none (record { making = drop 1 making.making; given = making.given }) fresh
given_with file making fresh packet (Some range) = record {
  making = record { making = []; given = making.making };
  packet = packet;
  taken = record { fresh = fresh; settled = count_by (is_new file making) making.making; datagram = Some range };
}

-- the octets of the packet in the making, one piece after another
abbrev pub packet_of : List ℕ → List Piece → List ℕ
packet_of file pieces = pieces_spec.joined file (pieces_spec.in_order pieces)

-- a packet that is whole
unfoldable pub given : List ℕ → FragmentKey → Making → Bool → Joined
given file key making fresh = given_with file making fresh (packet_of file making.making) (datagram_of_whole key (packet_of file making.making))

-- a piece that is no repeat in the making, once it is there
abbrev pub joined_with : List ℕ → FragmentKey → Making → Bool → Joined
joined_with file key making fresh = if pieces_spec.fills 0 (pieces_spec.in_order making.making) then given file key making fresh else gives_none making fresh

-- one piece more of this key
unfoldable pub taken_piece : List ℕ → FragmentKey → Making → Piece → Joined
taken_piece file key making piece =
    if pieces_spec.is_repeat file piece making.making then gives_none making false
    else joined_with file key (record { making = pieces_spec.pieces_with piece making.making; given = making.given }) (is_new file making piece)

-- this is what is left
abbrev pub IsJoined : Joined → Taken → Making → List ℕ → Type 0
IsJoined joined taken making packet = (taken ≡ joined.taken) × (making ≡ joined.making) × (packet ≡ joined.packet)

-- a datagram stands in the octets of its packet; where there is none, there are none
abbrev pub StandsInPacket : List ℕ → Option ByteRange → Type 0
StandsInPacket packet None = packet ≡ []
StandsInPacket packet (Some range) = (range.from ≤ range.to) × (range.to ≤ length packet)

-- a file, and the octets of packets that were put together behind it
pub record Extended : Type 0 where
  pub file : List ℕ
  pub behind : List ℕ
