-- What a frame of any capture contains. RFC 791 "Internet Protocol", 3.1 "Internet Header Format"; RFC 8200 "Internet Protocol,
-- Version 6", 3 "IPv6 Header Format" and 4.5 "Fragment Header"; RFC 768 "User Datagram Protocol", "Format"; IEEE 802.3, 3.1.1
-- "Packet format".
-- own: headers are read from the front, the fields of a header before its lengths, and what is met first decides: that it is no
-- UDP over IP or cannot be, or that the captured octets end. So a packet that was captured in part is not taken for another
-- protocol, nor the other way round.
-- own: of classic captures alone those datagrams are taken whose packet is one of version 4 that was sent whole and stands behind the
-- frame's own header at once; all else is one kind.
use Rattle.std.specs.Prelude.{ℕ, ◌+◌, ◌-◌, ◌*◌, ◌/◌, ◌%◌, ◌==◌, ◌≤◌, ◌&&◌, ◌||◌, not, nat_le, nat_lt, Bool, false, if◌then◌else◌, List, length, drop, take, slice_index, Option, Some, None}
use Rattle.std.specs.Option.{unwrap_or}
use Rattle.rtps_ids.specs.Octets as octets
use Rattle.rtps_ids.specs.declared.order.Order.{Order}
use Rattle.rtps_capture.specs.OctetNumbers as octet_numbers
use Rattle.rtps_capture.specs.Passed as passed
use Rattle.rtps_capture.specs.declared.captures.Captures.{Captures}
use Rattle.rtps_capture.specs.declared.layout.cooked_1.TheConstants as cooked_1
use Rattle.rtps_capture.specs.declared.layout.cooked_2.TheConstants as cooked_2
use Rattle.rtps_capture.specs.declared.layout.ethernet.TheConstants as ethernet
use Rattle.rtps_capture.specs.declared.layout.extension.TheConstants as extension
use Rattle.rtps_capture.specs.declared.layout.loopback.TheConstants as loopback
use Rattle.rtps_capture.specs.declared.layout.packet.TheConstants as packet_4
use Rattle.rtps_capture.specs.declared.layout.packet_6.TheConstants as packet_6
use Rattle.rtps_capture.specs.declared.layout.udp.TheConstants as udp
use Rattle.rtps_capture.specs.declared.link_type.LinkType.{LinkType}
use Rattle.rtps_capture.specs.declared.packet.Carried.{Carried}
use Rattle.rtps_capture.specs.declared.packet.Contents.{Contents}
use Rattle.rtps_capture.specs.declared.fragment.Fragment.{Fragment}
use Rattle.rtps_capture.specs.declared.fragment.FragmentKey.{FragmentKey}
use Rattle.rtps_capture.specs.declared.passed.Header.{Header}
use Rattle.rtps_capture.specs.declared.byte_range.ByteRange.{ByteRange}

-- the packet of this version that begins there
abbrev pub carried_by : ℕ → ℕ → Carried
carried_by version at = if version == packet_4.VERSION then Carried.Ipv4 at else if version == packet_6.VERSION then Carried.Ipv6 at else Carried.Foreign

-- the high half of a packet's first octet tells its version, which may be limited to one
abbrev pub carried_at : List ℕ → ℕ → Option ℕ → Carried
carried_at frame at only =
    if nat_lt at (length frame)
    then (if slice_index frame at / 16 == unwrap_or only (slice_index frame at / 16) then carried_by (slice_index frame at / 16) at else Carried.Foreign)
    else Carried.Unfinished

-- what a type says of what is behind it; a tag is passed if the frame has all of it
abbrev pub carried_typed : Header → Carried
carried_typed last =
    if last.kind == ethernet.IPV4 then Carried.Ipv4 last.at
    else if last.kind == ethernet.IPV6 then Carried.Ipv6 last.at
    else if passed.is_tag last.kind then Carried.Unfinished
    else Carried.Foreign

-- a header of this size has a type at this place, and behind it are tags and a packet
abbrev pub carried_behind : ℕ → ℕ → List ℕ → Carried
carried_behind type_at size frame =
    if nat_le size (length frame) then carried_typed (passed.last_within (passed.tag_passed frame) (length frame) (record { kind = octet_numbers.two_at Order.Big frame type_at; at = size }))
    else Carried.Unfinished

-- where the packet begins that a frame carries
unfoldable pub packet_of : LinkType → List ℕ → Carried
packet_of LinkType.Ethernet frame = carried_behind ethernet.TYPE ethernet.SIZE frame
packet_of LinkType.Cooked1 frame = carried_behind cooked_1.TYPE cooked_1.SIZE frame
packet_of LinkType.Cooked2 frame = carried_behind cooked_2.TYPE cooked_2.SIZE frame
packet_of LinkType.Loopback frame = carried_at frame loopback.SIZE None
packet_of LinkType.Raw frame = carried_at frame 0 None
packet_of LinkType.RawIpv4 frame = carried_at frame 0 (Some packet_4.VERSION)
packet_of LinkType.RawIpv6 frame = carried_at frame 0 (Some packet_6.VERSION)

-- the low half of the first octet of a packet of version 4 counts the header's words of four octets
abbrev pub header_size : List ℕ → ℕ
header_size packet = slice_index packet 0 % 16 * 4

-- what is behind the total length is padding
abbrev pub total_size : List ℕ → ℕ
total_size packet = octet_numbers.two_at Order.Big packet packet_4.TOTAL

-- what the fragments of one packet of version 4 have in common
abbrev pub key_4 : List ℕ → FragmentKey
key_4 packet = record {
  identification = octet_numbers.two_at Order.Big packet packet_4.IDENTIFICATION;
  version = packet_4.VERSION;
  source = octet_numbers.four_at Order.Big packet packet_4.SOURCE;
  destination = octet_numbers.four_at Order.Big packet packet_4.DESTINATION;
}

-- what those of one packet of version 6 have in common; their fragment header is at this place
abbrev pub key_6 : List ℕ → ℕ → FragmentKey
key_6 packet at = record {
  identification = octet_numbers.four_at Order.Big packet (at + extension.IDENTIFICATION);
  version = packet_6.VERSION;
  source = octets.number_of Order.Big 16 (drop packet_6.SOURCE packet);
  destination = octets.number_of Order.Big 16 (drop packet_6.DESTINATION packet);
}

-- the datagram behind the UDP header that begins a range of a packet: its length counts the header's own octets
unfoldable pub udp_within : List ℕ → ByteRange → Contents
udp_within packet range =
    if nat_le (range.from + udp.SIZE) range.to && nat_le udp.SIZE (octet_numbers.two_at Order.Big packet (range.from + udp.LENGTH))
    && nat_le (range.from + octet_numbers.two_at Order.Big packet (range.from + udp.LENGTH)) range.to
    then Contents.Datagram (record { from = range.from + udp.SIZE; to = range.from + octet_numbers.two_at Order.Big packet (range.from + udp.LENGTH) })
    else Contents.Other

-- how many octets a fragment has
abbrev pub fragment_size : Fragment → ℕ
fragment_size fragment = fragment.range.to - fragment.range.from

-- it does not reach past the most that a packet has, and with more behind it it has eights of octets
abbrev pub can_be_fragment : Fragment → Bool
can_be_fragment fragment =
    nat_le (fragment.start + fragment_size fragment) packet_4.MOST
    && (not fragment.more || (nat_lt 0 (fragment_size fragment) && fragment_size fragment % packet_4.UNIT == 0))

-- the fragment, if it can be one
abbrev pub fragment_of : Fragment → Contents
fragment_of fragment = if can_be_fragment fragment then Contents.Fragment fragment else Contents.Other

-- What a whole packet of version 4 that carries UDP contains. It is no fragment where it begins at 0 of what was sent and no more comes
-- behind it; the flag that forbids fragments may be set.
abbrev pub contents_of_whole_ipv4 : List ℕ → Contents
contents_of_whole_ipv4 packet =
    if octet_numbers.two_at Order.Big packet packet_4.FRAGMENT % packet_4.FRAGMENT_BITS == 0 then udp_within packet (record { from = header_size packet; to = total_size packet })
    else fragment_of (record {
      key = key_4 packet;
      start = octet_numbers.two_at Order.Big packet packet_4.FRAGMENT % packet_4.OFFSETS * packet_4.UNIT;
      more = octet_numbers.two_at Order.Big packet packet_4.FRAGMENT / packet_4.OFFSETS % 2 == 1;
      range = record { from = header_size packet; to = total_size packet };
    })

-- a header of version 4 that says UDP, with sizes that can be
abbrev pub is_ipv4_udp : List ℕ → Bool
is_ipv4_udp packet =
    slice_index packet 0 / 16 == packet_4.VERSION && nat_le packet_4.LEAST (header_size packet) && slice_index packet packet_4.PROTOCOL == packet_4.UDP && nat_le (header_size packet) (total_size packet)

-- what a packet of version 4 contains
unfoldable pub contents_of_ipv4 : List ℕ → Contents
contents_of_ipv4 packet =
    if nat_le packet_4.LEAST (length packet) then
    (if is_ipv4_udp packet then (if nat_le (total_size packet) (length packet) then contents_of_whole_ipv4 packet else Contents.Cut)
    else Contents.Other)
    else Contents.Cut

-- what is at the end of the headers of a packet of version 6 that has nothing behind it
abbrev pub contents_behind : List ℕ → Header → Contents
contents_behind packet last =
    if last.kind == packet_4.UDP then udp_within packet (record { from = last.at; to = length packet })
    else if last.kind == extension.FRAGMENT && nat_le (last.at + extension.SIZE) (length packet) && slice_index packet last.at == packet_4.UDP
    then fragment_of (record {
      key = key_6 packet last.at;
      start = octet_numbers.two_at Order.Big packet (last.at + extension.OFFSET) / 8 * packet_4.UNIT;
      more = octet_numbers.two_at Order.Big packet (last.at + extension.OFFSET) % 2 == 1;
      range = record { from = last.at + extension.SIZE; to = length packet };
    })
    else Contents.Other

-- what a whole packet of version 6 contains, with nothing behind it
unfoldable pub contents_of_whole : List ℕ → Contents
contents_of_whole packet =
    contents_behind packet (passed.last_within (passed.extension_passed packet) (length packet) (record { kind = slice_index packet packet_6.NEXT; at = packet_6.SIZE }))

-- the size of a packet of version 6, by its header
abbrev pub size_of_ipv6 : List ℕ → ℕ
size_of_ipv6 packet = packet_6.SIZE + octet_numbers.two_at Order.Big packet packet_6.PAYLOAD

-- a header of version 6 behind which UDP can stand: it names UDP, or a header that is looked behind
abbrev pub is_ipv6_udp : List ℕ → Bool
is_ipv6_udp packet =
    slice_index packet 0 / 16 == packet_6.VERSION
    && (slice_index packet packet_6.NEXT == packet_4.UDP || passed.is_extension (slice_index packet packet_6.NEXT) || slice_index packet packet_6.NEXT == extension.FRAGMENT)

-- what a packet of version 6 contains; octets behind its payload length are padding
unfoldable pub contents_of_ipv6 : List ℕ → Contents
contents_of_ipv6 packet =
    if nat_le packet_6.SIZE (length packet) then
    (if is_ipv6_udp packet then
    (if nat_le (size_of_ipv6 packet) (length packet) then contents_of_whole (take (size_of_ipv6 packet) packet) else Contents.Cut)
    else Contents.Other)
    else Contents.Cut

-- a range that is counted from another place on
abbrev pub moved_range : ℕ → ByteRange → ByteRange
moved_range by range = record { from = by + range.from; to = by + range.to }

-- contents whose places are counted from another place on
abbrev pub moved_contents : ℕ → Contents → Contents
moved_contents by (Contents.Datagram range) = Contents.Datagram (moved_range by range)
moved_contents by (Contents.Fragment fragment) = Contents.Fragment (record fragment { range = moved_range by fragment.range })
moved_contents by nothing = nothing

-- what the packet contains that begins there in a frame
abbrev pub contents_carried : List ℕ → Carried → Contents
contents_carried frame (Carried.Ipv4 at) = moved_contents at (contents_of_ipv4 (drop at frame))
contents_carried frame (Carried.Ipv6 at) = moved_contents at (contents_of_ipv6 (drop at frame))
contents_carried frame Carried.Unfinished = Contents.Cut
contents_carried frame Carried.Foreign = Contents.Other

-- how many octets a frame of a classic capture has in front of its packet
abbrev pub size_in_front : LinkType → ℕ
size_in_front LinkType.Ethernet = ethernet.SIZE
size_in_front other = 0

-- a packet of version 4 that begins there
abbrev pub is_plain : ℕ → Carried → Bool
is_plain at (Carried.Ipv4 from) = from == at
is_plain at _ = false

-- a datagram in one packet, or another thing
abbrev pub whole_or_other : Contents → Contents
whole_or_other (Contents.Datagram range) = Contents.Datagram range
whole_or_other _ = Contents.Other

-- what a frame contains for these captures
unfoldable pub contents_read : Captures → LinkType → List ℕ → Contents
contents_read Captures.Any link frame = contents_carried frame (packet_of link frame)
contents_read Captures.Classic link frame =
    if is_plain (size_in_front link) (packet_of link frame) then whole_or_other (contents_carried frame (packet_of link frame)) else Contents.Other

-- the packet begins within so many octets
abbrev pub is_within : ℕ → Carried → Type 0
is_within size (Carried.Ipv4 at) = at ≤ size
is_within size (Carried.Ipv6 at) = at ≤ size
is_within size _ = Unit {0}

-- what is told stands within so many octets
abbrev pub StandsIn : ℕ → Contents → Type 0
StandsIn size (Contents.Datagram range) = (range.from ≤ range.to) × (range.to ≤ size)
StandsIn size (Contents.Fragment fragment) =
    (fragment.range.from ≤ fragment.range.to) × (fragment.range.to ≤ size) × (fragment.start + fragment_size fragment ≤ packet_4.MOST)
StandsIn size _ = Unit {0}
