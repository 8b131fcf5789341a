-- A datagram that a frame contains stands in the file.
use Rattle.std.proofs.Common.{◌≡◌, ℕ, ◌+◌, ◌-◌, ◌<◌, ◌≤◌, Bool, true, false, List, length, drop, take, refl, arith}
use Rattle.std.specs.Prelude.{◌==◌, ◌&&◌, ◌*◌, ◌/◌, ◌%◌, nat_le, if◌then◌else◌, slice_index, slice_range}
use Rattle.std.proofs.lemmas.Bool.Decides.{nat_tests}
use Rattle.std.proofs.lemmas.List.{length-drop, length-take}
use Rattle.rtps_ids.specs.declared.order.Order.{Order}
use Rattle.rtps_capture.specs.Capture as capture
use Rattle.rtps_capture.specs.OctetNumbers as octet_numbers
use Rattle.rtps_capture.specs.Packets as packets
use Rattle.rtps_capture.specs.Passed as passed
use Rattle.rtps_capture.specs.declared.byte_range.ByteRange.{ByteRange}
use Rattle.rtps_capture.specs.declared.captures.Captures.{Captures}
use Rattle.rtps_capture.specs.declared.fragment.Fragment.{Fragment}
use Rattle.rtps_capture.specs.declared.frames.CapturedFrame.{CapturedFrame}
use Rattle.rtps_capture.specs.declared.layout.extension.TheConstants as extension
use Rattle.rtps_capture.specs.declared.layout.packet.TheConstants as packet_4
use Rattle.rtps_capture.specs.declared.layout.packet_6.TheConstants as packet_6
use Rattle.rtps_capture.specs.declared.layout.udp.TheConstants as udp
use Rattle.rtps_capture.specs.declared.link_type.LinkType.{LinkType}
use Rattle.rtps_capture.specs.declared.packet.Carried.{Carried}
use Rattle.rtps_capture.specs.declared.packet.Contents.{Contents}
use Rattle.rtps_capture.specs.declared.passed.Header.{Header}

-- a datagram ends within so many octets, and not at their beginning; so does a fragment
abbrev pub Ends : ℕ → Contents → Type 0
Ends size (Contents.Datagram range) = (range.from ≤ range.to) × (0 < range.to) × (range.to ≤ size)
Ends size (Contents.Fragment fragment) = (fragment.range.from ≤ fragment.range.to) × (0 < fragment.range.to) × (fragment.range.to ≤ size)
Ends size _ = Unit {0}

udp_ends : (packet : List ℕ) (range : ByteRange) (size : ℕ) → range.to ≤ size → Ends size (packets.udp_within packet range)
unfolding packets.udp_within
udp_ends packet range size fits = by (nat_le (range.from + udp.SIZE) range.to && nat_le udp.SIZE n && nat_le (range.from + n) range.to) refl
  where
    n : ℕ
    n = octet_numbers.two_at Order.Big packet (range.from + udp.LENGTH)

    by : (is : Bool) → (nat_le (range.from + udp.SIZE) range.to && nat_le udp.SIZE n && nat_le (range.from + n) range.to) ≡ is
        → Ends size (if is then Contents.Datagram (record { from = range.from + udp.SIZE; to = range.from + n }) else Contents.Other)
    by true says = (grind (arith, nat_tests), grind (arith, nat_tests), grind (arith, nat_tests))
    by false says = tt

fragment_ends : (fragment : Fragment) (size : ℕ) → fragment.range.from ≤ fragment.range.to → 0 < fragment.range.to → fragment.range.to ≤ size → Ends size (packets.fragment_of fragment)
fragment_ends fragment size ordered some fits = by (packets.can_be_fragment fragment)
  where
    by : (can : Bool) → Ends size (if can then Contents.Fragment fragment else Contents.Other)
    by true = (ordered, some, fits)
    by false = tt

-- a datagram, or a fragment
one_ends : (whole : Bool) (packet : List ℕ) (fragment : Fragment) → fragment.range.from ≤ fragment.range.to → 0 < fragment.range.to → fragment.range.to ≤ length packet
    → Ends (length packet) (if whole then packets.udp_within packet fragment.range else packets.fragment_of fragment)
one_ends true packet fragment ordered some fits = udp_ends packet fragment.range (length packet) fits
one_ends false packet fragment ordered some fits = fragment_ends fragment (length packet) ordered some fits

ipv4_ends : (packet : List ℕ) → Ends (length packet) (packets.contents_of_ipv4 packet)
unfolding packets.contents_of_ipv4
ipv4_ends packet = by (nat_le packet_4.LEAST (length packet)) (packets.is_ipv4_udp packet) refl (nat_le (packets.total_size packet) (length packet)) refl
  where
    range : ByteRange
    range = record { from = packets.header_size packet; to = packets.total_size packet }

    fragment : Fragment
    fragment = record {
      key = packets.key_4 packet;
      start = octet_numbers.two_at Order.Big packet packet_4.FRAGMENT % packet_4.OFFSETS * packet_4.UNIT;
      more = octet_numbers.two_at Order.Big packet packet_4.FRAGMENT / packet_4.OFFSETS % 2 == 1;
      range = range;
    }

    by : (room udp_is : Bool) → packets.is_ipv4_udp packet ≡ udp_is → (there : Bool) → nat_le (packets.total_size packet) (length packet) ≡ there
        → Ends (length packet) (if room then (if udp_is then (if there then packets.contents_of_whole_ipv4 packet else Contents.Cut) else Contents.Other) else Contents.Cut)
    by false udp_is udp there is = tt
    by true false udp there is = tt
    by true true udp false is = tt
    by true true udp true is = one_ends (octet_numbers.two_at Order.Big packet packet_4.FRAGMENT % packet_4.FRAGMENT_BITS == 0) packet fragment (grind (arith, nat_tests)) (grind (arith, nat_tests)) (grind (arith, nat_tests))

behind_ends : (packet : List ℕ) (last : Header) → Ends (length packet) (packets.contents_behind packet last)
behind_ends packet last =
    by (last.kind == packet_4.UDP) (last.kind == extension.FRAGMENT && nat_le (last.at + extension.SIZE) (length packet) && slice_index packet last.at == packet_4.UDP) refl
  where
    range : ByteRange
    range = record { from = last.at; to = length packet }

    fragment : Fragment
    fragment = record {
      key = packets.key_6 packet last.at;
      start = octet_numbers.two_at Order.Big packet (last.at + extension.OFFSET) / 8 * packet_4.UNIT;
      more = octet_numbers.two_at Order.Big packet (last.at + extension.OFFSET) % 2 == 1;
      range = record { from = last.at + extension.SIZE; to = length packet };
    }

    by : (udp_is part : Bool) → (last.kind == extension.FRAGMENT && nat_le (last.at + extension.SIZE) (length packet) && slice_index packet last.at == packet_4.UDP) ≡ part
        → Ends (length packet) (if udp_is then packets.udp_within packet range else if part then packets.fragment_of fragment else Contents.Other)
    by true part is = udp_ends packet range (length packet) (omega arith)
    by false true is = fragment_ends fragment (length packet) (grind (arith, nat_tests)) (grind (arith, nat_tests)) (omega arith)
    by false false is = tt

whole_ends : (packet : List ℕ) → Ends (length packet) (packets.contents_of_whole packet)
unfolding packets.contents_of_whole
whole_ends packet = behind_ends packet (passed.last_within (passed.extension_passed packet) (length packet) (record { kind = slice_index packet packet_6.NEXT; at = packet_6.SIZE }))

ends_more : (size more : ℕ) (found : Contents) → size ≤ more → Ends size found → Ends more found
ends_more size more (Contents.Datagram range) fits ends = (ends.0, ends.1, omega (arith, ends.2))
ends_more size more (Contents.Fragment fragment) fits ends = (ends.0, ends.1, omega (arith, ends.2))
ends_more size more _ fits ends = tt

ipv6_ends : (packet : List ℕ) → Ends (length packet) (packets.contents_of_ipv6 packet)
unfolding packets.contents_of_ipv6
ipv6_ends packet = by (nat_le packet_6.SIZE (length packet)) (packets.is_ipv6_udp packet) (nat_le (packets.size_of_ipv6 packet) (length packet))
  where
    part : List ℕ
    part = take (packets.size_of_ipv6 packet) packet

    by : (room udp_is there : Bool)
        → Ends (length packet) (if room then (if udp_is then (if there then packets.contents_of_whole part else Contents.Cut) else Contents.Other) else Contents.Cut)
    by false udp_is there = tt
    by true false there = tt
    by true true false = tt
    by true true true = ends_more (length part) (length packet) (packets.contents_of_whole part) (omega (arith, length-take (packets.size_of_ipv6 packet) packet)) (whole_ends part)

-- contents of the octets from a place on
moved_ends : (by : ℕ) (octets : List ℕ) (found : Contents) → Ends (length (drop by octets)) found → Ends (length octets) (packets.moved_contents by found)
moved_ends by octets (Contents.Datagram range) ends = (omega (arith, ends.0), omega (arith, ends.1), omega (arith, ends.1, ends.2, length-drop by octets))
moved_ends by octets (Contents.Fragment fragment) ends = (omega (arith, ends.0), omega (arith, ends.1), omega (arith, ends.1, ends.2, length-drop by octets))
moved_ends by octets _ ends = tt

contents_end : (kind : LinkType) (frame : List ℕ) → Ends (length frame) (packets.contents_carried frame (packets.packet_of kind frame))
contents_end kind frame = by (packets.packet_of kind frame)
  where
    by : (carried : Carried) → Ends (length frame) (packets.contents_carried frame carried)
    by (Carried.Ipv4 at) = moved_ends at frame (packets.contents_of_ipv4 (drop at frame)) (ipv4_ends (drop at frame))
    by (Carried.Ipv6 at) = moved_ends at frame (packets.contents_of_ipv6 (drop at frame)) (ipv6_ends (drop at frame))
    by _ = tt

whole_or_other_ends : (size : ℕ) (found : Contents) → Ends size found → Ends size (packets.whole_or_other found)
whole_or_other_ends size (Contents.Datagram range) ends = ends
whole_or_other_ends size _ ends = tt

pub read_ends : (captures : Captures) (kind : LinkType) (frame : List ℕ) → Ends (length frame) (packets.contents_read captures kind frame)
unfolding packets.contents_read
read_ends Captures.Any kind frame = contents_end kind frame
read_ends Captures.Classic kind frame = by (packets.is_plain (packets.size_in_front kind) (packets.packet_of kind frame))
  where
    by : (plain : Bool) → Ends (length frame) (if plain then packets.whole_or_other (packets.contents_carried frame (packets.packet_of kind frame)) else Contents.Other)
    by true = whole_or_other_ends (length frame) (packets.contents_carried frame (packets.packet_of kind frame)) (contents_end kind frame)
    by false = tt

-- a datagram that a frame contains stands in the file
pub in_file : (captures : Captures) (file : List ℕ) (frame : CapturedFrame) → Ends (length file) (capture.contents_in captures file frame)
unfolding capture.contents_in
in_file captures file frame =
    let octets = slice_range file frame.range.from frame.range.to in
    let behind = drop frame.range.from file in
    let found = packets.contents_read captures frame.link octets in
    moved_ends frame.range.from file found
    (ends_more (length octets) (length behind) found (omega (arith, length-take (frame.range.to - frame.range.from) behind)) (read_ends captures frame.link octets))
