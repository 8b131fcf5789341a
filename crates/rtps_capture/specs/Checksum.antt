-- The checksum of UDP. RFC 768 "User Datagram Protocol", "Fields"; RFC 1071 "Computing the Internet Checksum", 1; RFC 8200 "Internet
-- Protocol, Version 6", 8.1 "Upper-Layer Checksums".
-- own: a sum whose carry is added at its low end is the sum modulo 65,535, where 65,535 stands for 0. No sum is 0 here, since each
-- has the number of UDP in it. So the sum with the checksum in it is right where it is a multiple of 65,535. An address is added as one
-- number: 65,536 is 1 modulo 65,535, so a number is there the sum of its words of two octets.
use Rattle.std.specs.Prelude.{ℕ, ◌+◌, ◌*◌, ◌%◌, ◌==◌, ◌&&◌, ◌||◌, Bool, List, [], ◌∷◌, length}
use Rattle.rtps_ids.specs.declared.order.Order.{Order}
use Rattle.rtps_capture.specs.OctetNumbers as octet_numbers
use Rattle.rtps_capture.specs.declared.fragment.FragmentKey.{FragmentKey}
use Rattle.rtps_capture.specs.declared.layout.packet.TheConstants as packet_4
use Rattle.rtps_capture.specs.declared.layout.udp.TheConstants as udp

-- the sum of the numbers that each two octets are; a last one alone has a 0 behind it
unfoldable pub word_sum : List ℕ → ℕ
word_sum [] = 0
word_sum (high ∷ []) = high * 256
word_sum (high ∷ low ∷ octets) = high * 256 + low + word_sum octets

-- the sum of what stands before so many octets of UDP for the sum alone: the addresses, the protocol and the length
abbrev pub pseudo_sum : FragmentKey → ℕ → ℕ
pseudo_sum key size = key.source % 65535 + key.destination % 65535 + packet_4.UDP + size

-- the sender made no checksum: over version 4 a 0 says so
abbrev pub has_none : FragmentKey → List ℕ → Bool
has_none key octets = key.version == packet_4.VERSION && octet_numbers.two_at Order.Big octets udp.CHECKSUM == 0

-- octets of UDP, with their header, have a right checksum
unfoldable pub is_right : FragmentKey → List ℕ → Bool
is_right key octets = has_none key octets || (pseudo_sum key (length octets) + word_sum octets) % 65535 == 0
