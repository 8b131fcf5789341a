-- The numbers of the layout, as the tables of the standards have them: each stands here and in `layout` alone. PCAP Capture File Format
-- (IETF draft), 4 "File Header" and 5 "Packet Record", and its registry of link types; PCAP Now Generic Capture File Format (IETF draft),
-- 3.1 "General Block Structure", 3.5 "Options", 4.1 to 4.4 and A; IEEE 802.3, 3.1.1 "Packet format"; IEEE 802.1Q, 9 "Tag formats"; RFC 2464,
-- 3 "Frame Format"; RFC 791 "Internet Protocol", 3.1 "Internet Header Format"; RFC 8200, 3 "IPv6 Header Format" and 4 "IPv6 Extension
-- Headers"; RFC 768 "User Datagram Protocol", "Format".
-- own: 262,144 octets are the most that tools capture of a frame. 64 packets are kept of two hosts, as Linux does it (`ipfrag_max_dist`).
use Rattle.std.specs.Prelude.{◌≡◌, ◌^◌}
use Rattle.rtps_capture.specs.declared.layout.file.TheConstants as file
use Rattle.rtps_capture.specs.declared.layout.record.TheConstants as frame_header
use Rattle.rtps_capture.specs.declared.layout.ethernet.TheConstants as ethernet
use Rattle.rtps_capture.specs.declared.layout.packet.TheConstants as packet
use Rattle.rtps_capture.specs.declared.layout.udp.TheConstants as udp
use Rattle.rtps_capture.specs.declared.layout.link_type.TheConstants as link_type
use Rattle.rtps_capture.specs.declared.layout.tag.TheConstants as tag
use Rattle.rtps_capture.specs.declared.layout.loopback.TheConstants as loopback
use Rattle.rtps_capture.specs.declared.layout.cooked_1.TheConstants as cooked_1
use Rattle.rtps_capture.specs.declared.layout.cooked_2.TheConstants as cooked_2
use Rattle.rtps_capture.specs.declared.layout.packet_6.TheConstants as packet_6
use Rattle.rtps_capture.specs.declared.layout.extension.TheConstants as extension
use Rattle.rtps_capture.specs.declared.layout.block.TheConstants as block
use Rattle.rtps_capture.specs.declared.layout.section.TheConstants as section
use Rattle.rtps_capture.specs.declared.layout.interface.TheConstants as interface
use Rattle.rtps_capture.specs.declared.layout.packet_block.TheConstants as packet_block
use Rattle.rtps_capture.specs.declared.layout.option.TheConstants as option
use Rattle.rtps_capture.specs.declared.layout.time.TheConstants as time

-- the numbers, sizes and places that readers and definitions name
pub record LayoutIsStandard : Type 0 where
  pub file_header : (file.SIZE ≡ 24) × (file.MAJOR ≡ 4) × (file.LINK ≡ 20) × (file.MICROSECONDS ≡ 0xa1b2c3d4) × (file.NANOSECONDS ≡ 0xa1b23c4d) × (file.VERSION ≡ 2) × (file.LINKS ≡ 0x10000)
  pub record_header : (frame_header.SIZE ≡ 16) × (frame_header.SECONDS ≡ 0) × (frame_header.FRACTION ≡ 4) × (frame_header.CAPTURED ≡ 8) × (frame_header.MOST ≡ 262144)
  pub times : (time.SECOND ≡ 10 ^ 9) × (time.MICROSECOND ≡ 10 ^ 3)
  pub ethernet_header : (ethernet.SIZE ≡ 14) × (ethernet.TYPE ≡ 12) × (ethernet.IPV4 ≡ 0x0800) × (ethernet.IPV6 ≡ 0x86dd)
  pub packet_header : (packet.LEAST ≡ 20) × (packet.TOTAL ≡ 2) × (packet.FRAGMENT ≡ 6) × (packet.PROTOCOL ≡ 9) × (packet.VERSION ≡ 4) × (packet.FRAGMENT_BITS ≡ 0x4000) × (packet.UDP ≡ 17)
      × (packet.IDENTIFICATION ≡ 4) × (packet.SOURCE ≡ 12) × (packet.DESTINATION ≡ 16) × (packet.OFFSETS ≡ 0x2000) × (packet.UNIT ≡ 8) × (packet.MOST ≡ 65535) × (packet.MOST_KEPT ≡ 64)
  pub udp_header : (udp.SIZE ≡ 8) × (udp.LENGTH ≡ 4) × (udp.CHECKSUM ≡ 6)
  pub link_types : (link_type.LOOPBACK ≡ 0) × (link_type.ETHERNET ≡ 1) × (link_type.RAW ≡ 101) × (link_type.LOOP ≡ 108)
      × (link_type.COOKED_1 ≡ 113) × (link_type.RAW_IPV4 ≡ 228) × (link_type.RAW_IPV6 ≡ 229) × (link_type.COOKED_2 ≡ 276)
  pub tags : (tag.SIZE ≡ 4) × (tag.TYPE ≡ 2) × (tag.CUSTOMER ≡ 0x8100) × (tag.SERVICE ≡ 0x88a8) × (tag.OLDER ≡ 0x9100)
  pub cooked_headers : (loopback.SIZE ≡ 4) × (cooked_1.SIZE ≡ 16) × (cooked_1.TYPE ≡ 14) × (cooked_2.SIZE ≡ 20) × (cooked_2.TYPE ≡ 0)
  pub packet_6_header : (packet_6.SIZE ≡ 40) × (packet_6.VERSION ≡ 6) × (packet_6.PAYLOAD ≡ 4) × (packet_6.NEXT ≡ 6) × (packet_6.SOURCE ≡ 8) × (packet_6.DESTINATION ≡ 24)
  pub extensions : (extension.SIZE ≡ 8) × (extension.LENGTH ≡ 1) × (extension.HOP_BY_HOP ≡ 0) × (extension.ROUTING ≡ 43) × (extension.DESTINATION ≡ 60)
      × (extension.FRAGMENT ≡ 44) × (extension.OFFSET ≡ 2) × (extension.IDENTIFICATION ≡ 4)
  pub blocks : (block.LEAST ≡ 12) × (block.LENGTH ≡ 4) × (block.BODY ≡ 8) × (block.REPETITION ≡ 4) × (block.UNIT ≡ 4)
      × (block.SECTION ≡ 0x0a0d0d0a) × (block.INTERFACE ≡ 1) × (block.OLD ≡ 2) × (block.SIMPLE ≡ 3) × (block.ENHANCED ≡ 6)
  pub block_fields : (section.FIXED ≡ 16) × (section.MAGIC ≡ 8) × (section.MAJOR ≡ 12) × (section.BYTE_ORDER ≡ 0x1a2b3c4d) × (section.VERSION ≡ 1)
      × (interface.FIXED ≡ 8) × (interface.LINK ≡ 0) × (interface.SNAP ≡ 4) × (packet_block.FIXED ≡ 20) × (packet_block.TICKS ≡ 4) × (packet_block.CAPTURED ≡ 12) × (packet_block.SIMPLE ≡ 4)
  pub options : (option.VALUE ≡ 4) × (option.LENGTH ≡ 2) × (option.END ≡ 0) × (option.RESOLUTION ≡ 9) × (option.OFFSET ≡ 14) × (option.USUAL_RESOLUTION ≡ 6)
