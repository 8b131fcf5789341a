-- The header of a message. DDSI-RTPS 2.5, 8.3.6 "The RTPS Header" and 9.4.4 "Mapping of the RTPS Header".
use Rattle.std.specs.Prelude.{ℕ, ◌==◌, not, nat_lt, List, [], ◌∷◌, ◌||◌, length, slice_index, Option}
use Rattle.rtps_wire.specs.Fault as fault
use Rattle.rtps_wire.specs.Fields as fields
use Rattle.rtps_wire.specs.declared.fault.WireFault.{WireFault}
use Rattle.rtps_wire.specs.declared.header.Header.{Header}
use Rattle.rtps_wire.specs.declared.layout.header.TheConstants as header

-- why octets begin with no header. Octets 0 to 3 are `RTPS` (`PROTOCOL`); then come the version, the vendor id and the
-- prefix
-- own: messages of versions below 2 are not read, since they have another layout. Every minor version is read
unfoldable pub header_fault : List ℕ → Option WireFault
header_fault octets = fault.first_fault (
    (WireFault.Short, nat_lt (length octets) header.SIZE)
    ∷ (WireFault.NotRtps, not (slice_index octets 0 == slice_index header.PROTOCOL 0) || not (slice_index octets 1 == slice_index header.PROTOCOL 1) || not (slice_index octets 2 == slice_index header.PROTOCOL 2) || not (slice_index octets 3 == slice_index header.PROTOCOL 3))
    ∷ (WireFault.BadVersion, not (slice_index octets header.MAJOR == header.VERSION))
    ∷ [])

-- the header that octets without a fault spell
unfoldable pub header_of : List ℕ → Header
header_of octets =
    record {
      version = record { major = slice_index octets header.MAJOR; minor = slice_index octets header.MINOR };
      vendor = fields.vendor_at header.VENDOR octets;
      prefix = fields.prefix_at header.PREFIX octets;
    }
