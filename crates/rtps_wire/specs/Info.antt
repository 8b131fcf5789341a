-- INFO_TS, INFO_DST and INFO_SRC. DDSI-RTPS 2.5, 8.3.8.11 "InfoTimestamp" and 9.4.5.12 "InfoTimestamp Submessage",
-- 8.3.8.8 "InfoDestination" and 9.4.5.9 "InfoDestination Submessage", 8.3.8.10 "InfoSource" and 9.4.5.11 "InfoSource
-- Submessage".
use Rattle.std.specs.Prelude.{ℕ, ◌==◌, ◌&&◌, bit_and, nat_lt, List, [], ◌∷◌, length, slice_index, drop, Option, Some, None, if◌then◌else◌}
use Rattle.rtps_ids.specs.Octets as octets
use Rattle.rtps_ids.specs.declared.identity.GuidPrefix.{GuidPrefix}
use Rattle.rtps_ids.specs.declared.identity.Stamp.{Stamp}
use Rattle.rtps_ids.specs.declared.order.Order.{Order}
use Rattle.rtps_wire.specs.Fault as fault
use Rattle.rtps_wire.specs.Fields as fields
use Rattle.rtps_wire.specs.declared.fault.WireFault.{WireFault}
use Rattle.rtps_wire.specs.declared.header.Header.{Header}
use Rattle.rtps_wire.specs.declared.layout.header.TheConstants as header
use Rattle.rtps_wire.specs.declared.layout.info_dst.TheConstants as destination
use Rattle.rtps_wire.specs.declared.layout.info_ts.TheConstants as time

-- why a body is no INFO_TS. Flag I says that there is no time; then the body is ignored
abbrev pub info_ts_fault : ℕ → List ℕ → Option WireFault
info_ts_fault flags body = fault.first_fault ((WireFault.ShortBody, (bit_and flags time.INVALIDATE == 0) && nat_lt (length body) time.SIZE) ∷ [])

-- the time of an INFO_TS: seconds, fraction
abbrev pub info_ts_of : Order → ℕ → List ℕ → Option Stamp
info_ts_of order flags body =
    if bit_and flags time.INVALIDATE == 0 then Some (record { seconds = octets.number_of order 4 (drop time.SECONDS body); fraction = octets.number_of order 4 (drop time.FRACTION body) }) else None

-- why a body is no INFO_DST
abbrev pub info_dst_fault : List ℕ → Option WireFault
info_dst_fault body = fault.first_fault ((WireFault.ShortBody, nat_lt (length body) destination.SIZE) ∷ [])

-- the destination of an INFO_DST: the prefix of a participant
abbrev pub info_dst_of : List ℕ → GuidPrefix
info_dst_of body = fields.prefix_at destination.PREFIX body

-- why a body is no INFO_SRC
abbrev pub info_src_fault : List ℕ → Option WireFault
info_src_fault body = fault.first_fault ((WireFault.ShortBody, nat_lt (length body) header.SIZE) ∷ [])

-- the source of an INFO_SRC: four unused octets, and then the version, the vendor id and the prefix as in a header
abbrev pub info_src_of : List ℕ → Header
info_src_of body =
    record {
      version = record { major = slice_index body header.MAJOR; minor = slice_index body header.MINOR };
      vendor = fields.vendor_at header.VENDOR body;
      prefix = fields.prefix_at header.PREFIX body;
    }
