-- When a frame was captured, in nanoseconds since 1970 began (UTC). PCAP Capture File Format (IETF draft), 5 "Packet Record"; PCAP
-- Now Generic Capture File Format (IETF draft), 4.2 "Interface Description Block" and 4.3 "Enhanced Packet Block".
-- own: what is finer than a nanosecond is left out. A time before 1970, or past what 64 bits count, is none.
use Rattle.std.specs.Prelude.{ℕ, ◌+◌, ◌-◌, ◌*◌, ◌/◌, ◌^◌, nat_le, nat_lt, max, Bool, if◌then◌else◌, List, Option, Some, None, option_and_then}
use Rattle.rtps_ids.specs.declared.order.Order.{Order}
use Rattle.rtps_capture.specs.OctetNumbers as octet_numbers
use Rattle.rtps_capture.specs.declared.blocks.Interface.{Interface}
use Rattle.rtps_capture.specs.declared.layout.record.TheConstants as record_layout
use Rattle.rtps_capture.specs.declared.layout.time.TheConstants as time_layout

-- the time of a record of a classic file, whose fraction is of nanoseconds or of microseconds
abbrev pub record_time : Bool → Order → List ℕ → ℕ → ℕ
record_time nanoseconds order file at =
    octet_numbers.four_at order file (at + record_layout.SECONDS) * time_layout.SECOND + (if nanoseconds then octet_numbers.four_at order file (at + record_layout.FRACTION) else octet_numbers.four_at order file (at + record_layout.FRACTION) * time_layout.MICROSECOND)

-- two words of four octets as one number, of which the first one is the high half
abbrev pub pair_at : Order → List ℕ → ℕ → ℕ
pair_at order file at = octet_numbers.four_at order file at * 2 ^ 32 + octet_numbers.four_at order file (at + 4)

-- how many units of its clock an interface counts in a second: a resolution is a power of 10, and from 128 on one of 2
abbrev pub units_of : ℕ → ℕ
units_of resolution = if nat_lt resolution 128 then 10 ^ resolution else 2 ^ (resolution - 128)

-- so many units in nanoseconds
unfoldable pub nanoseconds_of : ℕ → ℕ → ℕ
nanoseconds_of resolution ticks = ticks * time_layout.SECOND / units_of resolution

-- a time that is so many seconds later; from 2^63 on an offset is below 0, in two's complement of 64 bits
unfoldable pub later_by : ℕ → ℕ → Option ℕ
later_by offset time =
    if nat_lt offset (2 ^ 63) then Some (time + offset * time_layout.SECOND)
    else if nat_le ((2 ^ 64 - offset) * time_layout.SECOND) time then Some (time - (2 ^ 64 - offset) * time_layout.SECOND)
    else None

-- a time that 64 bits count
abbrev pub in_64_bits : ℕ → Option ℕ
in_64_bits time = if nat_lt time (2 ^ 64) then Some time else None

-- the time of a frame of this interface, whose block tells it in so many units
abbrev pub block_time : Interface → ℕ → Option ℕ
block_time interface ticks = option_and_then in_64_bits (later_by interface.offset (nanoseconds_of interface.resolution ticks))

-- the later of two times, where there are two
abbrev pub later_of : Option ℕ → Option ℕ → Option ℕ
later_of None other = other
later_of (Some one) None = Some one
later_of (Some one) (Some other) = Some (max one other)
