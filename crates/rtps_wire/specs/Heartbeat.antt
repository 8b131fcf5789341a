-- HEARTBEAT. DDSI-RTPS 2.5, 8.3.8.6 "Heartbeat" and 9.4.5.7 "Heartbeat Submessage".
use Rattle.std.specs.Prelude.{ℕ, ℤ, ◌-ℤ◌, ◌==◌, ◌||◌, bit_and, not, pos, int_lt, int_le, nat_lt, List, [], ◌∷◌, length, drop, Option}
use Rattle.std.specs.Int.RustNames.{unsigned_abs}
use Rattle.rtps_ids.specs.Octets as octets
use Rattle.rtps_ids.specs.declared.order.Order.{Order}
use Rattle.rtps_wire.specs.Fault as fault
use Rattle.rtps_wire.specs.Fields as fields
use Rattle.rtps_wire.specs.declared.body.HeartbeatBody.{HeartbeatBody}
use Rattle.rtps_wire.specs.declared.fault.WireFault.{WireFault}
use Rattle.rtps_wire.specs.declared.layout.heartbeat.TheConstants as heartbeat

-- firstSN, after readerId and writerId
abbrev pub first_number : Order → List ℕ → ℤ
first_number order body = octets.sequence_number_of order (drop heartbeat.FIRST body)

-- lastSN
abbrev pub last_number : Order → List ℕ → ℤ
last_number order body = octets.sequence_number_of order (drop heartbeat.LAST body)

-- why a body is no HEARTBEAT
abbrev pub heartbeat_fault : Order → List ℕ → Option WireFault
heartbeat_fault order body = fault.first_fault (
    (WireFault.ShortBody, nat_lt (length body) heartbeat.SIZE)
    ∷ (WireFault.BadNumber, int_le (first_number order body) (pos 0) || int_lt (last_number order body) (pos 0))
    ∷ (WireFault.BadRange, int_lt (last_number order body) (first_number order body -ℤ pos 1))
    ∷ [])

-- the HEARTBEAT that a body without a fault spells. Flag F says that it is final, and flag L that it shows that the
-- writer is alive
abbrev pub heartbeat_of : Order → ℕ → List ℕ → HeartbeatBody
heartbeat_of order flags body =
    record {
      reader = fields.entity_at heartbeat.READER body;
      writer = fields.entity_at heartbeat.WRITER body;
      first = unsigned_abs (first_number order body);
      last = last_number order body;
      count = octets.number_of order 4 (drop heartbeat.COUNT body);
      is_final = not (bit_and flags heartbeat.FINAL == 0);
      live = not (bit_and flags heartbeat.LIVELINESS == 0);
    }
