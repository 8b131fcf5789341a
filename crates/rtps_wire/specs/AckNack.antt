-- ACKNACK. DDSI-RTPS 2.5, 8.3.8.1 "AckNack" and 9.4.5.3 "AckNack Submessage".
use Rattle.std.specs.Prelude.{ℕ, ◌==◌, ◌+◌, bit_and, not, nat_lt, List, [], ◌∷◌, length, drop, Option}
use Rattle.rtps_ids.specs.NumberSet as number_set
use Rattle.rtps_ids.specs.Octets as octets
use Rattle.rtps_ids.specs.declared.order.Order.{Order}
use Rattle.rtps_wire.specs.Fault as fault
use Rattle.rtps_wire.specs.Fields as fields
use Rattle.rtps_wire.specs.declared.body.AckNackBody.{AckNackBody}
use Rattle.rtps_wire.specs.declared.fault.WireFault.{WireFault}
use Rattle.rtps_wire.specs.declared.layout.ack_nack.TheConstants as ack_nack

-- the offset of the count, after readerId, writerId and the set
abbrev pub count_place : Order → List ℕ → ℕ
count_place order body = ack_nack.SET + number_set.octets_of_count (number_set.spelled_count order (drop ack_nack.SET body))

-- why a body is no ACKNACK
abbrev pub ack_nack_fault : Order → List ℕ → Option WireFault
ack_nack_fault order body = fault.first_fault (
    (WireFault.ShortBody, nat_lt (length body) ack_nack.LEAST)
    ∷ (WireFault.BadSet, number_set.is_bad (number_set.spelled_base order (drop ack_nack.SET body)) (number_set.spelled_count order (drop ack_nack.SET body)))
    ∷ (WireFault.ShortBody, nat_lt (length body) (count_place order body + 4))
    ∷ [])

-- the ACKNACK that a body without a fault spells; flag F says that it is final
abbrev pub ack_nack_of : Order → ℕ → List ℕ → AckNackBody
ack_nack_of order flags body =
    record {
      reader = fields.entity_at ack_nack.READER body;
      writer = fields.entity_at ack_nack.WRITER body;
      set = number_set.spelled_set order (drop ack_nack.SET body);
      count = octets.number_of order 4 (drop (count_place order body) body);
      is_final = not (bit_and flags ack_nack.FINAL == 0);
    }
