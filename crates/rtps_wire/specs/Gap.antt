-- GAP. DDSI-RTPS 2.5, 8.3.8.4 "Gap" and 9.4.5.6 "Gap Submessage".
use Rattle.std.specs.Prelude.{ℕ, ℤ, ◌||◌, ◌+◌, int_le, pos, nat_lt, Bool, List, [], ◌∷◌, length, drop, Option}
use Rattle.std.specs.Int.RustNames.{unsigned_abs}
use Rattle.rtps_ids.specs.NumberSet as number_set
use Rattle.rtps_ids.specs.Octets as octets
use Rattle.rtps_ids.specs.declared.order.Order.{Order}
use Rattle.rtps_wire.specs.Fault as fault
use Rattle.rtps_wire.specs.Fields as fields
use Rattle.rtps_wire.specs.declared.body.GapBody.{GapBody}
use Rattle.rtps_wire.specs.declared.fault.WireFault.{WireFault}
use Rattle.rtps_wire.specs.declared.layout.gap.TheConstants as gap

-- gapStart, after readerId and writerId
abbrev pub start_number : Order → List ℕ → ℤ
start_number order body = octets.sequence_number_of order (drop gap.START body)

-- the faults of a gapList. own: base 0 is bad here also without bits: an ACKNACK has it if the reader has received
-- nothing yet, but a GAP has no use for it
abbrev pub list_faults : Order → List ℕ → List (WireFault × Bool)
list_faults order body =
    (WireFault.BadSet, number_set.is_bad (number_set.spelled_base order (drop gap.LIST body)) (number_set.spelled_count order (drop gap.LIST body)) || int_le (number_set.spelled_base order (drop gap.LIST body)) (pos 0))
    ∷ (WireFault.ShortBody, nat_lt (length body) (gap.LIST + number_set.octets_of_count (number_set.spelled_count order (drop gap.LIST body))))
    ∷ []

-- the fault of a gapList, if it has one
abbrev pub list_fault : Order → List ℕ → Option WireFault
list_fault order body = fault.first_fault (list_faults order body)

-- why a body is no GAP
abbrev pub gap_fault : Order → List ℕ → Option WireFault
gap_fault order body = fault.first_fault (
    (WireFault.ShortBody, nat_lt (length body) gap.LEAST)
    ∷ (WireFault.BadNumber, int_le (start_number order body) (pos 0))
    ∷ list_faults order body)

-- the GAP that a body without a fault spells
abbrev pub gap_of : Order → List ℕ → GapBody
gap_of order body =
    record {
      reader = fields.entity_at gap.READER body;
      writer = fields.entity_at gap.WRITER body;
      start = unsigned_abs (start_number order body);
      list = number_set.spelled_set order (drop gap.LIST body);
    }
