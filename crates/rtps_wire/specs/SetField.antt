-- A sequence number set as a field of a body. DDSI-RTPS 2.5, 9.4.2.6 "SequenceNumberSet".
use Rattle.std.specs.Prelude.{ℕ, ◌≡◌, ◌≤◌, nat_lt, false, List, [], ◌∷◌, length, Some}
use Rattle.rtps_ids.specs.NumberSet as number_set
use Rattle.rtps_ids.specs.declared.order.Order.{Order}
use Rattle.rtps_wire.specs.Fault as fault_spec
use Rattle.rtps_wire.specs.declared.fault.WireFault.{WireFault}

-- the octets begin with this set, which takes so many of them
pub record HasSet (order : Order) (octets : List ℕ) (found : number_set.NumberSetValue × ℕ) : Type 0 where
  pub good : number_set.is_bad (number_set.spelled_base order octets) (number_set.spelled_count order octets) ≡ false
  pub whole : number_set.octets_of_count (number_set.spelled_count order octets) ≤ length octets
  pub set : found.0 ≡ number_set.spelled_set order octets
  pub used : found.1 ≡ number_set.octets_of_count (number_set.spelled_count order octets)

-- the octets have a base and a count, but do not begin with a set. A bad set is named before one that is cut
abbrev pub LacksSet : Order → List ℕ → WireFault → Type 0
LacksSet order octets fault = fault_spec.first_fault (
    (WireFault.BadSet, number_set.is_bad (number_set.spelled_base order octets) (number_set.spelled_count order octets))
    ∷ (WireFault.ShortBody, nat_lt (length octets) (number_set.octets_of_count (number_set.spelled_count order octets)))
    ∷ []) ≡ Some fault
