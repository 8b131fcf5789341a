-- Inline QoS after the fields of a DATA. DDSI-RTPS 2.5, 8.7.2 "DDS QoS Parameters".
use Rattle.std.specs.Prelude.{◌≡◌, ℕ, List, Option, is_err, true, false, ◌&&◌}
use Rattle.std.specs.Borrow.{Bor}
use Rattle.std.specs.Option.{option_map}
use Rattle.rtps_ids.specs.declared.order.Order.{Order}
use Rattle.rtps_params.specs.Reading as reading
use Rattle.rtps_params.specs.Lists as lists
use Rattle.rtps_params.specs.declared.list.ParamList.{ParamList}
use Rattle.rtps_wire.specs.Data as data_spec
use Rattle.rtps_wire.specs.declared.fault.WireFault.{WireFault}

-- what was found: the list at the beginning of the octets, if the flags say that there is one, and the octets after it
pub record HasQos (order : Order) (flags : ℕ) (octets : List ℕ) (found : Option ParamList × Bor (List ℕ)) : Type 0 where
  pub good : (data_spec.has_qos flags && is_err (reading.list_end order octets)) ≡ false
  pub list : option_map lists.list_value found.0 ≡ data_spec.qos_of order flags octets
  pub behind : found.1.now ≡ data_spec.behind_qos order flags octets

-- the flags say that there is a list, and the octets do not begin with one
pub record LacksQos (order : Order) (flags : ℕ) (octets : List ℕ) (fault : WireFault) : Type 0 where
  pub bad : (data_spec.has_qos flags && is_err (reading.list_end order octets)) ≡ true
  pub fault_is : fault ≡ WireFault.BadInlineQos
