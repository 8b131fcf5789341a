-- The fields of a payload whose list was read.
use Rattle.std.proofs.Common.{◌≡◌, ◌≤◌, ◌-◌, ℕ, List, [], ◌++◌, length, take, drop, Some, Ok, arith, append-nil}
use Rattle.rtps_ids.specs.declared.order.Order.{Order}
use Rattle.rtps_params.specs.Grammar as grammar
use Rattle.rtps_params.specs.Reading as reading
use Rattle.rtps_params.specs.Lists as lists
use Rattle.rtps_params.specs.declared.list.ParamList.{ParamList}
use Rattle.rtps_params.proofs.Offered.{pairs_of_list}
use Rattle.rtps_discovery.specs.Announcement as announcement
use Rattle.rtps_discovery.specs.Fields as fields
use Rattle.rtps_policies.proofs.Slices.{take_behind}

-- what follows a list changes none of its pairs
pairs_of-take : (order : Order) (used : ℕ) (octets : List ℕ) → grammar.IsList order (reading.pairs_of order octets) (take used octets) → reading.pairs_of order (take used octets) ≡ reading.pairs_of order octets
pairs_of-take order used octets h =
    let e : reading.pairs_of order (take used octets ++ []) ≡ reading.pairs_of order octets = pairs_of_list order (reading.pairs_of order octets) (take used octets) [] h in
    rw (append-nil (take used octets)) at e

-- what was read of a list in the rest of a payload
pub record WasRead (order : Order) (octets : List ℕ) (used : ℕ) (list : ParamList) : Type 0 where
  pub found : reading.list_end order octets ≡ Ok used
  pub is_list : grammar.IsList order (reading.pairs_of order octets) (take used octets)
  pub octets_are : lists.list_octets list ≡ take used octets
  pub order_is : lists.list_order list ≡ order

fields_found : (payload : List ℕ) (order : Order) (used : ℕ) (list : ParamList) → 4 ≤ length payload → announcement.order_of payload ≡ Some order
    → WasRead order (drop 4 payload) used list → announcement.fields_of payload ≡ Ok (fields.fields_value list)
unfolding announcement.fields_of
fields_found payload order used list room named read =
    let same = pairs_of-take order used (drop 4 payload) read.is_list in
    let found = read.found in
    let octets_are = read.octets_are in
    let order_is = read.order_is in
    grind arith

pub fields_read : (payload : List ℕ) (order : Order) (used : ℕ) (list : ParamList) → 4 ≤ length payload → announcement.order_of payload ≡ Some order
    → WasRead order (take (length payload - 4) (drop 4 payload)) used list → announcement.fields_of payload ≡ Ok (fields.fields_value list)
fields_read payload order used list room named read =
    fields_found payload order used list room named (rw (take_behind 4 payload) at read)
