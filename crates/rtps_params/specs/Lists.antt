-- What a list stands for. own: a list of octets in place of a borrowed slice, so that two parameter lists are equal if
-- their octets are.
use Rattle.std.specs.Prelude.{ℕ, nat_eq, Bool, true, false, ◌&&◌, List}
use Rattle.std.specs.Cmp.Lexicographic.{pointwise}
use Rattle.rtps_ids.specs.declared.order.Order.{Order}
use Rattle.rtps_params.specs.Grammar as grammar
use Rattle.rtps_params.specs.Reading as reading
use Rattle.rtps_params.specs.declared.list.ParamList.{ParamList}

-- its octets, sentinel included
abbrev pub list_octets : ParamList → List ℕ
list_octets list = list.octets.now

-- the order of its numbers
abbrev pub list_order : ParamList → Order
list_order list = list.order

-- its ids and values in order, without pads
abbrev pub list_pairs : ParamList → grammar.Pairs
list_pairs list = reading.pairs_of list.order list.octets.now

-- a list as its order and its octets
pub record ListValue : Type 0 where
  pub order : Order
  pub octets : List ℕ

-- what a parameter list stands for: two are equal if these are
abbrev pub list_value : ParamList → ListValue
list_value list = record { order = list.order; octets = list.octets.now }

-- whether two orders are the same
abbrev pub is_same_order : Order → Order → Bool
is_same_order Order.Big Order.Big = true
is_same_order Order.Little Order.Little = true
is_same_order _ _ = false

-- whether two parameter lists are the same
abbrev pub is_same_list : ParamList → ParamList → Bool
is_same_list one other = is_same_order one.order other.order && pointwise nat_eq one.octets.now other.octets.now
