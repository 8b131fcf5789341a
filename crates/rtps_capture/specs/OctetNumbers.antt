-- Octets as numbers, which lie in the order that a file tells, and in packets with the highest octet first (RFC 791 "Internet
-- Protocol", B "Data Transmission Order").
use Rattle.std.specs.Prelude.{ℕ, Bool, if◌then◌else◌, List, drop, Option, Some, None}
use Rattle.rtps_ids.specs.Octets as octets_spec
use Rattle.rtps_ids.specs.declared.order.Order.{Order}

-- two octets as a number
abbrev pub two_at : Order → List ℕ → ℕ → ℕ
two_at order octets at = octets_spec.number_of order 2 (drop at octets)

-- four octets as a number
abbrev pub four_at : Order → List ℕ → ℕ → ℕ
four_at order octets at = octets_spec.number_of order 4 (drop at octets)

-- the order in which four octets are a number that is looked for
abbrev pub order_by : (ℕ → Bool) → List ℕ → ℕ → Option Order
order_by is_it octets at = if is_it (four_at Order.Big octets at) then Some Order.Big else if is_it (four_at Order.Little octets at) then Some Order.Little else None
