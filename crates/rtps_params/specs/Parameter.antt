-- A parameter that was read from the beginning of octets. DDSI-RTPS 2.5, 9.4.2.11 "ParameterList".
use Rattle.std.specs.Prelude.{◌≡◌, ◌≢◌, ◌≤◌, ℕ, List, length, take, drop}
use Rattle.rtps_ids.specs.declared.order.Order.{Order}
use Rattle.rtps_params.specs.Grammar as grammar
use Rattle.rtps_params.specs.Reading as reading
use Rattle.rtps_params.specs.declared.layout.parameter.TheConstants as parameter_layout
use Rattle.rtps_params.specs.declared.layout.pid.TheConstants as pid
use Rattle.rtps_params.specs.declared.parameter.Parameter.{Parameter}

-- the octets begin with a sentinel
pub record BeginsWithSentinel (order : Order) (octets : List ℕ) : Type 0 where
  pub room : parameter_layout.HEADER ≤ length octets
  pub pid_is : grammar.pid_of order octets ≡ pid.SENTINEL

-- the octets begin with this parameter, whole, and it is no sentinel
pub record BeginsWith (order : Order) (octets : List ℕ) (parameter : Parameter) : Type 0 where
  pub pid_is : parameter.pid ≡ grammar.pid_of order octets
  pub no_sentinel : grammar.pid_of order octets ≢ pid.SENTINEL
  pub room : reading.size_of order octets ≤ length octets
  pub value_is : parameter.value.now ≡ take (grammar.length_of order octets) (drop parameter_layout.HEADER octets)
  pub rest_is : parameter.rest.now ≡ drop (reading.size_of order octets) octets
