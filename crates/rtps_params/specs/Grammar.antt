-- Which octets are a parameter list, and why others are none. DDSI-RTPS 2.5, 9.4.2.11 "ParameterList".
--
-- A parameter is an id of two octets, a length of two octets and a value of that many octets. The sentinel, id 1, ends
-- the list; its length is ignored. A parameter of id 0 is a pad. own: in the standard a length is a multiple of 4. Here
-- any length is allowed, and the next parameter follows at once, so that each length has one reading.
use Rattle.std.specs.Prelude.{◌≡◌, ◌≢◌, ◌==◌, ℕ, ◌+◌, ◌<◌, ◌≤◌, not, List, [], ◌∷◌, ◌++◌, length, drop, filter}
use Rattle.rtps_ids.specs.Octets as octets_spec
use Rattle.rtps_ids.specs.declared.order.Order.{Order}
use Rattle.rtps_params.specs.declared.fault.ParamFault.{ParamFault}
use Rattle.rtps_params.specs.declared.layout.parameter.TheConstants as parameter
use Rattle.rtps_params.specs.declared.layout.pid.TheConstants as pid

-- the id that a header spells
abbrev pub pid_of : Order → List ℕ → ℕ
pid_of order octets = octets_spec.number_of order 2 octets

-- the length that a header spells
abbrev pub length_of : Order → List ℕ → ℕ
length_of order octets = octets_spec.number_of order 2 (drop parameter.LENGTH octets)

-- ids and values, in order
abbrev pub Pairs : Type 0
Pairs = List (ℕ × List ℕ)

-- octets that are one parameter: a header of four octets, and a value as long as the header says
pub record IsParameter (order : Order) (pid : ℕ) (value octets : List ℕ) : Type 0 where
  pub header : List ℕ
  pub four_octets : length header ≡ parameter.HEADER
  pub pid_is : pid_of order header ≡ pid
  pub length_is : length_of order header ≡ length value
  pub whole : octets ≡ header ++ value

-- octets that are these parameters, ids and values, one after another; none is the sentinel
abbrev pub AreParameters : Order → Pairs → List ℕ → Type 0
AreParameters order [] octets = octets ≡ []
AreParameters order (parameter ∷ parameters) octets =
    (front : List ℕ) × (rest : List ℕ) × (octets ≡ front ++ rest) × (parameter.0 ≢ pid.SENTINEL)
    × IsParameter order parameter.0 parameter.1 front × AreParameters order parameters rest

-- the parameters that are no pads
abbrev pub without_pads : Pairs → Pairs
without_pads parameters = filter (λ parameter. not (parameter.0 == pid.PAD)) parameters

-- octets that are a list: parameters, the four octets of a sentinel, and nothing after it. The pairs are the ids and
-- values of its parameters in order, without pads.
pub record IsList (order : Order) (pairs : Pairs) (octets : List ℕ) : Type 0 where
  pub parameters : Pairs
  pub front : List ℕ
  pub sentinel : List ℕ
  pub whole : octets ≡ front ++ sentinel
  pub before : AreParameters order parameters front
  pub four_octets : length sentinel ≡ parameter.HEADER
  pub closed : pid_of order sentinel ≡ pid.SENTINEL
  pub shown : pairs ≡ without_pads parameters

-- octets that begin with a list, whatever follows it
pub record BeginsWithList (order : Order) (octets : List ℕ) : Type 0 where
  pub pairs : Pairs
  pub list : List ℕ
  pub rest : List ℕ
  pub whole : octets ≡ list ++ rest
  pub is_list : IsList order pairs list

-- octets that are cut: fewer than a header, or the header of a parameter and less than its value
abbrev pub IsCut : Order → ParamFault → List ℕ → Type 0
IsCut order ParamFault.CutHeader octets = length octets < parameter.HEADER
IsCut order ParamFault.CutValue octets = (parameter.HEADER ≤ length octets) × (pid_of order octets ≢ pid.SENTINEL) × (length octets < parameter.HEADER + length_of order octets)

-- octets that begin with no list: parameters without a sentinel, and then octets that are cut
pub record HasFault (order : Order) (fault : ParamFault) (octets : List ℕ) : Type 0 where
  pub parameters : Pairs
  pub front : List ℕ
  pub rest : List ℕ
  pub whole : octets ≡ front ++ rest
  pub before : AreParameters order parameters front
  pub cut : IsCut order fault rest
