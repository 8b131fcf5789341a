-- The end and the pairs of the list at the beginning of octets, as functions. DDSI-RTPS 2.5, 9.4.2.11 "ParameterList".
-- Laws of module `laws` say that both agree with the grammar.
use Rattle.std.specs.Prelude.{ℕ, zero, suc, ◌+◌, ◌==◌, nat_lt, nat_le, Bool, not, ◌&&◌, if◌then◌else◌, List, [], ◌∷◌, length, take, drop, find, Option, option_map, Result, Ok, Err}
use Rattle.rtps_ids.specs.declared.order.Order.{Order}
use Rattle.rtps_params.specs.Grammar as grammar
use Rattle.rtps_params.specs.declared.fault.ParamFault.{ParamFault}
use Rattle.rtps_params.specs.declared.layout.parameter.TheConstants as parameter
use Rattle.rtps_params.specs.declared.layout.pid.TheConstants as pid

-- how many octets the parameter at the beginning takes, if it is whole
abbrev pub size_of : Order → List ℕ → ℕ
size_of order octets = parameter.HEADER + grammar.length_of order octets

-- the same end, so many octets later
abbrev pub further : ℕ → Result ℕ ParamFault → Result ℕ ParamFault
further octets (Ok used) = Ok (octets + used)
further octets (Err fault) = Err fault

-- where the list ends, if `behind` is where it ends after its first parameter
abbrev pub end_by_front : Order → List ℕ → Result ℕ ParamFault → Result ℕ ParamFault
end_by_front order octets behind =
    if nat_lt (length octets) parameter.HEADER then Err ParamFault.CutHeader
    else if grammar.pid_of order octets == pid.SENTINEL then Ok parameter.HEADER
    else if nat_lt (length octets) (size_of order octets) then Err ParamFault.CutValue
    else further (size_of order octets) behind

-- where the list ends, found in at most so many steps
unfoldable pub list_end_in : ℕ → Order → List ℕ → Result ℕ ParamFault
list_end_in zero order octets = Err ParamFault.CutHeader
list_end_in (suc steps) order octets = end_by_front order octets (list_end_in steps order (drop (size_of order octets) octets))

-- how many octets the list at the beginning of these octets has, or why there is none
unfoldable pub list_end : Order → List ℕ → Result ℕ ParamFault
list_end order octets = list_end_in (length octets) order octets

-- the octets begin with a whole parameter that is no sentinel
abbrev pub has_parameter : Order → List ℕ → Bool
has_parameter order octets =
    nat_le parameter.HEADER (length octets) && (not (grammar.pid_of order octets == pid.SENTINEL) && nat_le (size_of order octets) (length octets))

-- the parameters, if `behind` are those after the first one
abbrev pub parameters_by_front : Order → List ℕ → grammar.Pairs → grammar.Pairs
parameters_by_front order octets behind =
    if has_parameter order octets then (grammar.pid_of order octets, take (grammar.length_of order octets) (drop parameter.HEADER octets)) ∷ behind else []

-- the parameters, found in at most so many steps
unfoldable pub parameters_in : ℕ → Order → List ℕ → grammar.Pairs
parameters_in zero order octets = []
parameters_in (suc steps) order octets = parameters_by_front order octets (parameters_in steps order (drop (size_of order octets) octets))

-- the parameters that these octets begin with, up to a sentinel or a fault
unfoldable pub parameters_of : Order → List ℕ → grammar.Pairs
parameters_of order octets = parameters_in (length octets) order octets

-- the pairs of the list that these octets begin with
abbrev pub pairs_of : Order → List ℕ → grammar.Pairs
pairs_of order octets = grammar.without_pads (parameters_of order octets)

-- the value of the first pair with this id. own: if several parameters have one id, the first one counts, so that a
-- later one does not change what was read.
abbrev pub first_value : ℕ → grammar.Pairs → Option (List ℕ)
first_value pid pairs = option_map (λ pair. pair.1) (find (λ pair. pair.0 == pid) pairs)
