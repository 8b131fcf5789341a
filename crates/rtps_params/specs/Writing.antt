-- Parameter lists as they are written, and why others are not written. DDSI-RTPS 2.5, 9.4.2.11 "ParameterList": an id,
-- a length that is a multiple of 4, and a value of that length; a sentinel ends the list. own: the length of the
-- sentinel, which is ignored, is 0.
use Rattle.std.specs.Prelude.{ℕ, ◌%◌, ◌==◌, ◌||◌, not, nat_lt, if◌then◌else◌, List, [], ◌∷◌, ◌++◌, length, Option, Some, None}
use Rattle.std.specs.List.{flat_map}
use Rattle.std.specs.Option.{option_or}
use Rattle.rtps_ids.specs.Octets as octets
use Rattle.rtps_ids.specs.declared.order.Order.{Order}
use Rattle.rtps_params.specs.Grammar as grammar
use Rattle.rtps_params.specs.declared.list_fault.ListFault.{ListFault}
use Rattle.rtps_params.specs.declared.layout.parameter.TheConstants as parameter_layout
use Rattle.rtps_params.specs.declared.layout.pid.TheConstants as pid

-- a parameter: its id, the length of its value, and its value
abbrev pub parameter_octets : Order → ℕ × List ℕ → List ℕ
parameter_octets order parameter = (octets.octets_of order 2 parameter.0 ++ octets.octets_of order 2 (length parameter.1)) ++ parameter.1

-- the sentinel
abbrev pub sentinel_octets : Order → List ℕ
sentinel_octets order = octets.octets_of order 2 pid.SENTINEL ++ octets.octets_of order 2 0

-- a list of these parameters: one after another, and then the sentinel
abbrev pub written_list : Order → grammar.Pairs → List ℕ
written_list order parameters = flat_map (parameter_octets order) parameters ++ sentinel_octets order

-- why a parameter is not written: the first condition that holds
abbrev pub parameter_fault : ℕ × List ℕ → Option ListFault
parameter_fault parameter =
    if nat_lt parameter_layout.LONGEST_VALUE (length parameter.1) then Some ListFault.ValueTooLong
    else if not (length parameter.1 % parameter_layout.ALIGNMENT == 0) then Some ListFault.ValueUnaligned
    else if parameter.0 == pid.PAD || parameter.0 == pid.SENTINEL then Some ListFault.PidReserved
    else None

-- why a list of these parameters is not written: the fault of the first of them that has one
abbrev pub list_fault : grammar.Pairs → Option ListFault
list_fault [] = None
list_fault (parameter ∷ parameters) = option_or (parameter_fault parameter) (list_fault parameters)
