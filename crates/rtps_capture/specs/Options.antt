-- The two options of an Interface Description Block that tell of its times. PCAP Now Generic Capture File Format (IETF draft), 3.5
-- "Options" and 4.2 "Interface Description Block".
-- own: the first option of a code counts, if it has the size that the draft gives it. Behind one that passes the block none is read.
use Rattle.std.specs.Prelude.{ℕ, ◌+◌, ◌*◌, ◌/◌, ◌==◌, ◌&&◌, not, nat_le, Bool, if◌then◌else◌, List, length, drop, slice_index, Option, Some, None, option_map, unwrap_or}
use Rattle.rtps_ids.specs.Octets as octets
use Rattle.rtps_ids.specs.declared.order.Order.{Order}
use Rattle.rtps_capture.specs.OctetNumbers as octet_numbers
use Rattle.rtps_capture.specs.Passed as passed
use Rattle.rtps_capture.specs.declared.layout.option.TheConstants as option
use Rattle.rtps_capture.specs.declared.passed.Header.{Header}

-- the option at this place; where none is there, the end
abbrev pub option_at : Order → List ℕ → ℕ → Header
option_at order options at =
    record { kind = if nat_le (at + option.VALUE) (length options) then octet_numbers.two_at order options at else option.END; at = at }

-- the size of its value
abbrev pub value_size : Order → List ℕ → ℕ → ℕ
value_size order options at = octet_numbers.two_at order options (at + option.LENGTH)

-- where the next option begins: behind the value, and octets up to a multiple of four
abbrev pub next_option : Order → List ℕ → ℕ → ℕ
next_option order options at = at + option.VALUE + (value_size order options at + 3) / 4 * 4

-- it is whole at its front, and neither the end nor of this code
abbrev pub is_passed : ℕ → List ℕ → Header → Bool
is_passed code options header =
    nat_le (header.at + option.VALUE) (length options) && not (header.kind == option.END) && not (header.kind == code)

-- an option of another code is passed
abbrev pub option_passed : Order → ℕ → List ℕ → Header → Option Header
option_passed order code options header =
    if is_passed code options header && nat_le (next_option order options header.at) (length options)
    then Some (option_at order options (next_option order options header.at))
    else None

-- the first option of this code, or the last one that is read
abbrev pub found_option : Order → ℕ → List ℕ → Header
found_option order code options = passed.last_within (option_passed order code options) (length options) (option_at order options 0)

-- where the value of so many octets stands of such an option
abbrev pub value_of : Order → ℕ → ℕ → List ℕ → Header → Option ℕ
value_of order code size options header =
    if header.kind == code && nat_le (header.at + option.VALUE + size) (length options) && value_size order options header.at == size
    then Some (header.at + option.VALUE)
    else None

-- where the value of this option stands, if it is told
abbrev pub value_told : Order → ℕ → ℕ → List ℕ → Option ℕ
value_told order code size options = value_of order code size options (found_option order code options)

-- a resolution that is not told is of microseconds
abbrev pub resolution_told : Order → List ℕ → ℕ
resolution_told order options = unwrap_or (option_map (λ at. slice_index options at) (value_told order option.RESOLUTION 1 options)) option.USUAL_RESOLUTION

-- an offset that is not told is 0
abbrev pub offset_told : Order → List ℕ → ℕ
offset_told order options = unwrap_or (option_map (λ at. octets.number_of order 8 (drop at options)) (value_told order option.OFFSET 8 options)) 0
