-- Decimal digits. own: a process id is recorded as a text, and one of another form is no process id.
use Rattle.std.specs.Prelude.{ℕ, ◌+◌, ◌-◌, ◌*◌, ◌^◌, ◌&&◌, Bool, if◌then◌else◌, List, Option, Some, None, fold, length, nat_le, nat_lt}
use Rattle.std.specs.List.{list_all}
use Rattle.rtps_who.specs.declared.layout.mark.TheConstants as mark

-- a decimal digit
abbrev pub is_digit : ℕ → Bool
is_digit octet = nat_le mark.ZERO octet && nat_le octet mark.NINE

-- what digits spell, with one digit more
abbrev pub digit_more : ℕ → ℕ → ℕ
digit_more value octet = value * 10 + (octet - mark.ZERO)

-- the number that decimal digits spell
abbrev pub decimal : List ℕ → ℕ
decimal octets = fold digit_more 0 octets

-- the number below 2^32 that a text spells: digits alone, one at least
abbrev pub number_in : List ℕ → Option ℕ
number_in octets =
    if nat_lt 0 (length octets) && (list_all is_digit octets && nat_lt (decimal octets) (2 ^ 32)) then Some (decimal octets) else None
