use Rattle.std.proofs.Common.{◌≡◌, ◌<◌, ◌^◌, take, true}
use Rattle.std.specs.List.{list_all}
use Rattle.rtps_who.specs.Digits as digits
use Rattle.rtps_who.proofs.digits.number_in.Given as goal

-- what the digits so far spell
abbrev pub invariant-loop-octet : goal.invariant-loop-octet
invariant-loop-octet l = (list_all digits.is_digit (take l.octet-index l.octets) ≡ true) × (l.value ≡ digits.decimal (take l.octet-index l.octets)) × (l.value < 2 ^ 32)
