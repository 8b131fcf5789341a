use Rattle.std.proofs.Common.{◌≡◌, ◌++◌, codes, decimal, take, flat_map, string_bytes}
use Rattle.rtps_check.proofs.not_arrived.push_numbers.Given as goal

-- the numbers so far, each behind a comma
abbrev pub invariant-loop-other : goal.invariant-loop-other
invariant-loop-other l = string_bytes l.text ≡ string_bytes l.initial.text ++ flat_map (λ number. codes ", " ++ decimal number) (take l.other-index l.others)
