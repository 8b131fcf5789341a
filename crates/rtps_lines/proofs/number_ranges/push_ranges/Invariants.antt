use Rattle.std.proofs.Common.{◌≡◌, ◌++◌, codes, take}
use Rattle.std.specs.List.{flat_map}
use Rattle.std.specs.String.{string_bytes}
use Rattle.rtps_lines.specs.NumberRanges as number_ranges
use Rattle.rtps_lines.proofs.number_ranges.push_ranges.Given as goal

abbrev pub invariant-loop-other : goal.invariant-loop-other
invariant-loop-other l =
    string_bytes l.text ≡ string_bytes l.initial.text ++ flat_map (λ other. codes ", " ++ number_ranges.range_text l.times other) (take l.other-index l.others)
