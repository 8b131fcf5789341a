use Rattle.std.proofs.Common.{◌≡◌, ◌++◌, map, take}
use Rattle.std.specs.List.{flat_map}
use Rattle.std.specs.String.{string_bytes}
use Rattle.rtps_report.specs.OneSides as one_sides
use Rattle.rtps_lines.specs.NoPairText as no_pair_text
use Rattle.rtps_lines.proofs.no_pair_text.push_named.Given as goal

-- those of the others so far
abbrev pub invariant-loop-other : goal.invariant-loop-other
invariant-loop-other l = string_bytes l.text ≡ string_bytes l.initial.text ++ flat_map no_pair_text.next_text (map one_sides.one_sided_value (take l.other-index l.others))
