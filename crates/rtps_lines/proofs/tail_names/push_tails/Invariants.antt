use Rattle.std.proofs.Common.{◌≡◌, ◌++◌, map, take}
use Rattle.std.specs.List.{flat_map}
use Rattle.std.specs.Prelude.{codes}
use Rattle.std.specs.String.{string_bytes}
use Rattle.rtps_lines.specs.TailNames as tail_names
use Rattle.rtps_lines.proofs.tail_names.push_tails.Given as goal

abbrev pub invariant-loop-other : goal.invariant-loop-other
invariant-loop-other l =
    string_bytes l.text ≡ string_bytes l.initial.text ++ flat_map (tail_names.tail_text (codes ", ")) (map tail_names.tail_value (take l.other-index l.others))
