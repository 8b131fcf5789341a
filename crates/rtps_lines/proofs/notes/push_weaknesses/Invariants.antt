use Rattle.std.proofs.Common.{◌≡◌, ◌++◌, map, take}
use Rattle.std.specs.List.{flat_map}
use Rattle.std.specs.String.{string_bytes}
use Rattle.rtps_lines.specs.Notes as notes
use Rattle.rtps_lines.proofs.notes.push_weaknesses.Given as goal

abbrev pub invariant-loop-found : goal.invariant-loop-found
invariant-loop-found l =
    map string_bytes l.notes.items ≡ map string_bytes l.initial.notes.items ++ flat_map (notes.note l.arrow) (take l.found-index l.found-items)
