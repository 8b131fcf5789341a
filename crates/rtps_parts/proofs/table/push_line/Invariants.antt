use Rattle.std.proofs.Common.{◌≡◌, ◌++◌, map, take}
use Rattle.std.specs.List.{flat_map}
use Rattle.std.specs.String.{string_bytes}
use Rattle.rtps_parts.specs.Parts as parts
use Rattle.rtps_parts.specs.Table as table
use Rattle.rtps_parts.proofs.table.push_line.Given as goal

abbrev pub invariant-loop-column : goal.invariant-loop-column
invariant-loop-column l = string_bytes l.text ≡ string_bytes l.initial.text ++ flat_map (table.cell (map parts.part_text l.row)) (take l.column-index l.columns)
