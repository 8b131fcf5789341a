use Rattle.std.proofs.Common.{◌≡◌, ◌++◌, map, take}
use Rattle.std.specs.List.{flat_map}
use Rattle.std.specs.String.{string_bytes}
use Rattle.rtps_parts.specs.Parts as parts
use Rattle.rtps_parts.specs.Table as table
use Rattle.rtps_parts.proofs.table.push_table.Given as goal

abbrev pub invariant-loop-row : goal.invariant-loop-row
invariant-loop-row l =
    string_bytes l.text ≡ string_bytes l.initial.text ++ flat_map (table.line l.columns.items) (map (λ row. map parts.part_text row.items) (take l.row-index l.rows))
