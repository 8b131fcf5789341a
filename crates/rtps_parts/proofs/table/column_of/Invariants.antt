use Rattle.std.proofs.Common.{◌≡◌, map, take}
use Rattle.rtps_parts.specs.Parts as parts
use Rattle.rtps_parts.specs.Table as table
use Rattle.rtps_parts.proofs.table.column_of.Given as goal

abbrev pub invariant-loop-row : goal.invariant-loop-row
invariant-loop-row l = l.width ≡ table.width (map (λ row. map parts.part_text row.items) (take l.row-index l.rows)) l.place
