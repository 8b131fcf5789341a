use Rattle.std.proofs.Common.{◌≡◌, map, take}
use Rattle.rtps_parts.specs.Parts as parts
use Rattle.rtps_parts.specs.Table as table
use Rattle.rtps_parts.proofs.table.columns_of.Given as goal

abbrev pub invariant-loop-place : goal.invariant-loop-place
invariant-loop-place l = l.columns.items ≡ map (table.column_of (map (λ row. map parts.part_text row.items) l.rows)) (take l.place-index l.places)
