use Rattle.std.proofs.Common.{◌≡◌, ◌++◌, map, take}
use Rattle.std.specs.List.{flat_map}
use Rattle.std.specs.String.{string_bytes}
use Rattle.rtps_lines.specs.Notes as notes
use Rattle.rtps_lines.proofs.side_notes.push_all_unread.Given as goal

abbrev pub invariant-loop-unread : goal.invariant-loop-unread
invariant-loop-unread l =
    map string_bytes l.notes.items
    ≡ map string_bytes l.initial.notes.items ++ flat_map (notes.unread_note l.arrow) (map notes.unread_value (take l.unread-index l.unread-items))
