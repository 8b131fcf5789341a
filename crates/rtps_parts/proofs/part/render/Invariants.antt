use Rattle.std.proofs.Common.{◌≡◌, ◌++◌, take}
use Rattle.std.specs.List.{flat_map}
use Rattle.std.specs.String.{string_bytes}
use Rattle.rtps_parts.specs.Parts as parts
use Rattle.rtps_parts.proofs.part.render.Given as goal

abbrev pub invariant-loop-part : goal.invariant-loop-part
invariant-loop-part l = string_bytes l.text ≡ string_bytes l.initial.text ++ flat_map parts.part_text (take l.part-index l.parts)
