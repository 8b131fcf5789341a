use Rattle.std.proofs.Common.{◌≡◌, ◌++◌, flat_map, string_bytes}
use Rattle.rtps_text.specs.ShowText as show_text
use Rattle.rtps_text.proofs.text.parts.push_bitmap.Given as goal

abbrev pub invariant-loop-i : goal.invariant-loop-i
invariant-loop-i l = string_bytes l.text ≡ string_bytes l.initial.text ++ flat_map show_text.long_digits (show_text.first_longs l.set l.i)
