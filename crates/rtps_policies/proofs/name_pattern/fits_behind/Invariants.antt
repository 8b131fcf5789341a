use Rattle.std.proofs.Common.{◌≡◌, ◌∷◌, length}
use Rattle.rtps_policies.specs.NamePatterns as name_patterns
use Rattle.rtps_policies.proofs.name_pattern.fits_behind.Given as goal

-- what is left of the name fits what is left of the pattern exactly where the whole does
abbrev pub invariant-segments : goal.invariant-segments
invariant-segments l = name_patterns.fits_parts (name_patterns.PartValue.Many ∷ name_patterns.parts_of l.fn.pattern) l.fn.name ≡ name_patterns.fits_parts (name_patterns.PartValue.Many ∷ name_patterns.parts_of l.rest) l.left

abbrev pub decreases-segments : goal.decreases-segments
decreases-segments l = length l.rest
