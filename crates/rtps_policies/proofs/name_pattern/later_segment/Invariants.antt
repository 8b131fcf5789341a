use Rattle.std.proofs.Common.{◌≡◌, ◌≤◌, ◌∷◌, length}
use Rattle.rtps_policies.specs.NamePatterns as name_patterns
use Rattle.rtps_policies.proofs.name_pattern.later_segment.Given as goal

-- what is left of the name fits exactly where the whole does
abbrev pub invariant-places : goal.invariant-places
invariant-places l = (name_patterns.fits_parts (name_patterns.PartValue.Many ∷ name_patterns.parts_of l.pattern) l.name ≡ name_patterns.fits_parts (name_patterns.PartValue.Many ∷ name_patterns.parts_of l.pattern) l.left) × (length l.left ≤ length l.name)

abbrev pub decreases-places : goal.decreases-places
decreases-places l = length l.left
