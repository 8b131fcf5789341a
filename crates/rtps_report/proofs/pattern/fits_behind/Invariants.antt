use Rattle.std.proofs.Common.{◌≡◌, ◌+◌, ◌∷◌, length}
use Rattle.rtps_report.specs.Patterns as patterns
use Rattle.rtps_report.proofs.pattern.fits_behind.Given as goal

abbrev pub invariant-parts : goal.invariant-parts
invariant-parts l = patterns.fits (patterns.star ∷ l.fn.pattern) l.fn.topic ≡ patterns.fits (patterns.star ∷ l.rest) l.left

abbrev pub decreases-parts : goal.decreases-parts
decreases-parts l = length l.rest + length l.left
