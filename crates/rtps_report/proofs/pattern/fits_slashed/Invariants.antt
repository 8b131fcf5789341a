use Rattle.std.proofs.Common.{◌≡◌, ◌++◌, ◌<◌, ℕ, codes, false}
use Rattle.rtps_report.specs.Patterns as patterns
use Rattle.rtps_report.proofs.pattern.fits_slashed.Given as goal

-- no place so far serves
abbrev pub invariant-loop-place : goal.invariant-loop-place
invariant-loop-place l = (place : ℕ) → place < l.place → patterns.parts_fit l.pattern place l.namespace (codes "/" ++ l.name) ≡ false
