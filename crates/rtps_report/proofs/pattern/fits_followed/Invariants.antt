use Rattle.std.proofs.Common.{◌≡◌, ◌<◌, ℕ, false}
use Rattle.rtps_report.specs.Patterns as patterns
use Rattle.rtps_report.proofs.pattern.fits_followed.Given as goal

-- no place so far serves
abbrev pub invariant-loop-place : goal.invariant-loop-place
invariant-loop-place l = (place : ℕ) → place < l.place → patterns.parts_fit l.pattern place l.name l.word ≡ false
