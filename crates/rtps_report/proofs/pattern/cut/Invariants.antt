use Rattle.std.proofs.Common.{◌≡◌, take, true}
use Rattle.rtps_report.specs.Patterns as patterns
use Rattle.rtps_report.proofs.pattern.cut.Given as goal

abbrev pub invariant-loop-place : goal.invariant-loop-place
invariant-loop-place l = patterns.is_plain (take l.place l.pattern) ≡ true
