use Rattle.std.proofs.Common.{◌≡◌, length}
use Rattle.rtps_policies.specs.NamePatterns as name_patterns
use Rattle.rtps_policies.proofs.name_pattern.is_pattern.Given as goal

-- no part so far stands for other octets
abbrev pub invariant-loop-part : goal.invariant-loop-part
invariant-loop-part l = name_patterns.is_pattern l.name ≡ name_patterns.is_pattern l.rest

abbrev pub decreases-loop-part : goal.decreases-loop-part
decreases-loop-part l = length l.rest
