use Rattle.std.proofs.Common.{◌≡◌, length}
use Rattle.rtps_policies.specs.NamePatterns as name_patterns
use Rattle.rtps_policies.proofs.name_pattern.has_member.Given as goal

-- none of the ranges so far has it
abbrev pub invariant-loop-first : goal.invariant-loop-first
invariant-loop-first l = name_patterns.is_member l.members l.octet ≡ name_patterns.is_member l.rest l.octet

abbrev pub decreases-loop-first : goal.decreases-loop-first
decreases-loop-first l = length l.rest
