use Rattle.std.proofs.Common.{◌≡◌, ℕ, take}
use Rattle.std.specs.List.{list_any}
use Rattle.rtps_evidence.specs.Claimed as claimed
use Rattle.rtps_coverage.specs.Rising as rising
use Rattle.rtps_evidence.proofs.claimed.stretches_of.Given as goal

-- the answers so far claim as far
abbrev pub invariant-loop-answer : goal.invariant-loop-answer
invariant-loop-answer l = (datagram n : ℕ) → rising.some_reaches l.claims.items datagram n ≡ list_any (claimed.claims_up_to datagram n) (take l.answer-index l.answers)
