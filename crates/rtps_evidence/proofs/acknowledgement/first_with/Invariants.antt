use Rattle.std.proofs.Common.{◌≡◌, ◌==◌, map, take, None}
use Rattle.std.specs.List.{find}
use Rattle.rtps_receiver.specs.Said as said
use Rattle.rtps_evidence.specs.Locations as locations
use Rattle.rtps_evidence.specs.declared.acknowledgement.Claim.{Claim}
use Rattle.rtps_evidence.proofs.acknowledgement.first_with.Given as goal

-- none so far has it
abbrev pub invariant-loop-answer : goal.invariant-loop-answer
invariant-loop-answer l = find (λ (claim : Claim). said.natural claim.below == l.fn.base) (map locations.claim_in (take l.answer-index l.answers)) ≡ None
