use Rattle.std.proofs.Common.{◌≡◌, ◌==◌, ◌&&◌, nat_lt, map, take, None}
use Rattle.std.specs.List.{find}
use Rattle.rtps_receiver.specs.Said as said
use Rattle.rtps_evidence.specs.Locations as locations
use Rattle.rtps_evidence.specs.declared.acknowledgement.Claim.{Claim}
use Rattle.rtps_evidence.proofs.acknowledgement.first_above.Given as goal

-- none so far claims it there
abbrev pub invariant-loop-answer : goal.invariant-loop-answer
invariant-loop-answer l = find (λ (claim : Claim). (claim.place.datagram == l.fn.datagram) && nat_lt l.fn.number (said.natural claim.below)) (map locations.claim_in (take l.answer-index l.answers)) ≡ None
