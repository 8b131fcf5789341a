use Rattle.std.proofs.Common.{List, ◌∙◌, ◌==◌, ◌&&◌, nat_lt, ap, map}
use Rattle.std.specs.List.{find}
use Rattle.rtps_audit.specs.Placed as placed
use Rattle.rtps_receiver.specs.Said as said
use Rattle.rtps_audit.specs.declared.answer.Answer.{Answer}
use Rattle.rtps_evidence.specs.Locations as locations
use Rattle.rtps_evidence.specs.declared.acknowledgement.Claim.{Claim}
use Rattle.rtps_evidence.proofs.AnswerLemmas.{claimed}
use Rattle.rtps_evidence.proofs.acknowledgement.find_claim.Goals as goal

pub returns : goal.returns
returns c = λ pair recording is.
    c.first_above.ensures
    ∙ ap (λ (all : List Answer). find (λ (claim : Claim). (claim.place.datagram == c.args.datagram) && nat_lt c.args.number (said.natural claim.below)) (map locations.claim_in all)) is
    ∙ claimed c.args.datagram c.args.number pair (placed.placed_in recording)
