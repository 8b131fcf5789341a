use Rattle.std.proofs.Common.{List, ◌∙◌, ◌==◌, ap, arith, map}
use Rattle.std.proofs.lemmas.Int.{ints}
use Rattle.std.specs.List.{find}
use Rattle.rtps_audit.specs.Delivery as delivery
use Rattle.rtps_audit.specs.Placed as placed
use Rattle.rtps_receiver.specs.Said as said
use Rattle.rtps_audit.specs.declared.answer.Answer.{Answer}
use Rattle.rtps_evidence.specs.Locations as locations
use Rattle.rtps_evidence.specs.declared.acknowledgement.Claim.{Claim}
use Rattle.rtps_evidence.proofs.AnswerLemmas.{acknowledged, unacknowledged}
use Rattle.rtps_evidence.proofs.acknowledgement.find_acknowledgement.Goals as goal

pub returns-then-base-get : goal.returns-then-base-get
returns-then-base-get c = λ pair recording answers.
    unacknowledged c.args.from c.greatest_base-base.result pair (placed.placed_in recording)
    (c.greatest_base-base.ensures.value ∙ ap (λ (all : List Answer). delivery.greatest (map (λ answer. said.natural answer.base) all)) answers) (omega (arith, ints))

pub returns : goal.returns
returns c = λ pair recording answers.
    c.first_with.ensures
    ∙ ap (λ (all : List Answer). find (λ (claim : Claim). said.natural claim.below == c.greatest_base-base.result) (map locations.claim_in all)) answers
    ∙ acknowledged c.args.from c.greatest_base-base.result pair (placed.placed_in recording)
    (c.greatest_base-base.ensures.value ∙ ap (λ (all : List Answer). delivery.greatest (map (λ answer. said.natural answer.base) all)) answers) (omega (arith, ints))
