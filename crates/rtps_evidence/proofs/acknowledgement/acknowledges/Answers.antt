use Rattle.std.proofs.Common.{List, ◌∙◌, ap, map, nat_lt}
use Rattle.rtps_audit.specs.Delivery as delivery
use Rattle.rtps_audit.specs.Placed as placed
use Rattle.rtps_audit.specs.declared.answer.Answer.{Answer}
use Rattle.rtps_receiver.specs.Said as said
use Rattle.rtps_evidence.proofs.AnswerLemmas.{bases_same}
use Rattle.rtps_evidence.proofs.acknowledgement.acknowledges.Goals as goal

pub returns : goal.returns
returns c = λ intake is.
    ap (nat_lt 1)
    (c.greatest_base.ensures.value ∙ ap (λ (all : List Answer). delivery.greatest (map (λ answer. said.natural answer.base) all)) (c.answers_of.ensures intake is)
    ∙ bases_same c.args.pair (placed.placed_in intake.acts))
