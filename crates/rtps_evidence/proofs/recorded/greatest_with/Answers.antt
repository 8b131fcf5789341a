use Rattle.std.proofs.Common.{◌∙◌, ℕ, ap, max, sym}
use Rattle.rtps_audit.specs.Placed as placed
use Rattle.rtps_evidence.specs.Recorded as recorded
use Rattle.rtps_evidence.proofs.FindLemmas.{greatest_more}
use Rattle.rtps_evidence.proofs.recorded.greatest_with.Goals as goal

pub returns-clause-value : goal.returns-clause-value
returns-clause-value c = λ acts is.
    let x = placed.placed_value c.args.placed.now in
    c.max.ensures ∙ ap (λ (n : ℕ). max n c.number_sent.result) is ∙ ap (max _) c.number_sent.ensures.value ∙ sym (greatest_more (recorded.number_sent c.args.writer) acts x)
