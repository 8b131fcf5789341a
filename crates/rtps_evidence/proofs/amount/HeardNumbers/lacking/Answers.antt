use Rattle.std.proofs.Common.{◌∙◌, ◌+◌, ◌++◌, ◌∷◌, ◌||◌, [], ap, arith, filter, nat_lt, not}
use Rattle.rtps_audit.specs.Placed as placed
use Rattle.rtps_coverage.specs.Stretches as stretches
use Rattle.rtps_coverage.specs.declared.stretch.Stretch.{Stretch}
use Rattle.std.specs.List.{list_any}
use Rattle.rtps_evidence.specs.Claimed as claimed
use Rattle.rtps_evidence.proofs.ClaimedLemmas.{lacking_same, put_together}
use Rattle.rtps_evidence.proofs.amount.HeardNumbers.lacking.Goals as goal

pub returns : goal.returns
returns c = λ pair recording same heard n low high.
    let answers = c.args.answers.now in
    let its = filter (placed.is_from pair.writer) (placed.placed_in recording) in
    c.in_ok-lacking.ensures n low high
    ∙ ap (λ l. stretches.stretches_have l n) c.deref-3.ensures.value
    ∙ put_together c.in_ok-numbers.numbers.items c.deref-2.result.now _ n c.greatest_base.result (c.args.asked.now.last + 1) (list_any (claimed.sends_early answers pair n) its) (list_any (claimed.withdraws_early answers pair n) its) (omega arith)
    (c.in_ok-push.ensures.items ∙ ap (λ l. l ++ (let one : Stretch = record { lo = c.greatest_base.result; hi = c.args.asked.now.last + 1 } in one) ∷ []) c.in_ok-extend_from_slice.ensures.items)
    (c.in_ok-numbers.ensures n low high ∙ ap (λ l. not (stretches.stretches_have l n)) (c.in_ok-early.ensures.items ∙ c.deref.ensures.value) ∙ ap not (heard.early n))
    (ap (λ l. stretches.stretches_have l n) c.deref-2.ensures.value ∙ heard.gone n)
    ∙ ap (λ m. (not (list_any (claimed.sends_early answers pair n) its) || list_any (claimed.withdraws_early answers pair n) its) || not (nat_lt n m)) c.greatest_base.ensures.value
    ∙ lacking_same pair recording answers n same
