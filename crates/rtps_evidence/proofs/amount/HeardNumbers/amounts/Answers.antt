use Rattle.std.proofs.lemmas.Grind.{common_steps}
use Rattle.std.proofs.lemmas.Bool.Decides.{nat_tests}
use Rattle.std.proofs.Common.{◌≡◌, ◌∙◌, ◌+◌, ◌||◌, ℕ, ap, arith}
use Rattle.std.proofs.lemmas.List.Folds.{list_any-append}
use Rattle.rtps_coverage.specs.Counts as counts
use Rattle.rtps_coverage.specs.Stretches as stretches
use Rattle.rtps_coverage.proofs.Offered.{count_others, count_same}
use Rattle.rtps_evidence.specs.Amount as amount
use Rattle.rtps_evidence.proofs.AmountLemmas.{amounts_counted}
use Rattle.rtps_evidence.proofs.amount.HeardNumbers.amounts.Goals as goal

pub overflow_sub-result-2 : goal.overflow_sub-result-2
overflow_sub-result-2 c = grind (arith, nat_tests, common_steps, count_others)

pub returns : goal.returns
returns c = λ writer reader acts is_early is_gone heard.
    let old = c.args.self.now in
    let from = c.args.asked.now.from in
    let end = c.args.asked.now.last + 1 in
    let payloads : c.in_ok-payloads.payloads ≡ counts.count_in (amount.has_sent old) from end =
    c.in_ok-payloads.ensures.count ∙ ap (λ l. counts.count_in (λ n. stretches.stretches_have old.early.items n || stretches.stretches_have l n) from end) c.deref.ensures.value in
    let sent : (n : ℕ) → stretches.stretches_have c.count_with.new.numbers.items n ≡ amount.has_sent old n =
    λ n. c.in_ok-payloads.ensures.numbers n ∙ ap (λ l. stretches.stretches_have old.early.items n || stretches.stretches_have l n) c.deref.ensures.value in
    let more : (n : ℕ) → stretches.stretches_have c.extend_from_slice.new.self.items n ≡ (amount.has_sent old n || stretches.stretches_have old.gone.items n) =
    λ n.
    ap (λ l. stretches.stretches_have l n) c.in_ok-extend_from_slice.ensures.items
    ∙ list_any-append (stretches.stretch_has n) c.count_with.new.numbers.items c.deref-2.result.now
    ∙ ap (λ b. b || stretches.stretches_have c.deref-2.result.now n) (sent n)
    ∙ ap (λ l. amount.has_sent old n || stretches.stretches_have l n) c.deref-2.ensures.value in
    let told : c.in_ok-told.told ≡ counts.count_in (amount.has_told old) from end =
    c.in_ok-told.ensures.count
    ∙ count_same _ (amount.has_told old) from end (λ n low high. ap (λ b. b || stretches.stretches_have c.deref-3.result.now n) (more n) ∙ ap (λ l. (amount.has_sent old n || stretches.stretches_have old.gone.items n) || stretches.stretches_have l n) c.deref-3.ensures.value) in
    let first : c.get-2.result ≡ from = c.get-2.ensures.value in
    let amounts = amounts_counted from c.args.asked.now.last writer reader acts (amount.has_sent old) (amount.has_told old) c.in_ok-payloads.payloads c.in_ok-told.told heard.sent heard.told payloads told in
    rw (first, c.saturating_sub.ensures) amounts
