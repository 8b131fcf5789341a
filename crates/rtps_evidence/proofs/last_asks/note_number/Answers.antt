use Rattle.std.proofs.lemmas.Bool.Decides.{nat_tests}
use Rattle.std.proofs.Common.{◌≡◌, ◌∙◌, ap, arith, false, nat_lt, sym, true}
use Rattle.std.specs.Prelude.{is_some}
use Rattle.std.specs.BTreeMap.{get}
use Rattle.std.specs.Ordering.{nat_cmp}
use Rattle.rtps_coverage.specs.Stretches as stretches
use Rattle.rtps_evidence.proofs.LastAskLemmas.{none_there, noted_already, noted_once, not_among}
use Rattle.rtps_evidence.proofs.last_asks.note_number.Goals as goal

pub returns : goal.returns
returns c = λ n.
    let number = c.args.number in
    let past = c.if-end_at-number.false in
    let inside : nat_lt number c.end_at.result ≡ true = grind (arith, nat_tests, past) in
    noted_once (get nat_cmp c.args.asks.now n) (get nat_cmp c.insert.new.self n) c.args.ask number n (stretches.stretches_have c.args.numbers.now) (sym (c.end_at.ensures.reach number) ∙ inside)
    (λ same. ap (get nat_cmp c.args.asks.now) (sym same) ∙ none_there (get nat_cmp c.args.asks.now number) (sym c.contains_key.ensures ∙ c.if-contains_key.false)) (c.in_ok-insert.ensures.updates.0 n)

pub returns-then-end_at-number : goal.returns-then-end_at-number
returns-then-end_at-number c = λ n.
    let number = c.args.number in
    let past = c.if-end_at-number.true in
    let ended : nat_lt number c.end_at.result ≡ false = grind (arith, nat_tests, past) in
    not_among (get nat_cmp c.args.asks.now n) c.args.ask number n (stretches.stretches_have c.args.numbers.now) (sym (c.end_at.ensures.reach number) ∙ ended)

pub returns-then-contains_key : goal.returns-then-contains_key
returns-then-contains_key c = λ n. noted_already (get nat_cmp c.args.asks.now n) c.args.ask c.args.number n (stretches.stretches_have c.args.numbers.now) (λ same. ap (λ m. is_some (get nat_cmp c.args.asks.now m)) (sym same) ∙ sym c.contains_key.ensures ∙ c.if-contains_key.true)
