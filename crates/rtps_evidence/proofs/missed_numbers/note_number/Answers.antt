use Rattle.std.proofs.Common.{◌≡◌, ◌∙◌, Some, ap, arith, cond, false, nat_lt, sym, true}
use Rattle.std.specs.BTreeMap.{get}
use Rattle.std.specs.Ordering.{is_eq, nat_cmp}
use Rattle.std.proofs.lemmas.Bool.Decides.{nat_tests}
use Rattle.rtps_coverage.specs.Stretches as stretches
use Rattle.rtps_evidence.specs.Requests as requests
use Rattle.rtps_evidence.proofs.RequestLemmas.{put_none, put_one}
use Rattle.rtps_evidence.proofs.missed_numbers.note_number.Goals as goal

pub returns-in_ok-insert : goal.returns-in_ok-insert
returns-in_ok-insert c = λ n.
    let number = c.args.number in
    let lower = c.if-number-end_at.true in
    let inside : nat_lt number c.end_at.result ≡ true = grind (arith, nat_tests, lower) in
    put_one (get nat_cmp c.args.requests.now n) (get nat_cmp c.insert.new.self n) (requests.new_request c.args.place) number n (stretches.stretches_have c.args.lacking.now) (sym (c.end_at.ensures.reach number) ∙ inside)
    (c.in_ok-insert.ensures.updates.0 n ∙ ap (λ r. cond (is_eq (nat_cmp number n)) (Some r) (get nat_cmp c.args.requests.now n)) c.new_request.ensures)

pub returns-else-number-end_at : goal.returns-else-number-end_at
returns-else-number-end_at c = λ n.
    let number = c.args.number in
    let past = c.if-number-end_at.false in
    let ended : nat_lt number c.end_at.result ≡ false = grind (arith, nat_tests, past) in
    put_none (get nat_cmp c.args.requests.now n) (requests.new_request c.args.place) number n (stretches.stretches_have c.args.lacking.now) (sym (c.end_at.ensures.reach number) ∙ ended)
