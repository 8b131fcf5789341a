use Rattle.std.proofs.Common.{◌≡◌, ◌∙◌, ◌==◌, ◌||◌, ℕ, Bool, arith, false, nat_lt, sym, true}
use Rattle.std.proofs.lemmas.Bool.Decides.{nat_tests}
use Rattle.rtps_audit.specs.Placed as placed
use Rattle.rtps_coverage.specs.Stretches as stretches
use Rattle.rtps_evidence.specs.Missed as missed
use Rattle.rtps_evidence.proofs.brought.push_brought.Goals as goal

or_no : (b : Bool) → (b || false) ≡ b
or_no b = grind (arith, nat_tests)

-- a number that is not lacking is not the one at hand, where that is
other : (lacks : ℕ → Bool) (number n : ℕ) (old brings : Bool) → lacks number ≡ false → lacks n ≡ true → brings ≡ (number == n) → old ≡ (old || brings)
other lacks number n old brings out there is = grind (arith, nat_tests)

pub returns-else-number-end_at : goal.returns-else-number-end_at
returns-else-number-end_at c = λ n lacks.
    let listener = c.args.listener.now in
    let number = c.in-Some.number in
    let past = c.if-number-end_at.false in
    let outside : nat_lt number c.end_at.result ≡ false = grind (arith, nat_tests, past) in
    other (stretches.stretches_have c.args.lacking.now) number n (stretches.stretches_have c.args.brought.now.items n) (missed.brings_behind listener.since listener.pair.writer listener.pair.reader n (placed.placed_value c.args.placed.now))
    (sym (c.end_at.ensures.reach number) ∙ outside) lacks (c.in-Some.ensures.brought n)
