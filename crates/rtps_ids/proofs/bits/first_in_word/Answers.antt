use Rattle.std.proofs.Common.{◌≡◌, ◌-◌, arith, w32}
use Rattle.std.specs.Int.{bit_at}
use Rattle.std.proofs.lemmas.Nat.Bits.{bit_at_not, bit_at-lt}
use Rattle.rtps_ids.proofs.bits.first_in_word.Goals as goal

pub returns-else-wanted-clause-found : goal.returns-else-wanted-clause-found
returns-else-wanted-clause-found c = λ lt.
    let r = c.first_one-else-wanted.result in
    let turned = bit_at_not w32 c.args.word (31 - r) (omega arith) (omega arith) in
    let one = c.first_one-else-wanted.ensures.found lt in
    let e : bit_at c.args.word (31 - r) ≡ 0 = omega (arith, bit_at-lt c.args.word (31 - r)) in
    rw c.if-wanted.false e

pub returns-else-wanted-clause-passed : goal.returns-else-wanted-clause-passed
returns-else-wanted-clause-passed c = λ i from to.
    let within = c.first_one-else-wanted.ensures.within in
    let turned = bit_at_not w32 c.args.word (31 - i) (omega arith) (omega arith) in
    let none = c.first_one-else-wanted.ensures.passed i from to in
    let low = bit_at-lt c.args.word (31 - i) in
    let e : bit_at c.args.word (31 - i) ≡ 1 = omega arith in
    rw c.if-wanted.false e
