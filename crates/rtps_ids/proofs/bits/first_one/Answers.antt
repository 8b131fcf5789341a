use Rattle.std.proofs.Common.{ℕ, ◌≡◌, ◌<◌, ◌-◌, ◌*◌, ◌%◌, ◌^◌, sym, subst, arith}
use Rattle.std.specs.Int.Count.{count_leading_zeros}
use Rattle.std.proofs.lemmas.Nat.{one_shl}
use Rattle.rtps_ids.proofs.RangeBits.{IsFirstOne, first_one_at}
use Rattle.rtps_ids.proofs.bits.first_one.Goals as goal

told : (word given from : ℕ) → given ≡ word → word < 2 ^ 32 → from < 32 → IsFirstOne word from (count_leading_zeros 64 (given % (1 * 2 ^ (32 - from) % 2 ^ 64)))
told word given from same fits few =
    let whole : 1 * 2 ^ (32 - from) % 2 ^ 64 ≡ 2 ^ (32 - from) = one_shl (32 - from) 64 (omega arith) in
    subst (λ m. IsFirstOne word from (count_leading_zeros 64 (given % m))) (sym whole)
    (subst (λ g. IsFirstOne word from (count_leading_zeros 64 (g % 2 ^ (32 - from)))) (sym same) (first_one_at word from fits few))

pub overflow_sub-result : goal.overflow_sub-result
overflow_sub-result c = (told c.args.word c.from.result c.args.from c.from.ensures (omega arith) c.requires).big

pub returns-clause-onward : goal.returns-clause-onward
returns-clause-onward c = (told c.args.word c.from.result c.args.from c.from.ensures (omega arith) c.requires).onward

pub returns-clause-found : goal.returns-clause-found
returns-clause-found c = (told c.args.word c.from.result c.args.from c.from.ensures (omega arith) c.requires).found

pub returns-clause-passed : goal.returns-clause-passed
returns-clause-passed c = (told c.args.word c.from.result c.args.from c.from.ensures (omega arith) c.requires).passed
