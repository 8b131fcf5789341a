use Rattle.std.proofs.Common.{◌≡◌, ◌<◌, ◌+◌, ◌&&◌, ◌^◌, ℕ, Bool, List, None, pos, true, false, arith, refl, rules, subst, to_z, of_z, w64}
use Rattle.std.specs.Prelude.{int_lt, length, nat_le}
use Rattle.std.proofs.lemmas.Bool.Decides.{nat_tests}
use Rattle.std.proofs.lemmas.Int.{ints}
use Rattle.rtps_ids.specs.NumberSet as number_set
use Rattle.rtps_ids.specs.Octets as octets
use Rattle.rtps_ids.specs.declared.order.Order.{Order}
use Rattle.rtps_wire.specs.NackFrag as nack_frag
use Rattle.rtps_wire.proofs.FragmentFields.{read_there}
use Rattle.rtps_wire.proofs.read.nack_frag.nack_frag.Goals as goal

too_many : (base bits : ℕ) → 0 < base → base < 2 ^ 32 → number_set.is_bad (pos base) bits ≡ true → nat_le bits 256 ≡ false
unfolding number_set.is_bad
too_many base bits low high bad = grind (arith, nat_tests)

last_fails : (a b c d : Bool) → d ≡ false → (a && b && c && d) ≡ false
last_fails a b c d is = grind (arith, nat_tests)

none_in : (order : Order) (body : List ℕ) → nat_le (nack_frag.fragment_bits order body) 256 ≡ false → None ≡ nack_frag.nack_frag_in order body
none_in order body many =
    let bad : nack_frag.is_nack_frag order body ≡ false =
    last_fails (nat_le (nack_frag.place_of_count order body + 4) (length body)) (int_lt (pos 0) (nack_frag.asked_number order body)) (nat_le 1 (nack_frag.fragment_base order body)) (nat_le (nack_frag.fragment_bits order body) 256) many in
    rw bad refl

pub returns-in_default : goal.returns-in_default
returns-in_default c =
    let order = c.args.order in
    let body = c.args.body.now in
    let base = read_there (octets.number_of order 4) 4 16 body _ c.in_ok-base.ensures in
    let bits = read_there (octets.number_of order 4) 4 20 body _ c.in_ok-bits.ensures in
    let fits : c.in_ok-base.base < 2 ^ 32 = search rules in
    let some : 0 < c.in_ok-base.base = omega (arith, c.if-base-eq0.false) in
    let value : to_z w64 (of_z w64 c.from.result) ≡ pos c.in_ok-base.base = omega (arith, ints, c.from.ensures, fits) in
    let bad : number_set.is_bad (pos c.in_ok-base.base) c.in_ok-bits.bits ≡ true = subst (λ z. number_set.is_bad z c.in_ok-bits.bits ≡ true) value c.in_default.ensures.exists in
    let many : nat_le c.in_ok-bits.bits 256 ≡ false = too_many c.in_ok-base.base c.in_ok-bits.bits some fits bad in
    none_in order body (rw (← bits.0) many)
