use Rattle.std.proofs.Common.{◌≡◌, ◌≤◌, ◌<◌, ◌-◌, ◌^◌, ◌∙◌, ℕ, ℤ, pos, negsuc, ap, arith, subst}
use Rattle.std.specs.Prelude.{◌↔◌, ◌<ℤ◌, FitsSigned, IsTrue}
use Rattle.std.proofs.lemmas.Int.{ints, of_z-to_z}
use Rattle.std.specs.Int.{cast_unsigned, w64}
use Rattle.rtps_ids.specs.NumberSet as number_set
use Rattle.rtps_ids.proofs.set.NumberSet.contains.Goals as goal

-- a number that has a bit is a member where the bit is set
by_bit : (set : number_set.NumberSetValue) (n : ℤ) (m : ℕ) → n ≡ pos m → set.base ≤ m → m - set.base < set.count → (number_set.bit_of set.words (m - set.base) ≡ 1) ↔ number_set.IsMember set n
by_bit set n m is above within = (to, from)
  where
    to : number_set.bit_of set.words (m - set.base) ≡ 1 → number_set.IsMember set n
    to one = record { bit = m - set.base; in_count = within; number = is ∙ ap pos (omega arith); is_set = one }

    from : number_set.IsMember set n → number_set.bit_of set.words (m - set.base) ≡ 1
    from member =
        let same : m - set.base ≡ member.bit = let number = member.number in omega (arith, ints) in
        ap (number_set.bit_of set.words) same ∙ member.is_set

-- a number whose octets are below 2^63 is what they spell
unsigned_is : (n : ℤ) (m : ℕ) → FitsSigned w64 n → m ≡ cast_unsigned w64 n → m < 2 ^ 63 → n ≡ pos m
unsigned_is (pos k) m fits is low = grind (arith, ints)
unsigned_is (negsuc k) m fits is low = grind (arith, ints)

-- members are positive, and below 2^63
in_range : (set : number_set.NumberSetValue) → number_set.IsKeptSet set → (number : ℤ) → number_set.IsMember set number → (pos 0 <ℤ number) × (number <ℤ pos (2 ^ 63))
in_range set kept number member =
    let is = member.number in
    let inside = member.in_count in
    let positive : 0 < set.base = let start = kept.start in grind arith in
    let end = kept.end positive in
    (omega (arith, ints), omega (arith, ints))

pub returns-clause-member : goal.returns-clause-member
returns-clause-member c =
    let inside : number_set.NumberSetValue = record { base = c.self.inside.base; count = c.self.inside.count; words = c.self.inside.words } in
    let positive : 0 < c.self.inside.base = let start = c.self.invariant.start in grind arith in
    let low : c.cast_unsigned-n.result < 2 ^ 63 = let end = c.self.invariant.end positive in omega arith in
    let is : c.args.n ≡ pos c.cast_unsigned-n.result = unsigned_is c.args.n c.cast_unsigned-n.result c.ranges.n (c.cast_unsigned-n.ensures ∙ of_z-to_z w64 (cast_unsigned w64 c.args.n) (omega (arith, ints))) low in
    let by = by_bit inside c.args.n c.cast_unsigned-n.result is (omega arith) (omega arith) in
    subst (λ s. (IsTrue c.is_set.result → number_set.IsMember s c.args.n) × (number_set.IsMember s c.args.n → IsTrue c.is_set.result)) c.self.view_is
    ((λ t. by.0 (c.is_set.ensures.0 t)), (λ m. c.is_set.ensures.1 (by.1 m)))

pub returns-clause-range : goal.returns-clause-range
returns-clause-range c =
    let inside : number_set.NumberSetValue = record { base = c.self.inside.base; count = c.self.inside.count; words = c.self.inside.words } in
    subst (λ s. (number : ℤ) → number_set.IsMember s number → (pos 0 <ℤ number) × (number <ℤ pos (2 ^ 63))) c.self.view_is (in_range inside c.self.invariant)
