-- Lemmas about the definitions of this crate, for the crates above it: what octets without a set, or with one, say of
-- it, whether a number is in a set, and that the octets of a number are read as that number.
use Rattle.std.proofs.Common.{◌≡◌, ◌+◌, ◌-◌, ◌*◌, ◌/◌, ◌%◌, ◌^◌, ◌<◌, ◌≤◌, List, ◌++◌, drop, ℕ, zero, suc, ℤ, pos, negsuc, ◌-ℤ◌, Bool, true, false, Some, None, length, refl, ◌∙◌, ap, sym, arith, append_assoc}
use Rattle.std.specs.Prelude.{int_le, nat_lt, FitsSigned}
use Rattle.std.specs.Int.{cast_signed, cast_unsigned, w64}
use Rattle.byteorder.specs.Endian.{twos_complement}
use Rattle.byteorder.specs.Numbers.{big_number-reads_back, length-bytes_high_first, length-bytes_low_first, little_number-reads_back}
use Rattle.std.specs.Bool.{Decides}
use Rattle.std.specs.Int.RustNames.{unsigned_abs}
use Rattle.std.proofs.Math.Facts.{Fits-of_z}
use Rattle.std.proofs.lemmas.Bool.Decides.{nat_tests}
use Rattle.std.proofs.lemmas.Int.{ints, to_z-of_z}
use Rattle.std.proofs.lemmas.List.{drop_at, length-append}
use Rattle.rtps_ids.specs.NumberSet as number_set
use Rattle.rtps_ids.specs.Octets as octets
use Rattle.rtps_ids.specs.declared.layout.set.TheConstants as set
use Rattle.rtps_ids.specs.declared.order.Order.{Order}
use Rattle.rtps_ids.specs.declared.set_fault.SetFault.{SetFault}

-- the octets hold a count, and the set is bad
pub bad_set_found : (order : Order) (octets : List ℕ) → number_set.set_fault order octets ≡ Some SetFault.BadSet → number_set.is_bad (number_set.spelled_base order octets) (number_set.spelled_count order octets) ≡ true
unfolding number_set.set_fault
bad_set_found order octets fault = grind (arith, nat_tests)

-- the octets hold a count, the set is good, and the octets end before its words do
pub cut_words_found : (order : Order) (octets : List ℕ) → number_set.set_fault order octets ≡ Some SetFault.CutWords → set.WORDS ≤ length octets
    → (number_set.is_bad (number_set.spelled_base order octets) (number_set.spelled_count order octets) ≡ false) × (length octets < number_set.octets_of_count (number_set.spelled_count order octets))
unfolding number_set.set_fault
cut_words_found order octets fault enough = grind (arith, nat_tests)

-- the set is good, and the octets hold it
pub good_set_found : (order : Order) (octets : List ℕ) → number_set.set_fault order octets ≡ None
    → (number_set.is_bad (number_set.spelled_base order octets) (number_set.spelled_count order octets) ≡ false) × (number_set.octets_of_count (number_set.spelled_count order octets) ≤ length octets)
unfolding number_set.set_fault
good_set_found order octets fault = grind (arith, nat_tests)

-- a good set of a base that is not positive has no bit
pub no_bits_at_zero : (base : ℤ) (count : ℕ) → number_set.is_bad base count ≡ false → int_le base (pos 0) ≡ true → count ≡ 0
unfolding number_set.is_bad
no_bits_at_zero (pos zero) zero good low = refl
no_bits_at_zero (pos zero) (suc count) good low = grind (arith, nat_tests)
no_bits_at_zero (pos (suc base)) count good low = grind (arith, nat_tests)
no_bits_at_zero (negsuc base) count good low = grind (arith, nat_tests)

-- a good set has at most 256 bits
pub at_most_256 : (base : ℤ) (count : ℕ) → number_set.is_bad base count ≡ false → count ≤ 256
unfolding number_set.is_bad
at_most_256 base count good = grind (arith, nat_tests)

-- a good set of a base other than 0 has a positive base
pub positive_base : (base : ℤ) (count : ℕ) → number_set.is_bad base count ≡ false → (unsigned_abs base ≡ 0 → ⊥) → int_le base (pos 0) ≡ false
unfolding number_set.is_bad
positive_base (pos zero) count good other = absurd (other refl)
positive_base (pos (suc base)) count good other = grind (arith, nat_tests)
positive_base (negsuc base) count good other = grind (arith, nat_tests)

-- a number is a member where the test says so, and is none where it is shown to be none
to_member : (set : number_set.NumberSetValue) (n : ℕ) → number_set.is_member set n ≡ true → number_set.IsMember set (pos n)
to_member set n e =
    let above : set.base ≤ n = grind (arith, nat_tests) in
    let within : n - set.base < set.count = grind (arith, nat_tests) in
    let is : number_set.bit_of set.words (n - set.base) ≡ 1 = grind (arith, nat_tests) in
    record { bit = n - set.base; in_count = within; number = ap pos (omega arith); is_set = is }

from_member : (set : number_set.NumberSetValue) (n : ℕ) → number_set.IsMember set (pos n) → number_set.is_member set n ≡ true
from_member set n member =
    let at : n ≡ set.base + member.bit = omega (arith, ints, member.number) in
    let same : n - set.base ≡ member.bit = omega arith in
    let within = member.in_count in
    let is : number_set.bit_of set.words (n - set.base) ≡ 1 = ap (number_set.bit_of set.words) same ∙ member.is_set in
    grind (arith, nat_tests)

pub member_decides : (set : number_set.NumberSetValue) (n : ℕ) → Decides (number_set.is_member set n) (number_set.IsMember set (pos n))
member_decides set n = (to_member set n, from_member set n)

pub not_member : (set : number_set.NumberSetValue) (n : ℕ) → (number_set.IsMember set (pos n) → ⊥) → number_set.is_member set n ≡ false
not_member set n never = test (number_set.is_member set n) refl
  where
    test : (b : Bool) → number_set.is_member set n ≡ b → number_set.is_member set n ≡ false
    test true e = absurd (never (to_member set n e))
    test false e = e

-- a number has as many octets as were asked for
pub length-octets_of : (order : Order) (width value : ℕ) → length (octets.octets_of order width value) ≡ width
unfolding octets.octets_of
length-octets_of Order.Big width value = length-bytes_high_first width value
length-octets_of Order.Little width value = length-bytes_low_first 0 width value

pub length-sequence_number_octets : (order : Order) (value : ℤ) → length (octets.sequence_number_octets order value) ≡ 8
unfolding octets.sequence_number_octets
length-sequence_number_octets order value =
    let bits = cast_unsigned w64 value in
    length-append (octets.octets_of order 4 (bits / 2 ^ 32)) _ ∙ omega (arith, length-octets_of order 4 (bits / 2 ^ 32), length-octets_of order 4 (bits % 2 ^ 32))

-- the octets of a number are read as the number, whatever follows
pub number-octets_of : (order : Order) (width value : ℕ) (rest : List ℕ) → value < 256 ^ width → octets.number_of order width (octets.octets_of order width value ++ rest) ≡ value
unfolding octets.octets_of octets.number_of
number-octets_of Order.Big width value rest fits = big_number-reads_back width value rest fits
number-octets_of Order.Little width value rest fits = little_number-reads_back width value rest fits

below : (bits wide : ℕ) → bits < wide → pos bits -ℤ pos wide ≡ negsuc (wide - suc bits)
below bits wide lt = omega (arith, ints)

twos_complement-cast_unsigned : (value : ℤ) → FitsSigned w64 value → twos_complement 8 (cast_unsigned w64 value) ≡ value
twos_complement-cast_unsigned value fits = by (nat_lt (cast_unsigned w64 value) (2 ^ 63)) refl
  where
    back : cast_signed w64 (cast_unsigned w64 value) ≡ value
    back = to_z-of_z w64 value fits

    by : (t : Bool) → nat_lt (cast_unsigned w64 value) (2 ^ 63) ≡ t → twos_complement 8 (cast_unsigned w64 value) ≡ value
    by true e = rw e (rw e at back)
    by false e = rw e (below (cast_unsigned w64 value) (2 ^ 64) (Fits-of_z fits).fits ∙ (rw e at back))

-- and those of a sequence number
pub sequence_number-octets : (order : Order) (value : ℤ) (rest : List ℕ) → FitsSigned w64 value → octets.sequence_number_of order (octets.sequence_number_octets order value ++ rest) ≡ value
unfolding octets.sequence_number_octets octets.sequence_number_of
sequence_number-octets order value rest fits =
    let bits = cast_unsigned w64 value in
    let small : bits < 2 ^ 64 = (Fits-of_z fits).fits in
    let after : octets.octets_of order 4 (bits / 2 ^ 32) ++ (octets.octets_of order 4 (bits % 2 ^ 32) ++ rest) ≡ (octets.octets_of order 4 (bits / 2 ^ 32) ++ octets.octets_of order 4 (bits % 2 ^ 32)) ++ rest = sym (append_assoc (octets.octets_of order 4 (bits / 2 ^ 32)) _ rest) in
    let high : octets.number_of order 4 ((octets.octets_of order 4 (bits / 2 ^ 32) ++ octets.octets_of order 4 (bits % 2 ^ 32)) ++ rest) ≡ bits / 2 ^ 32 =
    ap (octets.number_of order 4) (sym after) ∙ number-octets_of order 4 (bits / 2 ^ 32) _ (omega arith) in
    let low : octets.number_of order 4 (drop 4 ((octets.octets_of order 4 (bits / 2 ^ 32) ++ octets.octets_of order 4 (bits % 2 ^ 32)) ++ rest)) ≡ bits % 2 ^ 32 =
    ap (λ (l : List ℕ). octets.number_of order 4 (drop 4 l)) (sym after) ∙ ap (octets.number_of order 4) (drop_at _ _ 4 (length-octets_of order 4 _)) ∙ number-octets_of order 4 (bits % 2 ^ 32) rest (omega arith) in
    let whole : bits / 2 ^ 32 * 2 ^ 32 + bits % 2 ^ 32 ≡ bits = omega arith in
    ap (λ (n : ℕ). twos_complement 8 (n * 2 ^ 32 + octets.number_of order 4 (drop 4 ((octets.octets_of order 4 (bits / 2 ^ 32) ++ octets.octets_of order 4 (bits % 2 ^ 32)) ++ rest)))) high
    ∙ ap (λ (n : ℕ). twos_complement 8 (bits / 2 ^ 32 * 2 ^ 32 + n)) low
    ∙ ap (twos_complement 8) whole
    ∙ twos_complement-cast_unsigned value fits

-- those, for tactics
pub ruleset octets_read_back = (length-octets_of, length-sequence_number_octets, number-octets_of, sequence_number-octets)
