-- What the answer of `NumberSet::read` says of a set as a field of a body.
use Rattle.std.proofs.Common.{◌≡◌, ◌≤◌, List, ℕ, false, Some, None, length, drop, arith, ap, ◌∙◌}
use Rattle.std.specs.Prelude.{◌+◌, pos, int_le}
use Rattle.std.specs.Int.RustNames.{unsigned_abs}
use Rattle.std.proofs.lemmas.Bool.Decides.{nat_tests}
use Rattle.std.proofs.lemmas.List.{length-drop}
use Rattle.rtps_ids.specs.NumberSet as number_set
use Rattle.rtps_ids.proofs.Offered.{cut_words_found, good_set_found, no_bits_at_zero, positive_base}
use Rattle.rtps_ids.specs.declared.order.Order.{Order}
use Rattle.rtps_ids.specs.declared.set_fault.SetFault.{SetFault}
use Rattle.rtps_wire.specs.declared.fault.WireFault.{WireFault}
use Rattle.rtps_wire.specs.Gap as gap
use Rattle.rtps_wire.specs.SetField as set_field

pub has_set : (order : Order) (octets : List ℕ) (found : number_set.NumberSetValue × ℕ) → number_set.set_fault order octets ≡ None → found.0 ≡ number_set.spelled_set order octets
    → found.1 ≡ number_set.octets_of_count found.0.count → set_field.HasSet order octets found
has_set order octets found good set used =
    let facts = good_set_found order octets good in
    record { good = facts.0; whole = facts.1; set = set; used = used ∙ ap (λ (s : number_set.NumberSetValue). number_set.octets_of_count s.count) set }

pub lacks_cut : (order : Order) (octets : List ℕ) → 12 ≤ length octets → number_set.set_fault order octets ≡ Some SetFault.CutWords → set_field.LacksSet order octets WireFault.ShortBody
lacks_cut order octets enough fault = let facts = cut_words_found order octets fault enough in grind (arith, nat_tests)

-- the faults of a GAP's list, where the body holds its base and its count
pub list_fault-lacking : (order : Order) (body : List ℕ) (fault : WireFault) → 28 ≤ length body → set_field.LacksSet order (drop 16 body) fault → gap.list_fault order body ≡ Some fault
list_fault-lacking order body fault enough lacks = grind (arith, nat_tests, length-drop, no_bits_at_zero)

-- a set of a positive base is the list of a GAP
pub list_fault-positive : (order : Order) (body : List ℕ) (found : number_set.NumberSetValue × ℕ) → 28 ≤ length body → set_field.HasSet order (drop 16 body) found → (found.0.base ≡ 0 → ⊥)
    → gap.list_fault order body ≡ None
list_fault-positive order body found enough has other =
    let start : found.0.base ≡ unsigned_abs (number_set.spelled_base order (drop 16 body)) = ap (λ (s : number_set.NumberSetValue). s.base) has.set in
    let positive : int_le (number_set.spelled_base order (drop 16 body)) (pos 0) ≡ false = positive_base _ _ has.good (λ zero. other (start ∙ zero)) in
    let good : number_set.is_bad (number_set.spelled_base order (drop 16 body)) (number_set.spelled_count order (drop 16 body)) ≡ false = has.good in
    let whole : number_set.octets_of_count (number_set.spelled_count order (drop 16 body)) ≤ length (drop 16 body) = has.whole in
    let split : length (drop 16 body) + 16 ≡ length body = omega (arith, length-drop 16 body) in
    rw (good, positive) (grind (arith, nat_tests))
