-- Whether what is read next has no DATA and says nothing of the receiver's state.
use Rattle.std.proofs.Common.{◌≡◌, ◌<◌, ◌≤◌, ◌+◌, ℕ, List, [], ◌∷◌, true, false, Option, Some, None, length, drop, arith, refl, ap, sym, ◌∙◌}
use Rattle.std.specs.Prelude.{nat_lt}
use Rattle.std.proofs.lemmas.Bool.Decides.{nat_tests}
use Rattle.rtps_wire.specs.Dataless as dataless
use Rattle.rtps_wire.specs.Message as message
use Rattle.rtps_wire.specs.Reading as reading
use Rattle.rtps_wire.specs.Values as values
use Rattle.rtps_wire.specs.declared.fault.WireFault.{WireFault}
use Rattle.rtps_wire.proofs.Readings.{outcomes-done, outcomes-step, outcomes-taken}

-- a body that is not wanted to be passed over, with a fault or without
pub stays : (fault : Option WireFault) (body : values.BodyValue) → dataless.is_dataless body ≡ false → dataless.is_dataless_with fault body ≡ false
stays None body not = not
stays (Some fault) body not = refl

-- a submessage that is cut, and one that overruns
pub not_cut : (rest : List ℕ) → length rest < 4 → dataless.is_dataless_at rest ≡ false
unfolding message.fault_at
not_cut rest short =
    let cut : nat_lt (length rest) 4 ≡ true = grind (arith, nat_tests) in
    rw cut refl

pub not_overrun : (rest : List ℕ) → 4 ≤ length rest → length (drop 4 rest) < message.octets_to_next_header rest → dataless.is_dataless_at rest ≡ false
unfolding message.fault_at
not_overrun rest whole beyond =
    let not_cut : nat_lt (length rest) 4 ≡ false = grind (arith, nat_tests) in
    let over : nat_lt (length (drop 4 rest)) (message.octets_to_next_header rest) ≡ true = grind (arith, nat_tests) in
    rw (not_cut, over) refl

-- the fault and the body of the submessage that is taken apart
pub at_parts : (rest octets : List ℕ) (fault : Option WireFault) → message.fault_at rest ≡ fault → octets ≡ message.body_octets rest
    → dataless.is_dataless_at rest ≡ dataless.is_dataless_with fault (message.body_of (message.id_of rest) (message.flags_of rest) octets)
at_parts rest octets fault fault_is octets_is =
    ap (λ f. dataless.is_dataless_with f (message.body_of (message.id_of rest) (message.flags_of rest) (message.body_octets rest))) fault_is
    ∙ ap (λ o. dataless.is_dataless_with fault (message.body_of (message.id_of rest) (message.flags_of rest) o)) (sym octets_is)

body_at : (rest : List ℕ) (at : ℕ) → dataless.is_dataless (message.item_at rest at).body ≡ dataless.is_dataless (message.body_of (message.id_of rest) (message.flags_of rest) (message.body_octets rest))
unfolding message.item_at
body_at rest at = refl

-- what is read next is told by the submessage at the front
next_at : (rest : List ℕ) (at : ℕ) → 0 < length rest → dataless.dataless_next (reading.outcomes rest at) ≡ dataless.is_dataless_at rest
next_at rest at some = ap dataless.dataless_next (outcomes-step rest at some) ∙ either (message.fault_at rest)
  where
    either : (fault : Option WireFault) → dataless.dataless_next (reading.outcomes_with reading.outcomes fault rest at)
        ≡ dataless.is_dataless_with fault (message.body_of (message.id_of rest) (message.flags_of rest) (message.body_octets rest))
    either (Some fault) = refl
    either None = body_at rest at

pub none_taken : (rest : List ℕ) (at : ℕ) → dataless.is_dataless_at rest ≡ false → dataless.dataless_next (reading.outcomes rest at) ≡ false
none_taken [] at not = ap dataless.dataless_next (outcomes-done at)
none_taken (x ∷ xs) at not = next_at (x ∷ xs) at (omega arith) ∙ not

faultless : (fault : Option WireFault) (body : values.BodyValue) → dataless.is_dataless_with fault body ≡ true → fault ≡ None
faultless None body is = refl
faultless (Some fault) body is = cc

pub one_taken : (rest rest' : List ℕ) (at at' size : ℕ) → dataless.is_dataless_at rest ≡ true → size ≡ 4 + message.body_length rest → size ≤ length rest
    → rest' ≡ drop size rest → at' ≡ at + size
    → (dataless.dataless_next (reading.outcomes rest at) ≡ true) × (reading.outcomes rest' at' ≡ drop 1 (reading.outcomes rest at))
one_taken rest rest' at at' size is size_is within rest_is at_is =
    let some : 0 < length rest = omega arith in
    let good = faultless (message.fault_at rest) _ is in
    let taken = outcomes-taken rest rest' at at' size (message.item_at rest at) some good refl size_is rest_is at_is in
    (next_at rest at some ∙ is, sym (ap (drop 1) taken))
