-- The outcomes of reading, one step at a time.
use Rattle.std.proofs.Common.{◌≡◌, ◌<◌, ◌≤◌, ◌+◌, ℕ, zero, suc, List, [], ◌∷◌, false, Option, Some, None, Ok, Err, length, drop, arith, refl, ap, sym, ◌∙◌}
use Rattle.std.specs.Prelude.{nat_lt}
use Rattle.std.proofs.lemmas.Bool.Decides.{nat_tests}
use Rattle.std.proofs.lemmas.List.{length-drop}
use Rattle.rtps_wire.specs.Message as message
use Rattle.rtps_wire.specs.Values as values
use Rattle.rtps_wire.specs.Reading as reading
use Rattle.rtps_wire.specs.Header as header
use Rattle.rtps_wire.specs.declared.fault.WireFault.{WireFault}

-- what is behind a submessage is shorter
pub length-next_rest : (rest : List ℕ) → 0 < length rest → length (message.next_rest rest) < length rest
length-next_rest rest some = omega (arith, length-drop (4 + message.body_length rest) rest)

-- more of what is read behind two alike is alike
outcomes_with-same : (f g : List ℕ → ℕ → List reading.Outcome) (fault : Option WireFault) (rest : List ℕ) (at : ℕ)
    → ((at' : ℕ) → f (message.next_rest rest) at' ≡ g (message.next_rest rest) at') → reading.outcomes_with f fault rest at ≡ reading.outcomes_with g fault rest at
outcomes_with-same f g (Some fault) rest at same = refl
outcomes_with-same f g None rest at same = ap (λ more. Ok (message.item_at rest at) ∷ more) (same (at + 4 + message.body_length rest))

outcomes_within-done : (n at : ℕ) → reading.outcomes_within n [] at ≡ []
unfolding reading.outcomes_within
outcomes_within-done zero at = refl
outcomes_within-done (suc n) at = refl

-- as many steps as there are octets are enough
outcomes_within-enough : (m n : ℕ) (rest : List ℕ) (at : ℕ) → length rest ≤ m → length rest ≤ n → reading.outcomes_within m rest at ≡ reading.outcomes_within n rest at
unfolding reading.outcomes_within
outcomes_within-enough m n [] at p q = outcomes_within-done m at ∙ sym (outcomes_within-done n at)
outcomes_within-enough zero n (x ∷ xs) at p q = absurd (omega arith)
outcomes_within-enough (suc m) zero (x ∷ xs) at p q = absurd (omega arith)
outcomes_within-enough (suc m) (suc n) (x ∷ xs) at p q =
    outcomes_with-same (reading.outcomes_within m) (reading.outcomes_within n) (message.fault_at (x ∷ xs)) (x ∷ xs) at (λ at'.
    let shorter : length (message.next_rest (x ∷ xs)) < length (x ∷ xs) = length-next_rest (x ∷ xs) (omega arith) in
    outcomes_within-enough m n (message.next_rest (x ∷ xs)) at' (omega arith) (omega arith))

pub outcomes-done : (at : ℕ) → reading.outcomes [] at ≡ []
unfolding reading.outcomes reading.outcomes_within
outcomes-done at = refl

-- one step of what is left
pub outcomes-step : (rest : List ℕ) (at : ℕ) → 0 < length rest → reading.outcomes rest at ≡ reading.outcomes_with reading.outcomes (message.fault_at rest) rest at
unfolding reading.outcomes reading.outcomes_within
outcomes-step [] at some = absurd (omega arith)
outcomes-step (x ∷ xs) at some =
    outcomes_with-same (reading.outcomes_within (length xs)) reading.outcomes (message.fault_at (x ∷ xs)) (x ∷ xs) at (λ at'.
    let shorter : length (message.next_rest (x ∷ xs)) < length (x ∷ xs) = length-next_rest (x ∷ xs) some in
    outcomes_within-enough (length xs) (length (message.next_rest (x ∷ xs))) (message.next_rest (x ∷ xs)) at' (omega arith) (omega arith))

pub outcomes-item : (rest : List ℕ) (at : ℕ) → 0 < length rest → message.fault_at rest ≡ None
    → reading.outcomes rest at ≡ Ok (message.item_at rest at) ∷ reading.outcomes (message.next_rest rest) (at + 4 + message.body_length rest)
outcomes-item rest at some good = outcomes-step rest at some ∙ ap (λ fault. reading.outcomes_with reading.outcomes fault rest at) good

pub outcomes-refused : (rest : List ℕ) (at : ℕ) (fault : WireFault) → 0 < length rest → message.fault_at rest ≡ Some fault
    → reading.outcomes rest at ≡ Err (record { at = at; fault = fault }) ∷ []
outcomes-refused rest at fault some bad = outcomes-step rest at some ∙ ap (λ fault. reading.outcomes_with reading.outcomes fault rest at) bad

-- a submessage that is neither cut nor overruns has the fault of its body
pub fault_at-body : (rest : List ℕ) → 4 ≤ length rest → message.octets_to_next_header rest ≤ length (drop 4 rest)
    → message.fault_at rest ≡ message.body_fault (message.id_of rest) (message.flags_of rest) (message.body_octets rest)
unfolding message.fault_at
fault_at-body rest whole within =
    let not_cut : nat_lt (length rest) 4 ≡ false = grind (arith, nat_tests) in
    let not_over : nat_lt (length (drop 4 rest)) (message.octets_to_next_header rest) ≡ false = grind (arith, nat_tests) in
    rw (not_cut, not_over) refl

pub outcomes-empty : (rest : List ℕ) (at : ℕ) → length rest ≡ 0 → reading.outcomes rest at ≡ []
outcomes-empty [] at none = outcomes-done at
outcomes-empty (x ∷ xs) at none = absurd (omega arith)

-- the item is taken, and what is left begins behind it
pub outcomes-taken : (rest rest' : List ℕ) (at at' size : ℕ) (item : values.ItemValue) → 0 < length rest → message.fault_at rest ≡ None → item ≡ message.item_at rest at
    → size ≡ 4 + message.body_length rest → rest' ≡ drop size rest → at' ≡ at + size → reading.outcomes rest at ≡ Ok item ∷ reading.outcomes rest' at'
outcomes-taken rest rest' at at' size item some good item_is size_is rest_is at_is =
    let next : rest' ≡ message.next_rest rest = rest_is ∙ ap (λ n. drop n rest) size_is in
    let place : at' ≡ at + 4 + message.body_length rest = omega arith in
    rw (item_is, next, place) (outcomes-item rest at some good)

-- each outcome takes an octet at least
length-outcomes_within : (n : ℕ) (rest : List ℕ) (at : ℕ) → length rest ≤ n → length (reading.outcomes rest at) ≤ length rest
length-outcomes_within n [] at enough = rw (outcomes-done at) (omega arith)
length-outcomes_within zero (x ∷ xs) at enough = absurd (omega arith)
length-outcomes_within (suc n) (x ∷ xs) at enough =
    let shorter : length (message.next_rest (x ∷ xs)) < length (x ∷ xs) = length-next_rest (x ∷ xs) (omega arith) in
    rw (outcomes-step (x ∷ xs) at (omega arith)) (one_more (message.fault_at (x ∷ xs)) (x ∷ xs) at shorter (λ at'. length-outcomes_within n (message.next_rest (x ∷ xs)) at' (omega arith)))
  where
    one_more : (fault : Option WireFault) (rest : List ℕ) (at : ℕ) → length (message.next_rest rest) < length rest
        → ((at' : ℕ) → length (reading.outcomes (message.next_rest rest) at') ≤ length (message.next_rest rest)) → length (reading.outcomes_with reading.outcomes fault rest at) ≤ length rest
    one_more (Some fault) rest at shorter behind = omega arith
    one_more None rest at shorter behind = omega (arith, behind (at + 4 + message.body_length rest))

pub length-outcomes : (rest : List ℕ) (at : ℕ) → length (reading.outcomes rest at) ≤ length rest
length-outcomes rest at = length-outcomes_within (length rest) rest at (omega arith)

-- the reading of a datagram whose header is refused, and of another
pub reading_refused : (datagram : List ℕ) (fault : WireFault) → header.header_fault datagram ≡ Some fault → reading.reading_of datagram ≡ reading.refused_with fault
unfolding reading.reading_of
reading_refused datagram fault is = ap (λ fault. reading.reading_with fault datagram) is

pub reading_opened : (datagram : List ℕ) → header.header_fault datagram ≡ None → reading.reading_of datagram ≡ reading.read_as (header.header_of datagram) (reading.outcomes (drop 20 datagram) 20)
unfolding reading.reading_of
reading_opened datagram is = ap (λ fault. reading.reading_with fault datagram) is
