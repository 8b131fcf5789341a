-- Each datagram has a reading, and only one.
use Rattle.std.proofs.Common.{◌≡◌, ◌<◌, ◌≤◌, ◌+◌, ℕ, zero, suc, List, [], ◌∷◌, ◌++◌, map, Option, Some, None, Ok, Err, length, drop, arith, refl, ap, ◌∙◌}
use Rattle.std.specs.Prelude.{option_to_list}
use Rattle.rtps_wire.proofs.Readings.{length-next_rest, outcomes-done, outcomes-item, outcomes-refused}
use Rattle.rtps_wire.specs.Header as header
use Rattle.rtps_wire.specs.Message as message
use Rattle.rtps_wire.specs.Reading as reading_spec
use Rattle.rtps_wire.specs.Values as values
use Rattle.rtps_wire.specs.declared.fault.Refusal.{Refusal}
use Rattle.rtps_wire.specs.declared.fault.WireFault.{WireFault}
use Rattle.rtps_wire.specs.declared.header.Header.{Header}

-- what a list of outcomes reads as
abbrev ReadsAs : List ℕ → ℕ → List reading_spec.Outcome → Type 0
ReadsAs rest at results = message.ReadsFrom rest at (reading_spec.items_among results) (reading_spec.refusal_among results)

-- a submessage, and a reading of what is behind it
reads_on : (rest : List ℕ) (at : ℕ) (fault : Option WireFault) → message.fault_at rest ≡ fault → 0 < length rest
    → ReadsAs (message.next_rest rest) (at + 4 + message.body_length rest) (reading_spec.outcomes (message.next_rest rest) (at + 4 + message.body_length rest)) → ReadsAs rest at (reading_spec.outcomes rest at)
reads_on rest at (Some fault) is some behind =
    rw (outcomes-refused rest at fault some is) (some, refl, is)
reads_on rest at None is some behind =
    rw (outcomes-item rest at some is) (some, is, refl, behind)

reads_within : (n : ℕ) (rest : List ℕ) (at : ℕ) → length rest ≤ n → ReadsAs rest at (reading_spec.outcomes rest at)
reads_within n [] at enough = rw (outcomes-done at) refl
reads_within zero (x ∷ xs) at enough = absurd (omega arith)
reads_within (suc n) (x ∷ xs) at enough =
    let shorter : length (message.next_rest (x ∷ xs)) < length (x ∷ xs) = length-next_rest (x ∷ xs) (omega arith) in
    reads_on (x ∷ xs) at (message.fault_at (x ∷ xs)) refl (omega arith) (reads_within n (message.next_rest (x ∷ xs)) (at + 4 + message.body_length (x ∷ xs)) (omega arith))

-- items and an ending are those of the outcomes
pub record AreThose (items : List values.ItemValue) (ending : Option Refusal) (results : List reading_spec.Outcome) : Type 0 where
  pub these : items ≡ reading_spec.items_among results
  pub end : ending ≡ reading_spec.refusal_among results

refusal_is : (refusal : Refusal) (at : ℕ) → refusal.at ≡ at → ◌≡◌ {A = Refusal} refusal (record { at = at; fault = refusal.fault })
refusal_is refusal at place =
    let placed : ℕ → Refusal = λ p. record { at = p; fault = refusal.fault } in
    ap placed place

only_reading : (items : List values.ItemValue) (ending : Option Refusal) (rest : List ℕ) (at : ℕ) → message.ReadsFrom rest at items ending → AreThose items ending (reading_spec.outcomes rest at)
only_reading [] None rest at empty =
    rw (empty, outcomes-done at) (record { these = refl; end = refl })
only_reading [] (Some refusal) rest at (some, place, fault) =
    rw (outcomes-refused rest at refusal.fault some fault) (record { these = refl; end = ap Some (refusal_is refusal at place) })
only_reading (item ∷ items) ending rest at (some, good, is, behind) =
    let more = only_reading items ending (message.next_rest rest) (at + 4 + message.body_length rest) behind in
    rw (outcomes-item rest at some good, is) (record { these = ap (λ xs. message.item_at rest at ∷ xs) more.these; end = more.end })

reading_is : (reading other : message.Reading) → reading.header ≡ other.header → reading.items ≡ other.items → reading.ending ≡ other.ending → reading ≡ other
reading_is reading other p q r =
    let with_header : Option Header → message.Reading = λ h. record { header = h; items = reading.items; ending = reading.ending } in
    let with_items : List values.ItemValue → message.Reading = λ xs. record { header = other.header; items = xs; ending = reading.ending } in
    let with_ending : Option Refusal → message.Reading = λ e. record { header = other.header; items = other.items; ending = e } in
    ap with_header p ∙ (ap with_items q ∙ ap with_ending r)

reads_with : (fault : Option WireFault) (datagram : List ℕ) → message.ReadsWith fault datagram (reading_spec.reading_with fault datagram)
reads_with (Some fault) datagram = (refl, refl, refl)
reads_with None datagram = (refl, reads_within (length (drop 20 datagram)) (drop 20 datagram) 20 (omega arith))

only_with : (fault : Option WireFault) (datagram : List ℕ) (reading : message.Reading) → message.ReadsWith fault datagram reading → reading ≡ reading_spec.reading_with fault datagram
only_with (Some fault) datagram reading (p, q, r) = reading_is reading (reading_spec.reading_with (Some fault) datagram) p q r
only_with None datagram reading (p, behind) =
    let those = only_reading reading.items reading.ending (drop 20 datagram) 20 behind in
    reading_is reading (reading_spec.reading_with None datagram) p those.these those.end

pub has_reading : (datagram : List ℕ) → message.Reads datagram (reading_spec.reading_of datagram)
unfolding reading_spec.reading_of
has_reading datagram = reads_with (header.header_fault datagram) datagram

pub one_reading : (datagram : List ℕ) (reading : message.Reading) → message.Reads datagram reading → reading ≡ reading_spec.reading_of datagram
unfolding reading_spec.reading_of
one_reading datagram reading reads = only_with (header.header_fault datagram) datagram reading reads

-- the outcomes are the items in order, and then the refusal
outcomes_whole-within : (n : ℕ) (rest : List ℕ) (at : ℕ) → length rest ≤ n
    → reading_spec.outcomes rest at ≡ map Ok (reading_spec.items_among (reading_spec.outcomes rest at)) ++ map Err (option_to_list (reading_spec.refusal_among (reading_spec.outcomes rest at)))
outcomes_whole-within n [] at enough = rw (outcomes-done at) refl
outcomes_whole-within zero (x ∷ xs) at enough = absurd (omega arith)
outcomes_whole-within (suc n) (x ∷ xs) at enough =
    let shorter : length (message.next_rest (x ∷ xs)) < length (x ∷ xs) = length-next_rest (x ∷ xs) (omega arith) in
    by_fault (message.fault_at (x ∷ xs)) refl (outcomes_whole-within n (message.next_rest (x ∷ xs)) (at + 4 + message.body_length (x ∷ xs)) (omega arith))
  where
    by_fault : (fault : Option WireFault) → message.fault_at (x ∷ xs) ≡ fault
        → reading_spec.outcomes (message.next_rest (x ∷ xs)) (at + 4 + message.body_length (x ∷ xs))
        ≡ map Ok (reading_spec.items_among (reading_spec.outcomes (message.next_rest (x ∷ xs)) (at + 4 + message.body_length (x ∷ xs)))) ++ map Err (option_to_list (reading_spec.refusal_among (reading_spec.outcomes (message.next_rest (x ∷ xs)) (at + 4 + message.body_length (x ∷ xs)))))
        → reading_spec.outcomes (x ∷ xs) at ≡ map Ok (reading_spec.items_among (reading_spec.outcomes (x ∷ xs) at)) ++ map Err (option_to_list (reading_spec.refusal_among (reading_spec.outcomes (x ∷ xs) at)))
    by_fault (Some fault) is behind = rw (outcomes-refused (x ∷ xs) at fault (omega arith) is) refl
    by_fault None is behind = rw (outcomes-item (x ∷ xs) at (omega arith) is) (ap (λ more. Ok (message.item_at (x ∷ xs) at) ∷ more) behind)

pub outcomes_whole : (rest : List ℕ) (at : ℕ) → reading_spec.outcomes rest at ≡ map Ok (reading_spec.items_among (reading_spec.outcomes rest at)) ++ map Err (option_to_list (reading_spec.refusal_among (reading_spec.outcomes rest at)))
outcomes_whole rest at = outcomes_whole-within (length rest) rest at (omega arith)
