-- Whether what is read next is skipped.
use Rattle.std.proofs.Common.{◌≡◌, ◌<◌, ◌≤◌, ◌+◌, ℕ, List, [], ◌∷◌, true, false, Option, Some, None, length, drop, arith, refl, ap, sym, ◌∙◌}
use Rattle.std.specs.Prelude.{nat_lt}
use Rattle.std.proofs.lemmas.Bool.Decides.{nat_tests}
use Rattle.std.proofs.lemmas.List.{length-drop}
use Rattle.rtps_wire.specs.Message as message
use Rattle.rtps_wire.specs.Reading as reading
use Rattle.rtps_wire.specs.Skipped as skipped
use Rattle.rtps_wire.specs.declared.fault.WireFault.{WireFault}
use Rattle.rtps_wire.proofs.Readings.{fault_at-body, outcomes-done, outcomes-step, outcomes-taken}

-- what is read is not skipped
kept : (id flags : ℕ) (body : List ℕ) → skipped.is_read id ≡ true → skipped.skipped_id (message.body_of id flags body) ≡ None
kept id flags body read = grind arith

-- what is not read is skipped
left_out : (id flags : ℕ) (body : List ℕ) → skipped.is_read id ≡ false → skipped.skipped_id (message.body_of id flags body) ≡ Some id
left_out id flags body other = grind arith

pub without_fault : (id flags : ℕ) (body : List ℕ) → skipped.is_read id ≡ false → message.body_fault id flags body ≡ None
without_fault id flags body other = grind arith

-- the item, if there is one, by the id
id_at : (rest : List ℕ) (at : ℕ) → skipped.skipped_id (message.item_at rest at).body ≡ skipped.skipped_id (message.body_of (message.id_of rest) (message.flags_of rest) (message.body_octets rest))
unfolding message.item_at
id_at rest at = refl

none_refused : (rest : List ℕ) (at : ℕ) (fault : WireFault) → 0 < length rest → message.fault_at rest ≡ Some fault → skipped.skipped_next (reading.outcomes rest at) ≡ None
none_refused rest at fault some is = ap skipped.skipped_next (outcomes-step rest at some ∙ ap (λ f. reading.outcomes_with reading.outcomes f rest at) is)

pub none_cut : (rest : List ℕ) (at : ℕ) → length rest < 4 → skipped.skipped_next (reading.outcomes rest at) ≡ None
unfolding message.fault_at
none_cut [] at short = ap skipped.skipped_next (outcomes-done at)
none_cut (x ∷ xs) at short =
    let cut : nat_lt (length (x ∷ xs)) 4 ≡ true = grind (arith, nat_tests) in
    none_refused (x ∷ xs) at WireFault.CutHeader (omega arith) (rw cut refl)

pub none_overrun : (rest : List ℕ) (at : ℕ) → 4 ≤ length rest → length rest < 4 + message.octets_to_next_header rest → skipped.skipped_next (reading.outcomes rest at) ≡ None
unfolding message.fault_at
none_overrun rest at whole beyond =
    let not_cut : nat_lt (length rest) 4 ≡ false = grind (arith, nat_tests) in
    let fewer : length (drop 4 rest) < message.octets_to_next_header rest = omega (arith, length-drop 4 rest) in
    let over : nat_lt (length (drop 4 rest)) (message.octets_to_next_header rest) ≡ true = grind (arith, nat_tests) in
    none_refused rest at WireFault.Overrun (omega arith) (rw (not_cut, over) refl)

pub none_skipped : (rest : List ℕ) (at : ℕ) → 0 < length rest → skipped.is_read (message.id_of rest) ≡ true → skipped.skipped_next (reading.outcomes rest at) ≡ None
none_skipped rest at some read =
    ap skipped.skipped_next (outcomes-step rest at some) ∙ either (message.fault_at rest)
  where
    either : (fault : Option WireFault) → skipped.skipped_next (reading.outcomes_with reading.outcomes fault rest at) ≡ None
    either (Some fault) = refl
    either None = id_at rest at ∙ kept (message.id_of rest) (message.flags_of rest) (message.body_octets rest) read

pub one_skipped : (rest rest' : List ℕ) (at at' left size : ℕ) → 4 ≤ length rest → skipped.is_read (message.id_of rest) ≡ false → left + 4 ≡ length rest
    → message.octets_to_next_header rest ≤ left → size ≡ message.extent_of (message.id_of rest) (message.octets_to_next_header rest) left → rest' ≡ drop (4 + size) rest → at' ≡ at + (4 + size)
    → (skipped.skipped_next (reading.outcomes rest at) ≡ Some (message.id_of rest)) × (reading.outcomes rest' at' ≡ drop 1 (reading.outcomes rest at))
one_skipped rest rest' at at' left size whole other left_is within size_is rest_is at_is =
    let behind : left ≡ length (drop 4 rest) = omega (arith, length-drop 4 rest) in
    let good = fault_at-body rest whole (rw (← behind) within) ∙ without_fault (message.id_of rest) (message.flags_of rest) (message.body_octets rest) other in
    let body : size ≡ message.body_length rest = rw (← behind) size_is in
    let taken = outcomes-taken rest rest' at at' (4 + size) (message.item_at rest at) (omega arith) good refl (ap (λ n. 4 + n) body) rest_is at_is in
    (ap skipped.skipped_next taken ∙ (id_at rest at ∙ left_out (message.id_of rest) (message.flags_of rest) (message.body_octets rest) other), sym (ap (drop 1) taken))
