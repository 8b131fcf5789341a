-- Each number has one outcome, and what is never told to a reader is never held.
use Rattle.std.proofs.Common.{◌≡◌, ℕ, suc, ◌+◌, ◌-◌, cond, filter, length, List, [], ◌∷◌, Option, refl, ap, arith}
use Rattle.std.specs.Prelude.{is_some}
use Rattle.std.specs.List.{range_with_len}
use Rattle.std.proofs.lemmas.List.FromFn.{length-range_with_len}
use Rattle.rtps_audit.specs.Delivery as delivery
use Rattle.rtps_audit.specs.Placed as placed
use Rattle.rtps_audit.specs.Speech as speech
use Rattle.rtps_audit.proofs.Offered.{given_is_word, held_is_spoken}
use Rattle.rtps_evidence.specs.Locations as locations
use Rattle.rtps_evidence.specs.Outcomes as outcomes_spec
use Rattle.rtps_evidence.specs.declared.outcome.Outcome.{Outcome}
use Rattle.rtps_evidence.proofs.PlacedOrder.{none_passes}

-- how many of these have an outcome
abbrev pub kept : Outcome → (ℕ → Outcome) → List ℕ → ℕ
kept outcome outcomes ns = length (filter (λ n. outcomes_spec.is_outcome outcome (outcomes n)) ns)

-- with one number more, of this outcome
abbrev pub more : (ℕ → Outcome) → ℕ → List ℕ → Outcome → Outcome → List ℕ
more outcomes n ns outcome found = cond (outcomes_spec.is_outcome outcome found) (n ∷ filter (λ m. outcomes_spec.is_outcome outcome (outcomes m)) ns) (filter (λ m. outcomes_spec.is_outcome outcome (outcomes m)) ns)

each_has_one : (outcomes : ℕ → Outcome) (ns : List ℕ)
    → kept Outcome.Received outcomes ns + kept Outcome.Arrived outcomes ns + kept Outcome.Missed outcomes ns + kept Outcome.Unsent outcomes ns + kept Outcome.Unanswered outcomes ns + kept Outcome.Likely outcomes ns + kept Outcome.Unconfirmed outcomes ns ≡ length ns
each_has_one outcomes [] = refl
each_has_one outcomes (n ∷ ns) = by (outcomes n) (each_has_one outcomes ns)
  where
    by : (found : Outcome) → kept Outcome.Received outcomes ns + kept Outcome.Arrived outcomes ns + kept Outcome.Missed outcomes ns + kept Outcome.Unsent outcomes ns + kept Outcome.Unanswered outcomes ns + kept Outcome.Likely outcomes ns + kept Outcome.Unconfirmed outcomes ns ≡ length ns
        → length (more outcomes n ns Outcome.Received found) + length (more outcomes n ns Outcome.Arrived found) + length (more outcomes n ns Outcome.Missed found) + length (more outcomes n ns Outcome.Unsent found) + length (more outcomes n ns Outcome.Unanswered found) + length (more outcomes n ns Outcome.Likely found) + length (more outcomes n ns Outcome.Unconfirmed found) ≡ suc (length ns)
    by Outcome.Received h = omega (arith, h)
    by Outcome.Arrived h = omega (arith, h)
    by Outcome.Missed h = omega (arith, h)
    by Outcome.Unsent h = omega (arith, h)
    by Outcome.Unanswered h = omega (arith, h)
    by Outcome.Likely h = omega (arith, h)
    by Outcome.Unconfirmed h = omega (arith, h)

pub outcomes_add_up : outcomes_spec.OutcomesAddUp
outcomes_add_up = λ there from last times since pair acts outcomes are.
    let all = each_has_one (outcomes_spec.outcome_of there times since pair acts) (range_with_len from (last + 1 - from)) in
    let size = length-range_with_len from (last + 1 - from) in
    omega (arith, all, size, are.received, are.arrived, are.missed, are.unsent, are.unanswered, are.likely, are.unconfirmed)

pub unsent_is_not_held : outcomes_spec.UnsentIsNotHeld
unsent_is_not_held = λ from pair recording n unsent end ends held.
    let speech = speech.speech_by pair.writer pair.reader recording in
    let spoken = held_is_spoken from speech end n (delivery.Word.Told held.0) ends held.1 in
    let said = given_is_word from pair.writer pair.reader recording spoken.place spoken.act n (delivery.Word.Told held.0) spoken.gives in
    none_passes (locations.sends pair.writer pair.reader n) (placed.placed_in recording) said.0 unsent said.1 (ap (λ (word : Option delivery.Word). is_some (locations.payload_in word)) said.2)
