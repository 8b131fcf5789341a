-- Another recording changes nothing of a pair that is not held against it.
use Rattle.std.proofs.lemmas.Bool.Decides.{nat_tests}
use Rattle.std.proofs.Common.{◌≡◌, ◌∙◌, ℕ, ◌+◌, Bool, false, List, Option, None, refl, ap, arith}
use Rattle.rtps_discovery.specs.declared.matching.Pair.{Pair}
use Rattle.rtps_receiver.specs.Values as values
use Rattle.rtps_audit.specs.Delivery as delivery
use Rattle.rtps_audit.specs.Placed as placed
use Rattle.rtps_audit.specs.Speech as speech
use Rattle.rtps_evidence.specs.Evidence as evidence
use Rattle.rtps_evidence.specs.FirstNumbers as first_numbers
use Rattle.rtps_evidence.specs.OtherSide as other_side
use Rattle.rtps_evidence.specs.Outcomes as outcomes_spec
use Rattle.rtps_evidence.specs.Spans as spans
use Rattle.rtps_evidence.specs.declared.location.Location.{Location}
use Rattle.rtps_evidence.specs.declared.outcome.Outcome.{Outcome}
use Rattle.rtps_evidence.specs.declared.outcome.Outcomes.{Outcomes}
use Rattle.rtps_coverage.proofs.Offered.{count_same}
use Rattle.rtps_evidence.proofs.OutcomeCounts.{arrived_is_all_that_changes}

nowhere_there : (all : List (List values.ActValue)) (other : Option other_side.OtherRecording) (pair : Pair) (n : ℕ) → other_side.is_held all other pair ≡ false → other_side.is_there all other pair n ≡ false
nowhere_there all other pair n h = grind (arith, nat_tests)

-- the outcomes by two sets of numbers that are the same
outcomes_same : (there other : ℕ → Bool) (from last : ℕ) (times : List (Option ℕ)) (since : Option Location) (pair : Pair) (acts : List placed.PlacedValue) (outcomes : Outcomes) → ((n : ℕ) → there n ≡ other n)
    → outcomes_spec.AreOutcomes there from last times since pair acts outcomes → outcomes_spec.AreOutcomes other from last times since pair acts outcomes
unfolding outcomes_spec.outcome_of
outcomes_same there other from last times since pair acts outcomes same are = record {
  received = are.received ∙ alike Outcome.Received;
  arrived = are.arrived ∙ alike Outcome.Arrived;
  missed = are.missed ∙ alike Outcome.Missed;
  unsent = are.unsent ∙ alike Outcome.Unsent;
  unanswered = are.unanswered ∙ alike Outcome.Unanswered;
  likely = are.likely ∙ alike Outcome.Likely;
  unconfirmed = are.unconfirmed ∙ alike Outcome.Unconfirmed;
}
  where
    found : (n : ℕ) → outcomes_spec.outcome_of there times since pair acts n ≡ outcomes_spec.outcome_of other times since pair acts n
    found n = ap (λ b. outcomes_spec.outcome_of (λ m. b) times since pair acts n) (same n)

    alike : (kind : Outcome) → outcomes_spec.count_of kind (outcomes_spec.outcome_of there times since pair acts) from (last + 1) ≡ outcomes_spec.count_of kind (outcomes_spec.outcome_of other times since pair acts) from (last + 1)
    alike kind = count_same (λ n. outcomes_spec.is_outcome kind (outcomes_spec.outcome_of there times since pair acts n)) (λ n. outcomes_spec.is_outcome kind (outcomes_spec.outcome_of other times since pair acts n)) from (last + 1) (λ n low high. ap (outcomes_spec.is_outcome kind) (found n))

pub not_held_is_alone : evidence.NotHeldIsAlone
not_held_is_alone = λ own beside pair whole recording in_span alone is.
    let last = delivery.last_announced_from own.from (speech.speech_by pair.writer pair.reader recording) in
    let all = placed.placed_in recording in
    let there = other_side.is_there whole beside.other pair in
    let none = λ (n : ℕ). nowhere_there whole beside.other pair n alone in
    let absent = is.absent ∙ ap (λ b. outcomes_spec.absent_of b there own.from last pair all) alone in
    let lacking = is.lacking ∙ ap (λ b. first_numbers.kept (outcomes_spec.lacking_of b there own.from last pair all)) alone in
    record {
      without = record {
        joined = is.joined;
        here = is.here;
        first = is.first;
        wrote = is.wrote;
        until = is.until;
        outcomes = outcomes_same there (other_side.is_there whole None pair) own.from last beside.times (spans.since_of own) pair all in_span.outcomes none is.outcomes;
        base = is.base;
        way = refl;
        held = is.held ∙ alone;
        absent = absent;
        lacking = lacking;
        wait = is.wait;
        waiting = is.waiting;
      };
      arrived = arrived_is_all_that_changes.1 there own.from last beside.times (spans.since_of own) pair all in_span.outcomes none is.outcomes;
      absent = absent;
      lacking = lacking;
    }
