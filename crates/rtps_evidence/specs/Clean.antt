-- When a row is clean. own: a test job asks whether all that was owed came; what a reader that is gone, or a recording that ended, did
-- not acknowledge is no loss. A pair may be held against a recording that was made at the reader's host: what arrived there came,
-- whatever the reader says of it, and what only looks received did not.
use Rattle.std.specs.Prelude.{ℕ, Bool, true, false, ◌+◌, ◌-◌, ◌≡◌, ◌≤◌, ◌<◌, ◌⊎◌, ◌↔◌, ◌==◌, ◌&&◌, ◌||◌, nat_le, nat_lt, not, List, Option}
use Rattle.rtps_discovery.specs.declared.matching.Pair.{Pair}
use Rattle.rtps_audit.specs.Placed as placed
use Rattle.rtps_audit.specs.declared.verdict.Verdict.{Verdict}
use Rattle.rtps_coverage.specs.Counts as counts
use Rattle.rtps_evidence.specs.Locations as locations
use Rattle.rtps_evidence.specs.Outcomes as outcomes_spec
use Rattle.rtps_evidence.specs.declared.location.Location.{Location}
use Rattle.rtps_evidence.specs.declared.outcome.Outcome.{Outcome}
use Rattle.rtps_evidence.specs.declared.outcome.Outcomes.{Outcomes}

-- no number is lost, or looks so
abbrev pub has_all : Outcomes → Bool
has_all outcomes = (outcomes.missed == 0) && ((outcomes.unsent == 0) && (outcomes.unanswered == 0))

-- the same of a row, whose pair may be held: a likely number is then lost too, since it did not arrive
abbrev pub loses_none : Bool → Outcomes → Bool
loses_none held outcomes = has_all outcomes && (not held || (outcomes.likely == 0))

-- each number that is asked about is acknowledged
abbrev pub is_complete : Verdict → Bool
is_complete (Verdict.Complete last) = true
is_complete (Verdict.Open number) = false
is_complete (Verdict.Conflict number) = false
is_complete (Verdict.Unfounded datagram number) = false

-- some number is not
abbrev pub is_open : Verdict → Bool
is_open (Verdict.Open number) = true
is_open (Verdict.Complete last) = false
is_open (Verdict.Conflict number) = false
is_open (Verdict.Unfounded datagram number) = false

-- the reader acknowledged something, and all that stands before the row
abbrev pub is_begun : ℕ → ℕ → Bool
is_begun from base = nat_lt 1 base && nat_le from base

-- what is lacking is a tail alone: the row is open and begun, and nothing is lost or looks so
abbrev pub is_tail : Bool → Verdict → Outcomes → ℕ → ℕ → Bool
is_tail held verdict outcomes from base = is_open verdict && (is_begun from base && loses_none held outcomes)

-- nothing is lacking, though the row is open: its pair is held, and each number is received or arrived
abbrev pub is_whole : Bool → Verdict → Outcomes → Bool
is_whole held verdict outcomes = held && (is_open verdict && (loses_none held outcomes && (outcomes.unconfirmed == 0)))

-- A row is clean where nothing is lost or looks so, and it is complete, or nothing is lacking, or a tail alone: of a reader that
-- left, or of so many numbers at most.
abbrev pub is_clean : ℕ → Bool → Bool → Verdict → Outcomes → ℕ → ℕ → Bool
is_clean tail left held verdict outcomes from base =
    (is_complete verdict && loses_none held outcomes)
    || (is_whole held verdict outcomes || (is_tail held verdict outcomes from base && (left || nat_le outcomes.unconfirmed tail)))

-- what a number of a tail is below the greatest base: received, or arrived where the pair is held, else likely
abbrev pub IsBelowBase : Bool → Outcome → Type 0
IsBelowBase true outcome = (outcome ≡ Outcome.Received) ⊎ (outcome ≡ Outcome.Arrived)
IsBelowBase false outcome = (outcome ≡ Outcome.Received) ⊎ (outcome ≡ Outcome.Likely)

-- what it is from there on: unconfirmed, or arrived where the pair is held
abbrev pub IsPastBase : Bool → Outcome → Type 0
IsPastBase true outcome = (outcome ≡ Outcome.Arrived) ⊎ (outcome ≡ Outcome.Unconfirmed)
IsPastBase false outcome = outcome ≡ Outcome.Unconfirmed

-- a tail in the words of its numbers
pub record IsTail (held : Bool) (there : ℕ → Bool) (from last : ℕ) (times : List (Option ℕ)) (since : Option Location) (pair : Pair) (acts : List placed.PlacedValue) : Type 0 where
  pub acknowledged : 1 < locations.greatest_base pair.writer pair.reader acts
  pub onward : from ≤ locations.greatest_base pair.writer pair.reader acts
  pub below : (n : ℕ) → from ≤ n → n ≤ last → n < locations.greatest_base pair.writer pair.reader acts → IsBelowBase held (outcomes_spec.outcome_of there times since pair acts n)
  pub others : (n : ℕ) → from ≤ n → n ≤ last → locations.greatest_base pair.writer pair.reader acts ≤ n → IsPastBase held (outcomes_spec.outcome_of there times since pair acts n)

-- Of an open row, by the greatest base of the reader's answers: it lacks a tail by its counts exactly where it does by its numbers, and
-- then the unconfirmed numbers are those from that base on; of a pair that is held, those of them that are not there. Of such a pair
-- nothing is lacking by the counts exactly where each number is received or arrived.
pub record IsTailByCounts (held : Bool) (there : ℕ → Bool) (from last : ℕ) (times : List (Option ℕ)) (since : Option Location) (pair : Pair) (acts : List placed.PlacedValue) (outcomes : Outcomes) : Type 0 where
  pub tail : (verdict : Verdict) → is_open verdict ≡ true → (is_tail held verdict outcomes from (locations.greatest_base pair.writer pair.reader acts) ≡ true) ↔ IsTail held there from last times since pair acts
  pub unconfirmed : held ≡ false → IsTail held there from last times since pair acts → outcomes.unconfirmed ≡ last + 1 - locations.greatest_base pair.writer pair.reader acts
  pub not_there : held ≡ true → IsTail held there from last times since pair acts
      → outcomes.unconfirmed ≡ counts.count_in (λ n. not (there n)) (locations.greatest_base pair.writer pair.reader acts) (last + 1)
  pub whole : (verdict : Verdict) → held ≡ true → is_open verdict ≡ true
      → (is_whole held verdict outcomes ≡ true) ↔ ((n : ℕ) → from ≤ n → n ≤ last → IsBelowBase true (outcomes_spec.outcome_of there times since pair acts n))

-- the rule by counts is the rule by numbers. Where a pair is not held, no number is there
abbrev pub CountsSayTail : Type 0
CountsSayTail =
    (held : Bool) (there : ℕ → Bool) (from last : ℕ) (times : List (Option ℕ)) (since : Option Location) (pair : Pair) (acts : List placed.PlacedValue) (outcomes : Outcomes)
    → (held ≡ false → (n : ℕ) → there n ≡ false) → outcomes_spec.AreOutcomes there from last times since pair acts outcomes
    → IsTailByCounts held there from last times since pair acts outcomes
