-- What a recording has of a writer and a reader of best effort. DDSI-RTPS 2.5, 8.4.2.3 "Required RTPS Reader Behavior": such a reader sends
-- nothing, so nobody asks for what it lacks.
-- own: how much of what the writer sent is here for the reader is all that a recording tells of the two.
use Rattle.std.specs.Prelude.{ℕ, Bool, true, false, ◌≡◌, ◌+◌, ◌-◌, not, if◌then◌else◌, List, map, Option, MatchOption, unwrap_or}
use Rattle.rtps_ids.specs.declared.identity.Guid.{Guid}
use Rattle.rtps_discovery.specs.declared.matching.Pair.{Pair}
use Rattle.rtps_receiver.specs.Said as receiver_said
use Rattle.rtps_receiver.specs.Speech as speech
use Rattle.rtps_audit.specs.Delivery as delivery
use Rattle.rtps_audit.specs.Intake as intake
use Rattle.rtps_audit.specs.Placed as placed
use Rattle.rtps_audit.specs.Said as audit_said
use Rattle.rtps_coverage.specs.Counts as counts
use Rattle.rtps_evidence.specs.Amount as amount
use Rattle.rtps_evidence.specs.FirstNumbers as first_numbers
use Rattle.rtps_evidence.specs.OtherSide as other_side
use Rattle.rtps_evidence.specs.Spans as spans_spec
use Rattle.rtps_evidence.specs.declared.recorded.Arrived.{Arrived}
use Rattle.rtps_evidence.specs.declared.recorded.ArrivedNumbers.{ArrivedNumbers}
use Rattle.rtps_evidence.specs.declared.recorded.Recorded.{Recorded}
use Rattle.rtps_evidence.specs.declared.span.Span.{Span}

-- the number of which the writer sends a payload, or a part of one, by an act, to whomever; or 0
abbrev pub number_sent : Guid → placed.PlacedValue → ℕ
number_sent writer placed = if speech.is_spoken_by placed.act writer then unwrap_or (receiver_said.said placed.act.body).brought 0 else 0

-- the greatest of them, or 0
abbrev pub greatest_sent : Guid → List placed.PlacedValue → ℕ
greatest_sent writer acts = delivery.greatest (map (number_sent writer) acts)

-- of the numbers from the first one of a span on, up to the greatest that the writer sent by these acts: how many there are, and of how many the
-- reader hears a payload, where this is what it hears of them
pub record AreRecordedIn (span : Span) (pair : Pair) (sent heard : List placed.PlacedValue) (found : Recorded) : Type 0 where
  pub numbers : found.numbers ≡ greatest_sent pair.writer sent + 1 - span.from
  pub recorded : found.recorded ≡ counts.count_in (amount.is_sent pair.writer pair.reader heard) span.from (greatest_sent pair.writer sent + 1)

-- the same of what a row of the two would be by
pub record IsRecordedBy (spans : Bool) (from : ℕ) (pair : Pair) (intake : intake.Intake) (found : Recorded) : Type 0 where
  pub span : Span
  pub is_extent : spans_spec.IsExtent spans from pair intake span
  pub are_recorded : AreRecordedIn span pair (placed.placed_in (audit_said.datagrams_until span.until intake.acts)) (placed.placed_in (spans_spec.heard_in span pair intake.acts)) found

-- of the numbers from lo on and below hi: how many are there, and the first ten that are not
pub record IsArrivedAmong (there : ℕ → Bool) (lo hi : ℕ) (found : ArrivedNumbers) : Type 0 where
  pub arrived : found.arrived ≡ counts.count_in there lo hi
  pub lacking : found.lacking ≡ first_numbers.kept (first_numbers.first_ten (λ n. not (there n)) lo hi)

-- the same numbers, of a pair that is held against another recording: how many are there, and the first ten that are not. And which way
-- round the two recordings are
pub record IsArrivedBy (spans : Bool) (from : ℕ) (other : Option other_side.OtherRecording) (pair : Pair) (intake : intake.Intake) (found : Arrived) : Type 0 where
  pub span : Span
  pub is_extent : spans_spec.IsExtent spans from pair intake span
  pub way : found.way ≡ other_side.way_against intake.acts other pair
  pub arrived : MatchOption found.numbers (other_side.is_held intake.acts other pair ≡ false)
      (λ numbers. (other_side.is_held intake.acts other pair ≡ true)
      × IsArrivedAmong (other_side.is_there intake.acts other pair) span.from
      (greatest_sent pair.writer (placed.placed_in (audit_said.datagrams_until span.until intake.acts)) + 1) numbers)
