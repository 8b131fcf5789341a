-- Why a pair has its verdict. own: each verdict can be checked by hand at the places that are named.
use Rattle.std.specs.Prelude.{ℕ, Bool, true, false, ◌≡◌, List, [], Option, None, Some}
use Rattle.rtps_discovery.specs.declared.matching.Pair.{Pair}
use Rattle.rtps_receiver.specs.Values as values
use Rattle.rtps_audit.specs.Delivery as delivery
use Rattle.rtps_audit.specs.Intake as intake
use Rattle.rtps_audit.specs.Placed as placed
use Rattle.rtps_audit.specs.RunVerdict as run_verdict
use Rattle.rtps_audit.specs.Said as said
use Rattle.rtps_audit.specs.Speech as speech
use Rattle.rtps_audit.specs.declared.verdict.Verdict.{Verdict}
use Rattle.rtps_evidence.specs.Locations as locations
use Rattle.rtps_evidence.specs.Amount as amount
use Rattle.rtps_evidence.specs.FirstNumbers as first_numbers
use Rattle.rtps_evidence.specs.Grounds as grounds
use Rattle.rtps_evidence.specs.Missed as missed
use Rattle.rtps_evidence.specs.OtherSide as other_side
use Rattle.rtps_evidence.specs.Outcomes as outcomes_spec
use Rattle.rtps_evidence.specs.Questions as questions
use Rattle.rtps_evidence.specs.Received as received
use Rattle.rtps_evidence.specs.Spans as spans_spec
use Rattle.rtps_evidence.specs.Waits as waits
use Rattle.rtps_evidence.specs.declared.evidence.Evidence.{Evidence}
use Rattle.rtps_evidence.specs.declared.in_span.InSpan.{InSpan}
use Rattle.rtps_evidence.specs.declared.location.Location.{Location}
use Rattle.rtps_evidence.specs.declared.span.Span.{Span}

-- the verdict on a pair by its numbers and datagrams in a span, by the acts as they are sent
abbrev pub IsVerdictIn : Span → Pair → List (List values.ActValue) → Verdict → Type 0
IsVerdictIn span pair acts verdict = run_verdict.IsVerdictFrom span.from (speech.speech_by pair.writer pair.reader (said.datagrams_until span.until acts)) verdict

-- It is the evidence of a recording for a writer and a reader, by the numbers from `from` on, where the reader is there behind a place, and
-- these numbers are there in another recording: the verdict, and what it rests on.
pub record IsShown (there : ℕ → Bool) (from : ℕ) (since : Option Location) (pair : Pair) (recording : List (List values.ActValue)) (evidence : Evidence) : Type 0 where
  pub verdict : run_verdict.IsVerdictFrom from (speech.speech_by pair.writer pair.reader recording) evidence.verdict
  pub announcement : evidence.announcement ≡ locations.announcement_of from pair.writer (delivery.last_announced_from from (speech.speech_by pair.writer pair.reader recording)) (placed.placed_in recording)
  pub acknowledgement : evidence.acknowledgement ≡ locations.acknowledgement_of from pair.writer pair.reader (placed.placed_in recording)
  pub amounts : amount.AreAmounts from (delivery.last_announced_from from (speech.speech_by pair.writer pair.reader recording)) pair.writer pair.reader (placed.placed_in recording) (record { payloads = evidence.payloads; gone = evidence.gone; untold = evidence.untold })
  pub received : received.AreReceived from (delivery.last_announced_from from (speech.speech_by pair.writer pair.reader recording)) pair.writer pair.reader (placed.placed_in recording) (record { count = evidence.received; not_received = evidence.not_received })
  pub missed : missed.AreMissed there from (delivery.last_announced_from from (speech.speech_by pair.writer pair.reader recording)) since pair.writer pair.reader (placed.placed_in recording) (record { count = evidence.missed; first = evidence.first_missed })
  pub grounds : grounds.grounds_value evidence.grounds ≡ grounds.grounds_by evidence.verdict pair (placed.placed_in recording)

-- what a row in a span has beside: the span, what became of its numbers, the greatest base of the reader's answers, what another
-- recording, if there is one, has of the pair, the longest that the reader let the writer wait for an answer, and where it was asked first
-- behind its last answer. The row is by acts of all that the recording has
pub record IsInSpan (own : Span) (beside : other_side.Beside) (pair : Pair) (all recording : List (List values.ActValue)) (in_span : InSpan) : Type 0 where
  pub joined : in_span.joined ≡ own.joined
  pub here : in_span.is_joined_here ≡ own.is_joined_here
  pub first : in_span.from ≡ own.from
  pub wrote : in_span.wrote_before ≡ spans_spec.wrote_before own.from pair.writer (placed.placed_in recording)
  pub until : in_span.until ≡ own.until
  pub outcomes : outcomes_spec.AreOutcomes (other_side.is_there all beside.other pair) own.from (delivery.last_announced_from own.from (speech.speech_by pair.writer pair.reader recording)) beside.times (spans_spec.since_of own) pair (placed.placed_in recording) in_span.outcomes
  pub base : in_span.base ≡ locations.greatest_base pair.writer pair.reader (placed.placed_in recording)
  pub way : in_span.way ≡ other_side.way_against all beside.other pair
  pub held : in_span.is_held ≡ other_side.is_held all beside.other pair
  pub absent : in_span.absent
      ≡ outcomes_spec.absent_of (other_side.is_held all beside.other pair) (other_side.is_there all beside.other pair) own.from (delivery.last_announced_from own.from (speech.speech_by pair.writer pair.reader recording)) pair (placed.placed_in recording)
  pub lacking : in_span.lacking
      ≡ first_numbers.kept (outcomes_spec.lacking_of (other_side.is_held all beside.other pair) (other_side.is_there all beside.other pair) own.from
      (delivery.last_announced_from own.from (speech.speech_by pair.writer pair.reader recording)) pair (placed.placed_in recording))
  pub wait : in_span.wait ≡ waits.told_wait own pair beside.times recording
  pub waiting : in_span.waiting ≡ questions.first_asked pair.writer pair.reader (placed.placed_in recording)

-- it has that, where rows are in spans
abbrev pub IsBeside : Bool → other_side.Beside → Span → Pair → List (List values.ActValue) → List (List values.ActValue) → Option InSpan → Type 0
IsBeside true beside span pair all recording found = (in_span : InSpan) × (found ≡ Some in_span) × IsInSpan span beside pair all recording in_span
IsBeside false beside span pair all recording found = found ≡ None

-- It is the evidence of what is taken in for a writer and a reader, by the numbers from `from` on and by what the reader hears: where rows are in
-- spans, that of the datagrams of the span, by the span's numbers, as of a recording that ends there; else that of all datagrams. Another recording
-- and times may stand beside.
pub record IsEvidenceBy (spans : Bool) (from : ℕ) (beside : other_side.Beside) (pair : Pair) (intake : intake.Intake) (evidence : Evidence) : Type 0 where
  pub span : Span
  pub extent : spans_spec.IsExtent spans from pair intake span
  pub shown : IsShown (other_side.is_there intake.acts beside.other pair) span.from (spans_spec.since_of span) pair (spans_spec.heard_in span pair intake.acts) evidence
  pub in_span : IsBeside spans beside span pair intake.acts (spans_spec.heard_in span pair intake.acts) evidence.in_span

-- that of all datagrams
abbrev pub IsEvidenceFrom : ℕ → Pair → intake.Intake → Evidence → Type 0
IsEvidenceFrom from pair intake evidence = IsEvidenceBy false from other_side.alone pair intake evidence

-- by all numbers
abbrev pub IsEvidence : Pair → intake.Intake → Evidence → Type 0
IsEvidence pair intake evidence = IsEvidenceFrom 1 pair intake evidence

-- ---- laws

-- what a pair has beside that is held against no other recording: what it has without one, but for which way round the two are; so nothing
-- arrived, nothing is absent, no number is named that lacks, and the wait is the same
pub record IsAlone (own : Span) (beside : other_side.Beside) (pair : Pair) (all recording : List (List values.ActValue)) (in_span : InSpan) : Type 0 where
  pub without : IsInSpan own (other_side.without_other beside) pair all recording (record in_span { way = None })
  pub arrived : in_span.outcomes.arrived ≡ 0
  pub absent : in_span.absent ≡ 0
  pub lacking : in_span.lacking ≡ first_numbers.kept []

-- another recording changes nothing of a pair that is not held against it
abbrev pub NotHeldIsAlone : Type 0
NotHeldIsAlone =
    (own : Span) (beside : other_side.Beside) (pair : Pair) (all recording : List (List values.ActValue)) (in_span : InSpan)
    → other_side.is_held all beside.other pair ≡ false → IsInSpan own beside pair all recording in_span → IsAlone own beside pair all recording in_span
