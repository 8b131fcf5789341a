-- Which numbers of a row are lost, or look so, as ranges, and between which places they are sent first. own: a count says how bad it is, and
-- not what happened; a range with the place of its first number leads to the moment, and the places of all tell how long it took. Acts are those of the datagrams that a row is by; `since` is the place behind which the reader is
-- there; `there` says which numbers the other recording has a payload of that the reader hears.
use Rattle.std.specs.Prelude.{ℕ, Bool, true, false, ⊤, ◌≡◌, ◌+◌, ◌-◌, ◌≤◌, ◌<◌, ◌&&◌, ◌||◌, nat_le, nat_lt, not, length, map, take, List, [], ◌∷◌, Option, Some, None}
use Rattle.std.specs.List.{find}
use Rattle.std.specs.Option.{option_map}
use Rattle.rtps_discovery.specs.declared.matching.Pair.{Pair}
use Rattle.rtps_audit.specs.Delivery as delivery
use Rattle.rtps_audit.specs.Placed as placed
use Rattle.rtps_audit.specs.Speech as speech
use Rattle.rtps_receiver.specs.Values as values
use Rattle.rtps_coverage.specs.Stretches as stretches
use Rattle.rtps_coverage.specs.declared.stretch.Stretch.{Stretch}
use Rattle.rtps_evidence.specs.Locations as locations
use Rattle.rtps_evidence.specs.Missed as missed
use Rattle.rtps_evidence.specs.OtherSide as other_side
use Rattle.rtps_evidence.specs.Outcomes as outcomes
use Rattle.rtps_evidence.specs.Received as received
use Rattle.rtps_evidence.specs.Spans as spans
use Rattle.rtps_evidence.specs.Waits as waits
use Rattle.rtps_evidence.specs.declared.kinds.KindNumbers.{KindNumbers}
use Rattle.rtps_evidence.specs.declared.kinds.LostNumbers.{LostNumbers}
use Rattle.rtps_evidence.specs.declared.kinds.NumberRange.{NumberRange}
use Rattle.rtps_evidence.specs.declared.location.Location.{Location}
use Rattle.rtps_evidence.specs.declared.outcome.Outcome.{Outcome}
use Rattle.rtps_evidence.specs.declared.sendings.SentSpan.{SentSpan}
use Rattle.rtps_evidence.specs.declared.span.Span.{Span}

-- ---- numbers as runs

-- each run from a number on has some number, and between two of them stands one that is in neither
abbrev pub AreApart : ℕ → List Stretch → Type 0
AreApart lo [] = ⊤
AreApart lo (run ∷ runs) = (lo ≤ run.lo) × (run.lo < run.hi) × AreApart (run.hi + 1) runs

-- the runs are exactly the numbers from lo on and below hi that have it
pub record AreRunsOf (has : ℕ → Bool) (lo hi : ℕ) (runs : List Stretch) : Type 0 where
  pub apart : AreApart lo runs
  pub exact : (n : ℕ) → stretches.stretches_have runs n ≡ ((nat_le lo n && nat_lt n hi) && has n)

-- ---- ranges

-- where the first act stands that brings the reader n, if one does
abbrev pub first_brought : Pair → List placed.PlacedValue → ℕ → Option Location
first_brought pair acts n = option_map locations.location_of (find (missed.brings pair.writer pair.reader n) acts)

-- a run as a range, with the place of the first act that brings its first number
abbrev pub range_of : Pair → List placed.PlacedValue → Stretch → NumberRange
range_of pair acts run = record { first = run.lo; last = run.hi - 1; sent = first_brought pair acts run.lo }

-- ranges, and how many more there are
pub record KindValue : Type 0 where
  pub ranges : List NumberRange
  pub more : ℕ

-- the first thousand of these runs, and how many more there are
abbrev pub kept_ranges : Pair → List placed.PlacedValue → List Stretch → KindValue
kept_ranges pair acts runs = record { ranges = map (range_of pair acts) (take 1000 runs); more = length runs - 1000 }

-- the numbers from `from` on, up to the last one, that have it, as ranges
pub record AreRangesOf (has : ℕ → Bool) (from last : ℕ) (pair : Pair) (acts : List placed.PlacedValue) (found : KindValue) : Type 0 where
  pub runs : List Stretch
  pub are_runs : AreRunsOf has from (last + 1) runs
  pub is_value : found ≡ kept_ranges pair acts runs

-- no ranges
abbrev pub no_ranges : KindValue
no_ranges = record { ranges = []; more = 0 }

-- ---- first sendings

-- some number that has it is sent first at a place
pub record IsSentAt (has : ℕ → Bool) (sent : ℕ → Option Location) (place : Location) : Type 0 where
  pub number : ℕ
  pub has_it : has number ≡ true
  pub there : sent number ≡ Some place

-- of the places where the numbers that have it are sent first, these are the least and the greatest
pub record IsSentSpan (has : ℕ → Bool) (sent : ℕ → Option Location) (span : SentSpan) : Type 0 where
  pub first : IsSentAt has sent span.first
  pub last : IsSentAt has sent span.last
  pub least : (place : Location) → IsSentAt has sent place → waits.precedes place span.first ≡ false
  pub greatest : (place : Location) → IsSentAt has sent place → waits.precedes span.last place ≡ false

-- the same, where some number that has it is sent; nothing, where none is
abbrev pub IsSentIn : (ℕ → Bool) → (ℕ → Option Location) → Option SentSpan → Type 0
IsSentIn has sent (Some span) = IsSentSpan has sent span
IsSentIn has sent None = (n : ℕ) → has n ≡ true → sent n ≡ None

-- ---- kinds

-- those of each kind, and between which places all of them are sent first
pub record LostValue : Type 0 where
  pub missed : KindValue
  pub unsent : KindValue
  pub unanswered : KindValue
  pub not_arrived : KindValue
  pub sent : Option SentSpan

-- those of the code, as values
abbrev pub kind_value : KindNumbers → KindValue
kind_value kind = record { ranges = kind.ranges.items; more = kind.more }

-- the same of all kinds
abbrev pub lost_value : LostNumbers → LostValue
lost_value lost =
    record {
      missed = kind_value lost.missed;
      unsent = kind_value lost.unsent;
      unanswered = kind_value lost.unanswered;
      not_arrived = kind_value lost.not_arrived;
      sent = lost.sent;
    }

-- no numbers
abbrev pub none_lost : LostValue
none_lost = record { missed = no_ranges; unsent = no_ranges; unanswered = no_ranges; not_arrived = no_ranges; sent = None }

-- of a pair that is held against another recording, n is neither received nor there
abbrev pub is_lacking : Bool → (ℕ → Bool) → Pair → List placed.PlacedValue → ℕ → Bool
is_lacking held there pair acts n = held && (not (received.is_received pair.writer pair.reader acts n) && not (there n))

-- n has this outcome
abbrev pub has_outcome : Outcome → (ℕ → Bool) → List (Option ℕ) → Option Location → Pair → List placed.PlacedValue → ℕ → Bool
has_outcome outcome there times since pair acts n = outcomes.is_outcome outcome (outcomes.outcome_of there times since pair acts n)

-- of the numbers from `from` on, up to the last one, n is lost, or looks so, by its outcome, or did not arrive
abbrev pub is_lost : Bool → (ℕ → Bool) → ℕ → ℕ → List (Option ℕ) → Option Location → Pair → List placed.PlacedValue → ℕ → Bool
is_lost held there from last times since pair acts n =
    (nat_le from n && nat_lt n (last + 1))
    && (has_outcome Outcome.Missed there times since pair acts n
    || (has_outcome Outcome.Unsent there times since pair acts n
    || (has_outcome Outcome.Unanswered there times since pair acts n || is_lacking held there pair acts n)))

-- of the numbers from `from` on, up to the last one: those that are lost, or look so, by their outcomes, and those that did not arrive
pub record AreLost (held : Bool) (there : ℕ → Bool) (from last : ℕ) (times : List (Option ℕ)) (since : Option Location) (pair : Pair) (acts : List placed.PlacedValue) (lost : LostValue) : Type 0 where
  pub missed : AreRangesOf (has_outcome Outcome.Missed there times since pair acts) from last pair acts lost.missed
  pub unsent : AreRangesOf (has_outcome Outcome.Unsent there times since pair acts) from last pair acts lost.unsent
  pub unanswered : AreRangesOf (has_outcome Outcome.Unanswered there times since pair acts) from last pair acts lost.unanswered
  pub not_arrived : AreRangesOf (is_lacking held there pair acts) from last pair acts lost.not_arrived
  pub sent : IsSentIn (is_lost held there from last times since pair acts) (first_brought pair acts) lost.sent

-- those of a row, where rows are in spans; none, where they are not. The row is by acts of all that the recording has
abbrev pub IsLostIn : Bool → other_side.Beside → Span → Pair → List (List values.ActValue) → List (List values.ActValue) → LostValue → Type 0
IsLostIn true beside own pair all recording lost =
    AreLost (other_side.is_held all beside.other pair) (other_side.is_there all beside.other pair) own.from (delivery.last_announced_from own.from (speech.speech_by pair.writer pair.reader recording))
    beside.times (spans.since_of own) pair (placed.placed_in recording) lost
IsLostIn false beside own pair all recording lost = lost ≡ none_lost

-- ---- laws

-- some numbers are told by ranges in one way
abbrev pub RunsAreOne : Type 0
RunsAreOne = (has : ℕ → Bool) (lo hi : ℕ) (one other : List Stretch) → AreRunsOf has lo hi one → AreRunsOf has lo hi other → one ≡ other
