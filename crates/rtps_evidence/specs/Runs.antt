-- Where runs end, and where numbers are sent first. own: runs are found, and places for them, by going once through what has them.
use Rattle.std.specs.Prelude.{ℕ, Bool, ◌≡◌, ◌≤◌, ◌||◌, ◌+◌, if◌then◌else◌, List, [], ◌∷◌, Option, None, Some}
use Rattle.std.specs.BTreeMap.{get}
use Rattle.std.specs.Ordering.{nat_cmp}
use Rattle.rtps_coverage.specs.Stretches as stretches
use Rattle.rtps_coverage.specs.declared.stretch.Stretch.{Stretch}
use Rattle.rtps_evidence.specs.Kinds as kinds
use Rattle.rtps_evidence.specs.Waits as waits
use Rattle.rtps_evidence.specs.declared.location.Location.{Location}
use Rattle.rtps_evidence.specs.declared.sendings.Sendings.{Sendings}
use Rattle.rtps_evidence.specs.declared.sendings.SentSpan.{SentSpan}

-- from where on a run may stand behind these, which stand from lo on
abbrev pub apart_end : ℕ → List Stretch → ℕ
apart_end lo [] = lo
apart_end lo (run ∷ runs) = apart_end (run.hi + 1) runs

-- these runs lie apart from a number on, the one at hand stands behind them, and together they are exactly the numbers that have it
pub record IsAtHand (from : ℕ) (has : ℕ → Bool) (runs : List Stretch) (run : Stretch) : Type 0 where
  pub apart : kinds.AreApart from runs
  pub behind : apart_end from runs ≤ run.lo
  pub ordered : run.lo ≤ run.hi
  pub exact : (n : ℕ) → (stretches.stretches_have runs n || stretches.stretch_has n run) ≡ has n

-- these runs lie apart from a number on and end before another, and are exactly the numbers that have it
pub record AreClosed (from : ℕ) (has : ℕ → Bool) (end : ℕ) (runs : List Stretch) : Type 0 where
  pub apart : kinds.AreApart from runs
  pub ends : apart_end from runs ≤ end
  pub exact : (n : ℕ) → stretches.stretches_have runs n ≡ has n

-- the places from the first to the last of these, and one more
abbrev pub span_with : Option SentSpan → Location → SentSpan
span_with None place = record { first = place; last = place }
span_with (Some span) place =
    record {
      first = if waits.precedes place span.first then place else span.first;
      last = if waits.precedes span.last place then place else span.last;
    }

-- of the numbers that have it these are the places where they are sent first, and between these places they are
pub record AreSendings (has : ℕ → Bool) (sent : ℕ → Option Location) (sendings : Sendings) : Type 0 where
  pub places : (n : ℕ) → get nat_cmp sendings.places n ≡ (if has n then sent n else None)
  pub span : kinds.IsSentIn has sent sendings.span
