-- Sets by which numbers have an outcome, and runs of the kinds that are lost. own: the sets are found for the counts of outcomes already, and
-- the runs of a kind are what one of them has and the ones before it have not.
use Rattle.std.specs.Prelude.{ℕ, Bool, true, false, ◌≡◌, ◌+◌, ◌≤◌, ◌||◌, not, take, All, List, Option}
use Rattle.std.specs.BTreeMap.{get}
use Rattle.std.specs.Ordering.{nat_cmp}
use Rattle.rtps_discovery.specs.declared.matching.Pair.{Pair}
use Rattle.rtps_audit.specs.Placed as placed
use Rattle.rtps_coverage.specs.Stretches as stretches
use Rattle.rtps_coverage.specs.declared.stretch.Stretch.{Stretch}
use Rattle.rtps_evidence.specs.Claimed as claimed
use Rattle.rtps_evidence.specs.Kinds as kinds
use Rattle.rtps_evidence.specs.Missed as missed
use Rattle.rtps_evidence.specs.Outcomes as outcomes
use Rattle.rtps_evidence.specs.Received as received
use Rattle.rtps_evidence.specs.declared.kinds.KindRuns.{KindRuns}
use Rattle.rtps_evidence.specs.declared.location.Location.{Location}
use Rattle.rtps_evidence.specs.declared.outcome.Outcome.{Outcome}
use Rattle.rtps_evidence.specs.declared.outcome_sets.OutcomeSets.{OutcomeSets}
use Rattle.rtps_evidence.specs.declared.sendings.Sendings.{Sendings}

-- of the numbers from `from` on, up to the last one: which are not received, which are asked for in vain, which are missed, which of the former nothing brings, and which
-- of those that something brings are unanswered
pub record AreSets (from last : ℕ) (times : List (Option ℕ)) (since : Option Location) (pair : Pair) (acts : List placed.PlacedValue) (sets : OutcomeSets) : Type 0 where
  pub lacking : claimed.AreLacking from last pair acts sets.unreceived.numbers.now
  pub unmet : (n : ℕ) → from ≤ n → n ≤ last → stretches.stretches_have sets.unreceived.unmet.now n ≡ missed.is_unmet since pair.writer pair.reader acts n
  pub missed : (n : ℕ) → from ≤ n → n ≤ last → stretches.stretches_have sets.unreceived.missed.now n ≡ missed.is_missed since pair.writer pair.reader acts n
  pub unsent : (n : ℕ) → from ≤ n → n ≤ last → received.is_received pair.writer pair.reader acts n ≡ false → stretches.stretches_have sets.unsent.items n ≡ not (outcomes.is_brought since pair acts n)
  pub silent : (n : ℕ) → from ≤ n → n ≤ last → received.is_received pair.writer pair.reader acts n ≡ false → outcomes.is_brought since pair acts n ≡ true
      → stretches.stretches_have sets.silent.now n ≡ outcomes.is_unanswered times since pair acts n

-- the runs of each kind
pub record AreKindRuns (held : Bool) (there : ℕ → Bool) (from last : ℕ) (times : List (Option ℕ)) (since : Option Location) (pair : Pair) (acts : List placed.PlacedValue) (runs : KindRuns) : Type 0 where
  pub missed : kinds.AreRunsOf (kinds.has_outcome Outcome.Missed there times since pair acts) from (last + 1) runs.missed.items
  pub unsent : kinds.AreRunsOf (kinds.has_outcome Outcome.Unsent there times since pair acts) from (last + 1) runs.unsent.items
  pub unanswered : kinds.AreRunsOf (kinds.has_outcome Outcome.Unanswered there times since pair acts) from (last + 1) runs.unanswered.items
  pub not_arrived : kinds.AreRunsOf (kinds.is_lacking held there pair acts) from (last + 1) runs.not_arrived.items

-- n is in some of them
abbrev pub is_in_runs : KindRuns → ℕ → Bool
is_in_runs runs n =
    stretches.stretches_have runs.missed.items n || (stretches.stretches_have runs.unsent.items n || (stretches.stretches_have runs.unanswered.items n || stretches.stretches_have runs.not_arrived.items n))

-- it is known where the first numbers of these runs are sent first
abbrev pub AreSent : Pair → List placed.PlacedValue → Sendings → List Stretch → Type 0
AreSent pair acts sendings runs = All (λ run. get nat_cmp sendings.places run.lo ≡ kinds.first_brought pair acts run.lo) (take 1000 runs)
