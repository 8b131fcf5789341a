-- From which number on a writer owes to a reader that joins in a recording, as far as the writer's acts have come. own: each act is told
-- once, so that one walk serves many readers. What may be owed is settled where the writer first sends the reader something, but for acts of
-- one datagram that do not stand by their places.
use Rattle.std.specs.Prelude.{ℕ, Bool, true, false, ◌≡◌, List, Option, Some, None}
use Rattle.std.specs.List.{before_first, list_any}
use Rattle.rtps_discovery.specs.declared.matching.Pair.{Pair}
use Rattle.rtps_audit.specs.Intake as intake_spec
use Rattle.rtps_audit.specs.Placed as placed
use Rattle.rtps_evidence.specs.Missed as missed
use Rattle.rtps_evidence.specs.Spans as spans
use Rattle.rtps_evidence.specs.declared.listener.Listener.{Listener}
use Rattle.rtps_evidence.specs.declared.location.Location.{Location}
use Rattle.rtps_evidence.specs.declared.newcomer.GoneFirst.{GoneFirst}
use Rattle.rtps_evidence.specs.declared.newcomer.Newcomer.{Newcomer}
use Rattle.rtps_evidence.specs.declared.newcomer.Owing.{Owing}
use Rattle.rtps_evidence.specs.declared.span.Spanning.{Spanning}

-- the pair, and the place behind which its reader is there
abbrev pub listener_of : Newcomer → Listener
listener_of newcomer = record { pair = newcomer.pair; since = Some newcomer.place }

-- the reader hears a GAP by these acts that tells n gone, in front of all that it is sent
abbrev pub is_gone : Listener → List placed.PlacedValue → ℕ → Bool
is_gone listener acts n =
    list_any (spans.gaps_behind listener.since listener.pair.writer listener.pair.reader n) (before_first (missed.brings_some listener.since listener.pair.writer listener.pair.reader) acts)

-- it is what these acts tell gone in front of all that the reader is sent
pub record AreGone (listener : Listener) (acts : List placed.PlacedValue) (gone : GoneFirst) : Type 0 where
  pub end : spans.IsEndOf (is_gone listener acts) gone.end
  pub sent : gone.is_sent ≡ list_any (missed.brings_some listener.since listener.pair.writer listener.pair.reader) acts

-- the reader hears a payload of n, or a fragment of one, by these acts
abbrev pub is_brought : Listener → List placed.PlacedValue → ℕ → Bool
is_brought listener acts n = list_any (missed.brings_behind listener.since listener.pair.writer listener.pair.reader n) acts

-- the least number that may be owed to a newcomer, as far as it is known
abbrev pub owed_to : Newcomer → Owing → ℕ
owed_to newcomer owing = spans.least_owed newcomer.from newcomer.is_volatile owing.announced owing.gone.end

-- it is what these acts of the writer tell of a newcomer; where it is late, the least number that is brought is not told
pub record IsOwing (newcomer : Newcomer) (acts : List placed.PlacedValue) (owing : Owing) : Type 0 where
  pub announced : owing.announced ≡ spans.announced_before newcomer.place newcomer.pair.writer acts
  pub gone : AreGone (listener_of newcomer) acts owing.gone
  pub least : owing.is_late ≡ false → spans.IsLeastFrom (is_brought (listener_of newcomer) acts) (owed_to newcomer owing) owing.least

-- it is the reader of a pair, by the numbers from `from` on
pub record IsNewcomer (from : ℕ) (pair : Pair) (intake : intake_spec.Intake) (newcomer : Newcomer) : Type 0 where
  pub pair_is : newcomer.pair ≡ pair
  pub from_is : newcomer.from ≡ from
  pub is_volatile : spans.IsVolatileIn intake pair.reader newcomer.is_volatile

-- ---- the span, as far as the acts of the writer have come

-- it is the reader, where that joins here; else there is none
abbrev pub IsJoinedAs : ℕ → Option Location → Pair → intake_spec.Intake → Bool → Option Newcomer → Type 0
IsJoinedAs from joined pair intake here None = here ≡ false
IsJoinedAs from joined pair intake here (Some newcomer) = ((here ≡ true) × (joined ≡ Some newcomer.place)) × IsNewcomer from pair intake newcomer

-- so much is owed to the newcomer, if there is one, by these acts
abbrev pub IsOwed : List placed.PlacedValue → Owing → Option Newcomer → Type 0
IsOwed acts owing None = Unit {0}
IsOwed acts owing (Some newcomer) = IsOwing newcomer acts owing

-- it is the span of a pair, but for the number that it begins with, by these acts of the writer
pub record IsSpanning (from : ℕ) (pair : Pair) (intake : intake_spec.Intake) (acts : List placed.PlacedValue) (spanning : Spanning) : Type 0 where
  pub joined : spanning.span.joined ≡ missed.place_announced pair.reader (placed.placed_in intake.announcing)
  pub here : spanning.span.is_joined_here ≡ spans.is_joined_here spanning.span.joined pair (placed.placed_in intake.acts)
  pub first : spanning.span.from ≡ from
  pub until : spanning.span.until ≡ spans.left_in spanning.span.joined pair.reader (placed.placed_in intake.acts)
  pub newcomer : IsJoinedAs from spanning.span.joined pair intake spanning.span.is_joined_here spanning.newcomer
  pub owed : IsOwed acts spanning.owing spanning.newcomer
