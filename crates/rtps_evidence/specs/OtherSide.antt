-- What stands beside a recording that is judged: another one, made at the host of readers, and when its datagrams came. DDSI-RTPS 2.5, 8.3.8.8 "InfoDestination": a
-- participant that sends says which one it sends to. own: what stands in the other recording came to that host. Two hosts have two
-- clocks, so no place of the one is compared with one of the other.
use Rattle.std.specs.Prelude.{ℕ, Bool, false, ◌≡◌, ◌&&◌, nat_lt, not, if◌then◌else◌, List, [], Option, Some, None}
use Rattle.rtps_discovery.specs.declared.matching.Pair.{Pair}
use Rattle.rtps_receiver.specs.Values as values
use Rattle.rtps_policies.specs.Namings as namings
use Rattle.rtps_audit.specs.Index as index
use Rattle.rtps_audit.specs.Intake as intake
use Rattle.rtps_audit.specs.Placed as placed
use Rattle.rtps_coverage.specs.Stretches as stretches
use Rattle.rtps_fragments.specs.Hearing as hearing
use Rattle.rtps_evidence.specs.Amount as amount
use Rattle.rtps_coverage.specs.declared.stretch.Stretch.{Stretch}
use Rattle.rtps_evidence.specs.declared.other_side.OtherSide.{OtherSide}
use Rattle.rtps_evidence.specs.declared.other_side.Sides.{Sides}
use Rattle.rtps_evidence.specs.declared.way.Way.{Way}
use Rattle.rtps_evidence.specs.WayRound as way_round

-- what is taken in of it, and the acts of each of its datagrams by which it is known who names whom
pub record OtherRecording : Type 0 where
  pub intake : intake.Intake
  pub named : List (List values.ActValue)

-- the code has this recording
pub record IsSideOf (other : OtherRecording) (side : OtherSide) : Type 0 where
  pub index : index.IsIndexBy other.intake side.index.now
  pub namings : namings.AreNamingsOf other.named side.namings.now

-- the code has one where there is one
abbrev pub IsOtherSide : Option OtherRecording → Option OtherSide → Type 0
IsOtherSide None None = Unit {0}
IsOtherSide None (Some side) = ⊥
IsOtherSide (Some other) None = ⊥
IsOtherSide (Some other) (Some side) = IsSideOf other side

-- what stands beside a recording: another one, if there is one, and when its own datagrams came
pub record Beside : Type 0 where
  pub other : Option OtherRecording
  pub times : List (Option ℕ)

-- nothing does
abbrev pub alone : Beside
alone = record { other = None; times = [] }

-- the same, without another recording
abbrev pub without_other : Beside → Beside
without_other beside = record { other = None; times = beside.times }

-- the code has what is taken in of the recording that is judged, and what stands beside it
pub record AreSides (intake : intake.Intake) (beside : Beside) (sides : Sides) : Type 0 where
  pub index : index.IsIndexBy intake sides.index.now
  pub other : IsOtherSide beside.other sides.other
  pub times : sides.times.now.of_datagrams ≡ beside.times

-- It was made at the host of the pair's reader: it has an act whose source is the reader's participant and whose destination is the
-- writer's. Only such a reader is at that host.
abbrev pub has_reader : OtherRecording → Pair → Bool
has_reader other pair = nat_lt 0 (namings.named_in other.named (record { source = pair.reader.prefix; dest = pair.writer.prefix }))

-- which way round a recording of these acts and the other one are by what a pair said, where the other one was made at the host of its
-- reader
abbrev pub way_against : List (List values.ActValue) → Option OtherRecording → Pair → Option Way
way_against all None pair = None
way_against all (Some other) pair = if has_reader other pair then Some (way_round.way_of_pair pair all other.intake.acts) else None

-- a pair is held against another recording that was made at its reader's host, unless the two are the wrong way round
abbrev pub holds_by : Option Way → Bool
holds_by None = false
holds_by (Some way) = not (way_round.is_wrong way)

-- A pair of a recording of these acts is held against the other one. Else it is judged as without that.
abbrev pub is_held : List (List values.ActValue) → Option OtherRecording → Pair → Bool
is_held all other pair = holds_by (way_against all other pair)

-- n is there for a pair that is held: in the other recording its reader hears a payload for n from its writer
abbrev pub is_there : List (List values.ActValue) → Option OtherRecording → Pair → ℕ → Bool
is_there all None pair n = false
is_there all (Some other) pair n = is_held all (Some other) pair && amount.is_sent pair.writer pair.reader (placed.placed_in (hearing.heard_by pair.reader other.intake.acts)) n

-- which way round the two are, whether the pair is held, and the numbers that are there
pub record AreThere (all : List (List values.ActValue)) (other : Option OtherRecording) (pair : Pair) (way : Option Way) (held : Bool) (there : List Stretch) : Type 0 where
  pub way_is : way ≡ way_against all other pair
  pub holds : held ≡ is_held all other pair
  pub numbers : (n : ℕ) → stretches.stretches_have there n ≡ is_there all other pair n
