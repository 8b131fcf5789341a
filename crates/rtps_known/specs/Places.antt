-- Where acts stand in a recording. own: a recording is a list of acts, each with its datagram, its place in that, and when the datagram came.
use Rattle.std.specs.Prelude.{◌==◌, ◌&&◌, ◌||◌, Bool, if◌then◌else◌, List, nat_lt, not, Option, Some, None, reverse}
use Rattle.std.specs.List.{find, take_while}
use Rattle.std.specs.Option.{option_map}
use Rattle.rtps_receiver.specs.Values as values
use Rattle.rtps_known.specs.declared.place.Place.{Place}

-- an act in its place
pub record PlacedAct : Type 0 where
  pub act : values.ActValue
  pub place : Place

-- a place stands before another one: in an earlier datagram, or in front of it in the same
abbrev pub precedes : Place → Place → Bool
precedes one other = nat_lt one.datagram other.datagram || ((one.datagram == other.datagram) && nat_lt one.at other.at)

-- the later of two places
abbrev pub later : Place → Place → Place
later one other = if precedes one other then other else one

-- the later of two places, where there are both
abbrev pub later_of : Option Place → Option Place → Option Place
later_of (Some one) (Some other) = Some (later one other)
later_of (Some one) None = None
later_of None other = None

-- ---- parts of a recording

-- the acts before the first one that passes a test; all where none does
abbrev pub before_first : (PlacedAct → Bool) → List PlacedAct → List PlacedAct
before_first test acts = take_while (λ placed. not (test placed)) acts

-- the acts behind the last one that passes it; all where none does
abbrev pub behind_last : (PlacedAct → Bool) → List PlacedAct → List PlacedAct
behind_last test acts = reverse (take_while (λ placed. not (test placed)) (reverse acts))

-- where the first act stands that passes it
abbrev pub place_of : (PlacedAct → Bool) → List PlacedAct → Option Place
place_of test acts = option_map (λ placed. placed.place) (find test acts)
