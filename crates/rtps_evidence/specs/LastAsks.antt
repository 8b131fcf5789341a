-- The last answer by which a reader asks for a number, as it is kept. own: the acts of a reader are gone through once, the last one first, so that
-- what its answers claim behind is known.
use Rattle.std.specs.Prelude.{ℕ, Bool, false, ◌≡◌, ◌&&◌, nat_lt, if◌then◌else◌, map, List, Option, Some, None}
use Rattle.std.specs.BTreeMap.{get}
use Rattle.std.specs.Option.{option_and_then, option_map}
use Rattle.std.specs.Ordering.{nat_cmp}
use Rattle.rtps_discovery.specs.declared.matching.Pair.{Pair}
use Rattle.rtps_audit.specs.Delivery as delivery
use Rattle.rtps_audit.specs.Placed as placed
use Rattle.rtps_coverage.specs.Stretches as stretches
use Rattle.rtps_evidence.specs.CountedAnswers as counted_answers
use Rattle.rtps_evidence.specs.Locations as locations
use Rattle.rtps_evidence.specs.LostAnswers as lost_answers
use Rattle.rtps_evidence.specs.Missed as missed
use Rattle.rtps_evidence.specs.Requests as requests
use Rattle.rtps_evidence.specs.declared.counted_answers.CountedAnswer.{CountedAnswer}
use Rattle.rtps_evidence.specs.declared.excused.Resends.{Resends}
use Rattle.rtps_evidence.specs.declared.last_asks.LastAsk.{LastAsk}
use Rattle.rtps_evidence.specs.declared.location.Location.{Location}

-- an act that asks, where what stands behind it claims the numbers below this one
abbrev pub ask_at : ℕ → placed.PlacedValue → LastAsk
ask_at below asking = record { place = locations.location_of asking; below = below }

-- the same by what stands behind it
abbrev pub ask_of : Pair → List placed.PlacedValue → placed.PlacedValue → LastAsk
ask_of pair behind asking = ask_at (delivery.greatest (map (locations.base_said pair.writer pair.reader) behind)) asking

-- the last of these acts that answers the writer and asks for n
abbrev pub last_ask : Pair → List placed.PlacedValue → ℕ → Option LastAsk
last_ask pair acts n =
    option_map (ask_of pair (lost_answers.behind_last (lost_answers.lacks_by_answer pair.writer pair.reader n) acts)) (locations.find_last (lost_answers.lacks_by_answer pair.writer pair.reader n) acts)

-- an answer lacks around a place, if there is one
abbrev pub lacks_at : List CountedAnswer → Option Location → Bool
lacks_at counted None = false
lacks_at counted (Some place) = counted_answers.lacks_among counted place

-- the ask is excused by these acts of the writer: what stands behind it claims n, and an answer lacks around the first act behind it that brings n
abbrev pub excuses : Pair → List CountedAnswer → List placed.PlacedValue → ℕ → LastAsk → Bool
excuses pair counted acts n ask = nat_lt n ask.below && lacks_at counted (missed.again_behind ask.place pair.writer pair.reader n acts)

-- an ask, where an act stands behind it
abbrev pub asked_before : placed.PlacedValue → Option LastAsk → Option LastAsk
asked_before placed None = None
asked_before placed (Some ask) = if locations.is_behind (Some ask.place) placed then Some ask else None

-- an ask, unless an act brings its number there
abbrev pub left_where : Option Location → LastAsk → Option LastAsk
left_where None ask = Some ask
left_where (Some place) ask = None

-- the ask, where none of these acts behind it brings n
abbrev pub left_by : Pair → List placed.PlacedValue → ℕ → LastAsk → Option LastAsk
left_by pair acts n ask = left_where (missed.again_behind ask.place pair.writer pair.reader n acts) ask

-- what is kept behind these acts of the writer, where these were the last asks: those that are not met, and which numbers are excused
pub record AreResends (pair : Pair) (counted : List CountedAnswer) (last : ℕ → Option LastAsk) (acts : List placed.PlacedValue) (resends : Resends) : Type 0 where
  pub asks : (n : ℕ) → get nat_cmp resends.asks n ≡ option_and_then (left_by pair acts n) (last n)
  pub answers : resends.answers ≡ counted
  pub excused : (n : ℕ) → stretches.stretches_have resends.excused.items n ≡ requests.option_any (excuses pair counted acts n) (last n)
