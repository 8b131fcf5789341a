-- Answers with their counts, as they are kept to find where one lacks. own: the acts of a reader are gone through once, and what is kept of each
-- answer tells by the one in front of it whether another lacks between the two.
use Rattle.std.specs.Prelude.{ℕ, Bool, false, ◌+◌, ◌-◌, ◌≡◌, ◌≤◌, ◌&&◌, not, if◌then◌else◌, length, map, List, take, Option, Some, None}
use Rattle.std.specs.List.{before_first, filter_map, find, last_or, list_any}
use Rattle.rtps_discovery.specs.declared.matching.Pair.{Pair}
use Rattle.rtps_audit.specs.Delivery as delivery
use Rattle.rtps_audit.specs.Placed as placed
use Rattle.rtps_coverage.specs.Counts as counts
use Rattle.rtps_evidence.specs.Locations as locations
use Rattle.rtps_evidence.specs.LostAnswers as lost_answers
use Rattle.rtps_evidence.specs.Waits as waits
use Rattle.rtps_evidence.specs.declared.counted_answers.CountedAnswer.{CountedAnswer}
use Rattle.rtps_evidence.specs.declared.counted_answers.FragmentRequests.{FragmentRequests}
use Rattle.rtps_evidence.specs.declared.location.Location.{Location}

-- in which datagrams the reader asks for fragments alone, up to that of the last of these acts of it
pub record AreRequests (pair : Pair) (acts : List placed.PlacedValue) (requests : FragmentRequests) : Type 0 where
  pub datagram : requests.datagram ≡ delivery.greatest (map (λ placed. placed.datagram) acts)
  pub asks : requests.asks ≡ list_any (lost_answers.asks_for_fragments_in requests.datagram pair.writer pair.reader) acts
  pub answers : requests.answers ≡ list_any (lost_answers.is_ack_nack_in requests.datagram pair.reader) acts
  pub alone : requests.alone ≡ counts.count_in (lost_answers.asks_for_fragments_alone pair.writer pair.reader acts) 0 requests.datagram

-- with a datagram more, where that asks for fragments and does not answer
abbrev pub with_alone : Bool → Bool → ℕ → ℕ
with_alone asks answers alone = if asks && not answers then alone + 1 else alone

-- an answer, where so many datagrams before its own ask for fragments alone
abbrev pub counted_with : ℕ → placed.PlacedValue → CountedAnswer
counted_with alone placed = record { place = locations.location_of placed; count = lost_answers.count_of placed.act.body; alone = alone }

-- the answer that an act is, among these acts
abbrev pub counted_of : Pair → List placed.PlacedValue → placed.PlacedValue → Option CountedAnswer
counted_of pair acts placed =
    if lost_answers.answers pair.writer pair.reader placed
    then Some (counted_with (counts.count_in (lost_answers.asks_for_fragments_alone pair.writer pair.reader acts) 0 placed.datagram) placed)
    else None

-- the answers among these acts
abbrev pub counted_among : Pair → List placed.PlacedValue → List CountedAnswer
counted_among pair acts = filter_map (counted_of pair acts) acts

-- an answer lacks between two of them
abbrev pub lacks_counted : Option CountedAnswer → Option CountedAnswer → Bool
lacks_counted (Some one) (Some other) = lost_answers.is_more (other.alone - one.alone) (lost_answers.left_out one.count other.count)
lacks_counted (Some one) None = false
lacks_counted None other = false

-- an answer stands behind a place
abbrev pub stands_behind : Location → CountedAnswer → Bool
stands_behind place answer = waits.precedes place answer.place

-- an answer lacks between the first of them behind a place, and the one in front of that
abbrev pub lacks_among : List CountedAnswer → Location → Bool
lacks_among counted place = lacks_counted (last_or None (before_first (stands_behind place) counted)) (find (stands_behind place) counted)

-- none of the first of these answers stands behind a place
pub record HasPassedCounted (counted : List CountedAnswer) (passed : ℕ) (place : Location) : Type 0 where
  pub within : passed ≤ length counted
  pub none : find (stands_behind place) (take passed counted) ≡ None
