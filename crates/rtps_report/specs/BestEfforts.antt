-- Pairs of best effort by topic. own: of such pairs nothing is asked again and nothing is judged, so sums tell all that there is.
use Rattle.std.specs.Prelude.{ℕ, ◌≡◌, ◌↔◌, ◌+◌, ◌*◌, ◌≤◌, ◌<◌, ◌^◌, All, Contains, Bool, if◌then◌else◌, List, [], ◌∷◌, count_by, filter, is_some, length, map, sum_by, unwrap_or}
use Rattle.std.specs.Cmp.Lexicographic.{slice_cmp}
use Rattle.std.specs.List.Sorted.{IsStrictlySortedBy}
use Rattle.std.specs.Ordering.{nat_cmp}
use Rattle.std.specs.Str.{bytes_eq}
use Rattle.rtps_discovery.specs.declared.matching.Pair.{Pair}
use Rattle.rtps_evidence.specs.FirstNumbers as first_numbers
use Rattle.rtps_evidence.specs.declared.recorded.Arrived.{Arrived}
use Rattle.rtps_evidence.specs.declared.recorded.ArrivedNumbers.{ArrivedNumbers}
use Rattle.rtps_evidence.specs.declared.recorded.Recorded.{Recorded}
use Rattle.rtps_report.specs.declared.best_effort.BestEffort.{BestEffort}
use Rattle.rtps_report.specs.declared.best_effort.BestEffortNumbers.{BestEffortNumbers}
use Rattle.rtps_report.specs.declared.best_effort.Counted.{Counted}
use Rattle.rtps_report.specs.declared.best_effort.HeldPair.{HeldPair}

-- a pair, what the recording has of it, and what another one has: which way round the two are by it, and what arrived of its numbers, where
-- it is held
pub record CountedValue : Type 0 where
  pub topic : List ℕ
  pub pair : Pair
  pub recorded : Recorded
  pub arrived : Arrived

-- that of the code, as a value
abbrev pub counted_value : Counted → CountedValue
counted_value one = record { topic = one.topic.now; pair = one.pair; recorded = one.recorded; arrived = one.arrived }

-- the pairs of a topic
pub record BestEffortValue : Type 0 where
  pub topic : List ℕ
  pub pairs : ℕ
  pub numbers : ℕ
  pub recorded : ℕ

-- those of the code, as a value
abbrev pub best_effort_value : BestEffort → BestEffortValue
best_effort_value sum = record { topic = sum.topic.now; pairs = sum.pairs; numbers = sum.numbers; recorded = sum.recorded }

-- how many pairs they are, how many numbers they have, and how many of these are recorded
abbrev pub numbers_told : BestEffortValue → BestEffortNumbers
numbers_told sum = record { pairs = sum.pairs; numbers = sum.numbers; recorded = sum.recorded }

-- a pair is of this topic
abbrev pub is_of : List ℕ → CountedValue → Bool
is_of topic one = bytes_eq one.topic topic

-- the pairs of a topic among these, and the sums of what the recording has of them
abbrev pub sum_of : List CountedValue → List ℕ → BestEffortValue
sum_of counted topic =
    record {
      topic = topic;
      pairs = count_by (is_of topic) counted;
      numbers = sum_by (λ one. one.recorded.numbers) (filter (is_of topic) counted);
      recorded = sum_by (λ one. one.recorded.recorded) (filter (is_of topic) counted);
    }

-- the sums of all of them, which have no topic
abbrev pub total_of : List CountedValue → BestEffortValue
total_of counted =
    record { topic = []; pairs = length counted; numbers = sum_by (λ one. one.recorded.numbers) counted; recorded = sum_by (λ one. one.recorded.recorded) counted }

-- each topic of pairs once, octet by octet, with their sums
pub record AreSumsOf (counted : List CountedValue) (sums : List BestEffortValue) : Type 0 where
  pub in_order : IsStrictlySortedBy (slice_cmp nat_cmp) (map (λ sum. sum.topic) sums)
  pub each : All (λ sum. sum ≡ sum_of counted sum.topic) sums
  pub topics : (topic : List ℕ) → Contains (map (λ sum. sum.topic) sums) topic ↔ Contains (map (λ one. one.topic) counted) topic

-- ---- pairs that are held against another recording

-- such a pair, how many numbers it has, and what arrived of them
pub record HeldValue : Type 0 where
  pub topic : List ℕ
  pub pair : Pair
  pub numbers : ℕ
  pub arrived : ArrivedNumbers

-- that of the code, as a value
abbrev pub held_value : HeldPair → HeldValue
held_value one = record { topic = one.topic.now; pair = one.pair; numbers = one.numbers; arrived = one.arrived }

-- nothing
abbrev pub none_arrived : ArrivedNumbers
none_arrived = record { arrived = 0; lacking = first_numbers.kept [] }

-- what is told of a pair that is held
abbrev pub held_of : CountedValue → HeldValue
held_of one = record { topic = one.topic; pair = one.pair; numbers = one.recorded.numbers; arrived = unwrap_or one.arrived.numbers none_arrived }

-- the same of each of these pairs that is held
abbrev pub held_among : List CountedValue → List HeldValue
held_among counted = map held_of (filter (λ one. is_some one.arrived.numbers) counted)

-- a pair that is held, counted by what arrived of its numbers
abbrev pub by_arrived : CountedValue → CountedValue
by_arrived one = record one { recorded = record { numbers = one.recorded.numbers; recorded = (unwrap_or one.arrived.numbers none_arrived).arrived } }

-- the same of each of these pairs that is held
abbrev pub arrived_among : List CountedValue → List CountedValue
arrived_among counted = map by_arrived (filter (λ one. is_some one.arrived.numbers) counted)

-- ---- one pair after another

-- a pair more
abbrev pub with_counted : BestEffortValue → CountedValue → BestEffortValue
with_counted sum one =
    record { topic = sum.topic; pairs = sum.pairs + 1; numbers = sum.numbers + one.recorded.numbers; recorded = sum.recorded + one.recorded.recorded }

-- a pair of a topic of its own
abbrev pub alone : CountedValue → BestEffortValue
alone one = with_counted (record { topic = one.topic; pairs = 0; numbers = 0; recorded = 0 }) one

-- a pair behind those of these topics
abbrev pub added_to : List BestEffortValue → CountedValue → List BestEffortValue
added_to [] one = alone one ∷ []
added_to (sum ∷ []) one = if is_of sum.topic one then with_counted sum one ∷ [] else sum ∷ alone one ∷ []
added_to (sum ∷ next ∷ sums) one = sum ∷ added_to (next ∷ sums) one

-- no pair counts more numbers than there are
pub record IsWithin (sum : BestEffortValue) : Type 0 where
  pub pairs : sum.pairs + 1 < 2 ^ 64
  pub numbers : sum.numbers ≤ sum.pairs * 18446744073709551615
  pub recorded : sum.recorded ≤ sum.pairs * 18446744073709551615

-- what is counted of a pair are numbers of 64 bits
pub record IsSmall (one : CountedValue) : Type 0 where
  pub numbers : one.recorded.numbers < 2 ^ 64
  pub recorded : one.recorded.recorded < 2 ^ 64

-- each of these sums is so
abbrev pub AreWithin : List BestEffortValue → Type 0
AreWithin sums = All IsWithin sums
