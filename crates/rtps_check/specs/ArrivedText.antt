-- What `check` prints of best-effort numbers that did not arrive at the reader's host, by another recording. own: the first ten of them are
-- enough to look at, and how many more there are tells the rest. A reader of best effort never asks again, so what it lacks is in no row.
use Rattle.std.specs.Prelude.{ℕ, ◌≡◌, ◌-◌, ◌++◌, Bool, nat_lt, List, [], ◌∷◌, codes, decimal, filter, length, sum_by, IsPermutation, IsSorted, Option, None, Some}
use Rattle.std.specs.Cmp.Lexicographic.{slice_cmp}
use Rattle.std.specs.List.{concat, join_by}
use Rattle.std.specs.List.Sorted.{IsStable}
use Rattle.std.specs.Ordering.{nat_cmp}
use Rattle.std.specs.declared.cmp.Ordering.{Ordering}
use Rattle.rtps_discovery.specs.declared.matching.Pair.{Pair}
use Rattle.rtps_ids.specs.declared.identity.Guid.{Guid}
use Rattle.rtps_evidence.specs.FirstNumbers as first_numbers
use Rattle.rtps_lines.specs.Notes as notes
use Rattle.rtps_lines.specs.NumberRanges as number_ranges
use Rattle.rtps_parts.specs.Parts as parts
use Rattle.rtps_report.specs.Ends as ends
use Rattle.rtps_report.specs.BestEfforts as best_efforts
use Rattle.rtps_report.specs.Talk as talk
use Rattle.rtps_check.specs.TalkText as talk_text
use Rattle.rtps_lines.specs.declared.sentences.block.TheConstants as said

-- ---- numbers

-- the first of so many numbers, with a comma between each two, and how many more there are
abbrev pub listed : List ℕ → ℕ → List ℕ
listed numbers count = join_by decimal (codes ", ") numbers ++ number_ranges.more_text (count - length numbers)

-- ---- pairs of best effort

-- not all numbers of a pair arrived
abbrev pub is_lossy : best_efforts.HeldValue → Bool
is_lossy one = nat_lt one.arrived.arrived one.numbers

-- how many of its numbers did not arrive
abbrev pub lost_of : best_efforts.HeldValue → ℕ
lost_of one = one.numbers - one.arrived.arrived

-- by topic, octet by octet
abbrev pub topic_cmp : best_efforts.HeldValue → best_efforts.HeldValue → Ordering
topic_cmp one other = slice_cmp nat_cmp one.topic other.topic

-- these are those by topic; those of one topic stay in their order
pub record AreByTopic (pairs sorted : List best_efforts.HeldValue) : Type 0 where
  pub all : IsPermutation pairs sorted
  pub by_topic : IsSorted topic_cmp sorted
  pub in_order : IsStable topic_cmp pairs sorted

-- the lines of a writer and a reader
abbrev pub two_lines : (Guid → ends.EndValue) → Pair → List ℕ
two_lines ends pair =
    concat (codes "  writer " ∷ talk_text.ended ends pair.writer ∷ codes "\n  reader " ∷ talk_text.ended ends pair.reader ∷ codes "\n" ∷ [])

-- how many numbers of a pair arrived, of how many
abbrev pub arrived_share : best_efforts.HeldValue → List ℕ
arrived_share one = concat (codes "    arrived " ∷ parts.share one.arrived.arrived one.numbers ∷ codes ", not " ∷ [])

-- the lines of a pair: how many of its numbers arrived, and the first of those that did not
abbrev pub lossy_pair : (Guid → ends.EndValue) → best_efforts.HeldValue → List ℕ
lossy_pair ends one =
    two_lines ends one.pair ++ (arrived_share one ++ (listed (first_numbers.numbers_of one.arrived.lacking) (lost_of one) ++ codes "\n"))

-- the lines of pairs behind one of this topic, if there is one
abbrev pub lossy_pairs : (Guid → ends.EndValue) → Option (List ℕ) → List best_efforts.HeldValue → List ℕ
lossy_pairs ends before [] = []
lossy_pairs ends before (one ∷ more) = talk_text.topic_line before one.topic ++ (lossy_pair ends one ++ lossy_pairs ends (Some one.topic) more)

-- the words for pairs of best effort
abbrev pub best_effort_words : parts.WordsValue
best_effort_words = record { one = codes "best-effort pair"; many = codes "best-effort pairs" }

-- how many numbers of so many pairs did not arrive, behind an empty line
abbrev pub lossy_head : ℕ → ℕ → List ℕ
lossy_head numbers pairs =
    concat (codes "\n" ∷ parts.amount numbers notes.number_words ∷ codes " of " ∷ parts.amount pairs best_effort_words ∷ codes " did not arrive\n" ∷ [])

-- the lines of all of them, which stand by topic; nothing where there is none
abbrev pub lossy_lines : (Guid → ends.EndValue) → List best_efforts.HeldValue → List ℕ
lossy_lines ends [] = []
lossy_lines ends (one ∷ more) =
    lossy_head (sum_by lost_of (one ∷ more)) (length (one ∷ more))
    ++ (lossy_pairs ends None (one ∷ more) ++ talk_text.remedy_line said.LOST_REMEDY.now)

-- those of a report are appended to a text
pub record IsArrivedBlock (talk : talk.TalkValue) (before text : List ℕ) : Type 0 where
  pub sorted : List best_efforts.HeldValue
  pub by_topic : AreByTopic (filter is_lossy talk.held) sorted
  pub is_text : text ≡ before ++ lossy_lines talk.ends sorted
