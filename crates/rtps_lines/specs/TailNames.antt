-- The topics with the longest tails. own: a tail that is allowed is no loss, but one that is much longer than the others may be, so the
-- longest stand first.
use Rattle.std.specs.Prelude.{ℕ, ◌++◌, ◌-◌, ◌==◌, nat_lt, if◌then◌else◌, List, [], ◌∷◌, codes, fold, insert, length, map, max, take}
use Rattle.std.specs.List.{concat, flat_map, position_or_len}
use Rattle.rtps_parts.specs.Parts as parts
use Rattle.rtps_parts.specs.RosNames as ros_names
use Rattle.rtps_report.specs.ByTopic as by_topic
use Rattle.rtps_report.specs.RowFacts as row_facts
use Rattle.rtps_evidence.specs.Explanation as explanation
use Rattle.rtps_lines.specs.declared.tail_names.TopicTail.{TopicTail}

-- a topic, and how many numbers the longest tail of its rows has
pub record TailValue : Type 0 where
  pub topic : List ℕ
  pub longest : ℕ

-- that of the code, as a value
abbrev pub tail_value : TopicTail → TailValue
tail_value tail = record { topic = tail.topic.now; longest = tail.longest }

-- how many numbers the longest tail of these rows has
abbrev pub longest_tail : List explanation.ExplanationValue → ℕ
longest_tail rows = fold (λ longest row. max longest (row_facts.outcomes_of row.evidence).unconfirmed) 0 rows

-- the topic of rows
abbrev pub topic_in : List explanation.ExplanationValue → List ℕ
topic_in [] = []
topic_in (row ∷ rows) = row.topic

-- the tail of a topic's rows
abbrev pub tail_in : List explanation.ExplanationValue → TailValue
tail_in rows = record { topic = topic_in rows; longest = longest_tail rows }

-- so many topics are named
abbrev pub NAMED_TAILS : ℕ
NAMED_TAILS = 10

-- tails, longest first, with one more: it stands before the first that is shorter. The longest are kept
abbrev pub with_tail : List TailValue → TailValue → List TailValue
with_tail tails tail = take NAMED_TAILS (insert tails (position_or_len (λ one. nat_lt one.longest tail.longest) tails) tail)

-- the longest of topics, longest first, and those of one length in the order of the topics
abbrev pub longest_tails : List (List explanation.ExplanationValue) → List TailValue
longest_tails topics = fold with_tail [] (map tail_in topics)

-- a topic by its name of ROS 2, and its longest tail
abbrev pub tail_text : List ℕ → TailValue → List ℕ
tail_text separator tail = concat (separator ∷ ros_names.topic_text tail.topic ∷ codes " " ∷ parts.grouped tail.longest ∷ [])

-- those of topics behind a colon; nothing where there are none
abbrev pub tails_text : List TailValue → List ℕ
tails_text [] = []
tails_text (tail ∷ tails) = tail_text (codes ": ") tail ++ flat_map (tail_text (codes ", ")) tails

-- how many topics more there are; nothing where there is none
abbrev pub more_text : ℕ → List ℕ
more_text more = if more == 0 then [] else concat (codes ", and " ∷ parts.grouped more ∷ codes " more" ∷ [])

-- the topics of rows with tails, which stand by topic: the longest, and how many more
abbrev pub tail_names : List explanation.ExplanationValue → List ℕ
tail_names rows = let topics = by_topic.topics_of rows in tails_text (longest_tails topics) ++ more_text (length topics - NAMED_TAILS)
