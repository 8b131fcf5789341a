-- Rows by topic. own: a person knows the topics of a system, and not the GUIDs of its endpoints.
use Rattle.std.specs.Prelude.{◌&&◌, Bool, if◌then◌else◌, List, [], ◌∷◌, IsPermutation, IsSorted}
use Rattle.std.specs.Cmp.Lexicographic.{slice_cmp}
use Rattle.std.specs.List.Sorted.{IsStable}
use Rattle.std.specs.Ordering.{nat_cmp, ordering_then}
use Rattle.std.specs.Str.{bytes_eq}
use Rattle.std.specs.declared.cmp.Ordering.{Ordering}
use Rattle.rtps_evidence.specs.declared.explanation.Explanation.{Explanation}
use Rattle.rtps_evidence.specs.Explanation as explanation

-- by topic, and then by type, octet by octet
abbrev pub names_cmp : Explanation → Explanation → Ordering
names_cmp one other = ordering_then (slice_cmp nat_cmp one.topic.now other.topic.now) (slice_cmp nat_cmp one.type_name.now other.type_name.now)

-- these are the rows by topic and then by type; those of one topic and one type stay in their order
pub record AreByTopic (rows sorted : List Explanation) : Type 0 where
  pub all : IsPermutation rows sorted
  pub by_names : IsSorted names_cmp sorted
  pub in_order : IsStable names_cmp rows sorted

-- two rows of one topic and one type
abbrev pub have_one_topic : explanation.ExplanationValue → explanation.ExplanationValue → Bool
have_one_topic one other = bytes_eq one.topic other.topic && bytes_eq one.type_name other.type_name

-- a row before rows that are parted by topic: it joins the first of these where that is of its topic and its type
abbrev pub joined : explanation.ExplanationValue → List (List explanation.ExplanationValue) → List (List explanation.ExplanationValue)
joined row [] = (row ∷ []) ∷ []
joined row ([] ∷ topics) = (row ∷ []) ∷ topics
joined row ((next ∷ more) ∷ topics) = if have_one_topic row next then (row ∷ next ∷ more) ∷ topics else (row ∷ []) ∷ (next ∷ more) ∷ topics

-- rows in their order, parted where the topic or the type changes
abbrev pub topics_of : List explanation.ExplanationValue → List (List explanation.ExplanationValue)
topics_of [] = []
topics_of (row ∷ rows) = joined row (topics_of rows)
