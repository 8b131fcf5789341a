-- In which order two recordings were given, in words. own: where they look swapped the last line says so and what is to be done is a note; the
-- sentence is one.
use Rattle.std.specs.Prelude.{ℕ, ◌++◌, ◌==◌, Bool, if◌then◌else◌, List, [], ◌∷◌}
use Rattle.std.specs.List.{concat}
use Rattle.rtps_parts.specs.Parts as parts
use Rattle.rtps_report.specs.Order as order_spec
use Rattle.rtps_report.specs.declared.order.Order.{Order}
use Rattle.rtps_lines.specs.declared.sentences.ways.TheConstants as said

-- the words for pairs that are the wrong way round
abbrev pub wrong_words : parts.WordsValue
wrong_words = record { one = said.WRONG_ONE.now; many = said.WRONG_MANY.now }

-- the two recordings look swapped by so many pairs
abbrev pub swapped_parts : ℕ → List (List ℕ)
swapped_parts pairs = said.SWAPPED.now ∷ parts.amount pairs wrong_words ∷ []

-- the same as a reason; none where there is no such pair
abbrev pub swapped_cause : ℕ → List (List ℕ)
swapped_cause pairs = if pairs == 0 then [] else concat (swapped_parts pairs) ∷ []

-- one recording was given twice, as a reason
abbrev pub twice_cause : Bool → List (List ℕ)
twice_cause twice = if twice then said.TWICE.now ∷ [] else []

-- they look swapped, and behind an arrow what to do; none where there is no such pair
abbrev pub swapped_note : List ℕ → ℕ → List (List ℕ)
swapped_note arrow pairs = if pairs == 0 then [] else concat (swapped_parts pairs ++ (arrow ∷ said.SWAPPED_REMEDY.now ∷ [])) ∷ []

-- the words for pairs that are so where others are the right way round
abbrev pub mixed_words : parts.WordsValue
mixed_words =
    record {
      one = said.MIXED_ONE.now;
      many = said.MIXED_MANY.now;
    }

-- so many are, and behind an arrow what to do; none where there is no such pair
abbrev pub mixed_note : List ℕ → ℕ → List (List ℕ)
mixed_note arrow pairs = if pairs == 0 then [] else concat (parts.amount pairs mixed_words ∷ arrow ∷ said.MIXED_REMEDY.now ∷ []) ∷ []

-- nothing tells the two apart, if it is so
abbrev pub untold_note : Bool → List (List ℕ)
untold_note untold = if untold then said.UNTOLD.now ∷ [] else []

-- the notes on the order of two recordings
abbrev pub way_notes : List ℕ → Order → List (List ℕ)
way_notes arrow order = swapped_note arrow (order_spec.swapped order) ++ (mixed_note arrow (order_spec.mixed order) ++ untold_note (order_spec.is_untold order))
