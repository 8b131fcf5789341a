-- The pairs that matched late. own: those that took longest stand first, since one cause often makes all of them late.
use Rattle.std.specs.Prelude.{ℕ, ◌++◌, ◌-◌, ◌==◌, nat_lt, if◌then◌else◌, List, [], ◌∷◌, codes, fold, insert, length, map, take}
use Rattle.std.specs.List.{concat, flat_map, position_or_len}
use Rattle.rtps_evidence.specs.Times as times_spec
use Rattle.rtps_parts.specs.Parts as parts
use Rattle.rtps_parts.specs.RosNames as ros_names
use Rattle.rtps_report.specs.LateRows as late_rows
use Rattle.rtps_report.specs.declared.advice.Advice.{Advice}
use Rattle.rtps_report.specs.declared.late_matches.LateMatch.{LateMatch}
use Rattle.rtps_lines.specs.AdviceText as advice_text
use Rattle.rtps_lines.specs.Lines as lines
use Rattle.rtps_lines.specs.NumberRanges as number_ranges
use Rattle.rtps_lines.specs.declared.sentences.noted.TheConstants as said

-- by how much two matched late
abbrev pub delay_text : LateMatch → List ℕ
delay_text late = codes "matched " ++ (lines.seconds_text (times_spec.seconds_of late.delay) ++ codes " s after both were there")

-- the same, and where they matched
abbrev pub late_text : times_spec.TimesValue → LateMatch → List ℕ
late_text times late = delay_text late ++ (codes ", " ++ lines.place_text times late.place)

-- ---- the note

-- so many pairs are named
abbrev pub NAMED_LATE : ℕ
NAMED_LATE = 5

-- pairs, the latest first, with one more: it stands before the first that is less late. The latest are kept
abbrev pub with_late : List late_rows.LateRowValue → late_rows.LateRowValue → List late_rows.LateRowValue
with_late rows row = take NAMED_LATE (insert rows (position_or_len (λ one. nat_lt one.late.delay row.late.delay) rows) row)

-- the latest of these, the latest first, and those that are late alike in their order
abbrev pub latest_rows : List late_rows.LateRowValue → List late_rows.LateRowValue
latest_rows rows = fold with_late [] rows

-- a pair by the name of its topic by ROS 2, by how much it is late, and when it matched
abbrev pub late_row_text : times_spec.TimesValue → late_rows.LateRowValue → List ℕ
late_row_text times row =
    (codes "\n  " ++ ros_names.topic_text row.topic) ++ (codes ": " ++ (delay_text row.late ++ number_ranges.bracketed (lines.second_in times row.late.place.datagram) (times_spec.frame_of times.frames row.late.place.datagram)))

-- how many pairs more there are; nothing where there is none
abbrev pub more_late : ℕ → List ℕ
more_late more = if more == 0 then [] else concat (codes "\n  and " ∷ parts.grouped more ∷ codes " more" ∷ [])

-- the latest of these pairs, each in a line, and how many more
abbrev pub late_lines : times_spec.TimesValue → List late_rows.LateRowValue → List ℕ
late_lines times rows = flat_map (late_row_text times) (latest_rows rows) ++ more_late (length rows - NAMED_LATE)

-- what to do, behind an arrow, where numbers stand before so many of these pairs
abbrev pub late_remedy : List ℕ → ℕ → List ℕ
late_remedy arrow before = if nat_lt 0 before then arrow ++ advice_text.sentence_of Advice.MatchedLate else []

-- the note on so many pairs, before so many of which numbers stand, and the lines of them; none where there is no such pair
abbrev pub matched_note : List ℕ → ℕ → ℕ → List ℕ → List (List ℕ)
matched_note arrow pairs before lines =
    if pairs == 0 then []
    else concat (parts.amount pairs (record { one = said.MATCHED_LATE_ONE.now; many = said.MATCHED_LATE_MANY.now }) ∷ lines ∷ late_remedy arrow before ∷ []) ∷ []
