-- The rows whose writer and reader matched late. own: a row that is clean may lack what was written before they matched, and a reader of it may have
-- wanted that; so it is told of each such row, and whether numbers stand before it.
use Rattle.std.specs.Prelude.{ℕ, ◌&&◌, Bool, is_none, is_some, nat_lt, List, Option}
use Rattle.std.specs.List.{filter_map}
use Rattle.std.specs.Option.{option_map}
use Rattle.rtps_report.specs.RowFacts as row_facts
use Rattle.rtps_report.specs.Talk as talk
use Rattle.rtps_report.specs.Totals as totals
use Rattle.rtps_evidence.specs.Explanation as explanation
use Rattle.rtps_discovery.specs.declared.matching.Pair.{Pair}
use Rattle.rtps_report.specs.declared.late_matches.LateMatch.{LateMatch}
use Rattle.rtps_report.specs.declared.late_row.LateRow.{LateRow}

-- a row: its topic and its pair, and where the two matched
pub record LateRowValue : Type 0 where
  pub topic : List ℕ
  pub pair : Pair
  pub late : LateMatch

-- that of the code, as a value
abbrev pub late_row_value : LateRow → LateRowValue
late_row_value one = record { topic = one.topic.now; pair = one.pair; late = one.late }

-- a row whose two matched there
abbrev pub late_row_with : explanation.ExplanationValue → LateMatch → LateRowValue
late_row_with row late = record { topic = row.topic; pair = row.pair; late = late }

-- a row, if its two matched late
abbrev pub late_row_of : talk.TalkValue → explanation.ExplanationValue → Option LateRowValue
late_row_of talk row = option_map (late_row_with row) (talk.late row.pair)

-- those of these rows, in their order
abbrev pub late_rows : talk.TalkValue → List explanation.ExplanationValue → List LateRowValue
late_rows talk rows = filter_map (late_row_of talk) rows

-- the two of a row matched late, and numbers that are asked for stand before it
abbrev pub lacks_before : talk.TalkValue → ℕ → explanation.ExplanationValue → Bool
lacks_before talk from row = is_some (talk.late row.pair) && nat_lt 0 (totals.before_of from row.evidence)

-- all numbers that the writer of a row announced stand before it, and the two did not match late
abbrev pub is_late_alone : talk.TalkValue → ℕ → explanation.ExplanationValue → Bool
is_late_alone talk from row = row_facts.is_late from row.evidence && is_none (talk.late row.pair)
