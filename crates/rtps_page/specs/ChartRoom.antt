-- Which rows have a chart on a page. own: a page has room for so many entries, which it gives first to the rows that are not
-- clean, in their order, and then to the others. A row takes its answers, each with what it asks for, and what its writer says
-- where the row that was given room last is not of this writer: rows of one writer stand together. A row that takes more than is
-- left has no chart, and later ones may still have one.
use Rattle.std.specs.Prelude.{ℕ, ◌+◌, ◌++◌, ◌&&◌, nat_le, Bool, true, false, not, if◌then◌else◌, List, [], ◌∷◌, fold, filter, length, map, Option, None, Some}
use Rattle.rtps_ids.specs.declared.identity.Guid.{Guid}
use Rattle.rtps_discovery.specs.declared.matching.Pair.{Pair}
use Rattle.rtps_audit.specs.Placed as placed
use Rattle.rtps_evidence.specs.Explanation as explanation
use Rattle.rtps_report.specs.RowFacts as row_facts
use Rattle.rtps_page.specs.ChartEntries as chart_entries
use Rattle.rtps_page.specs.declared.chart_room.Need.{Need}
use Rattle.rtps_page.specs.declared.chart_room.Room.{Room}
use Rattle.rtps_page.specs.declared.chart_room.TheConstants as chart_room
use Rattle.rtps_page.specs.declared.chart_room.Turn.{Turn}

-- it is the turn of a row that is clean, or is not
abbrev pub is_turn : Turn → Bool → Bool
is_turn Turn.Unclean clean = not clean
is_turn Turn.Clean clean = clean

-- the pairs of rows
abbrev pub pairs_of : List explanation.ExplanationValue → List Pair
pairs_of rows = map (λ row. row.pair) rows

-- what a row would take, which is not given room yet, where a tail may have so many numbers and these are the pairs of all rows
abbrev pub need_of : ℕ → List placed.PlacedValue → List Pair → explanation.ExplanationValue → Need
need_of tail acts pairs row =
    record {
      pair = row.pair;
      clean = row_facts.is_clean tail row.evidence;
      acts = length (chart_entries.entries_by pairs row.pair.writer acts);
      answers = length (chart_entries.numbers_answered row.pair acts);
      charted = false;
    }

-- the writer is the last one
abbrev pub is_last : Option Guid → Guid → Bool
is_last None writer = false
is_last (Some last) writer = placed.is_guid last writer

-- how many entries a row takes behind this last writer
abbrev pub takes : Option Guid → Need → ℕ
takes last need = need.answers + (if is_last last need.pair.writer then 0 else need.acts)

-- all room is left
abbrev pub whole_room : Room
whole_room = record { used = 0; last = None }

-- it is the row's turn, and there is room for it
abbrev pub is_given : Turn → Room → Need → Bool
is_given turn room need = is_turn turn need.clean && nat_le (room.used + takes room.last need) chart_room.ENTRIES

-- how much room is used behind a row; None where there is not so much
abbrev pub used_behind : Room → Need → Option ℕ
used_behind room need = if nat_le (room.used + takes room.last need) chart_room.ENTRIES then Some (room.used + takes room.last need) else None

-- the room behind it
abbrev pub room_behind : Turn → Room → Need → Room
room_behind turn room need =
    if is_given turn room need then record { used = room.used + takes room.last need; last = Some need.pair.writer } else room

-- the row, with a chart if it is given room
abbrev pub need_behind : Turn → Room → Need → Need
need_behind turn room need =
    if is_given turn room need then record { pair = need.pair; clean = need.clean; acts = need.acts; answers = need.answers; charted = true } else need

-- what room is left, and the rows that had their turn
pub record Given : Type 0 where
  pub room : Room
  pub needs : List Need

-- the next row has its turn
abbrev pub give : Turn → Given → Need → Given
give turn given need = record { room = room_behind turn given.room need; needs = given.needs ++ need_behind turn given.room need ∷ [] }

-- all rows have their turn, from this room on
abbrev pub given_from : Turn → Room → List Need → Given
given_from turn room needs = fold (give turn) (record { room = room; needs = [] }) needs

-- those that are not clean, and then the others
abbrev pub given_in_turn : Given → Given
given_in_turn first = given_from Turn.Clean first.room first.needs

-- which rows have a chart
abbrev pub charted : List Need → List Need
charted needs = filter (λ need. need.charted) (given_in_turn (given_from Turn.Unclean whole_room needs)).needs

-- the pairs of the rows that have one, in the order of the report
abbrev pub charted_pairs : ℕ → List placed.PlacedValue → List explanation.ExplanationValue → List Pair
charted_pairs tail acts rows = map (λ need. need.pair) (charted (map (need_of tail acts (pairs_of rows)) rows))

-- the writers of these pairs that follow one another, each once, behind this last one
abbrev pub writers_behind : Option Guid → List Pair → List Guid
writers_behind last [] = []
writers_behind last (pair ∷ pairs) = (if is_last last pair.writer then [] else pair.writer ∷ []) ++ writers_behind (Some pair.writer) pairs
