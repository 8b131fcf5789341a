-- A table of texts. own: columns as wide as their widest entry are read without counting, and a column can be left out.
use Rattle.std.specs.Prelude.{ℕ, ◌-◌, ◌++◌, ◌==◌, if◌then◌else◌, max, List, [], codes, fold, length, map, replicate, slice_index_or}
use Rattle.std.specs.List.{flat_map}
use Rattle.rtps_parts.specs.declared.table.Column.{Column}

-- what a row has at a place; nothing where it has no such entry
abbrev pub entry : List (List ℕ) → ℕ → List ℕ
entry row place = slice_index_or row place []

-- the widest entry at a place
abbrev pub width : List (List (List ℕ)) → ℕ → ℕ
width rows place = fold (λ widest row. max widest (length (entry row place))) 0 rows

-- the column of a place
abbrev pub column_of : List (List (List ℕ)) → ℕ → Column
column_of rows place = record { place = place; width = width rows place }

-- an entry and the spaces that it leaves of its column: the first one stands to the left, the others to the right, behind two spaces
abbrev pub cell : List (List ℕ) → Column → List ℕ
cell row column =
    let rest = replicate (column.width - length (entry row column.place)) 32 in
    if column.place == 0 then entry row 0 ++ rest else codes "  " ++ (rest ++ entry row column.place)

-- a line
abbrev pub line : List Column → List (List ℕ) → List ℕ
line columns row = flat_map (cell row) columns ++ codes "\n"

-- these rows, of which these places are shown
abbrev pub table : List ℕ → List (List (List ℕ)) → List ℕ
table places rows = flat_map (line (map (column_of rows) places)) rows
