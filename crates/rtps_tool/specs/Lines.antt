-- The lines of a text.
-- own: a recording is plain text, so that it can be read, cut and written by hand on any system.
use Rattle.std.specs.Prelude.{ℕ, Bool, ◌==◌, if◌then◌else◌, List, [], ◌∷◌, map}
use Rattle.std.specs.Str.Lines.{strip_carriage_return}

-- lines whose first line begins with the octet b
abbrev pub onto_first_line : ℕ → List (List ℕ) → List (List ℕ)
onto_first_line b [] = (b ∷ []) ∷ []
onto_first_line b (line ∷ lines) = (b ∷ line) ∷ lines

-- the octet that ends a line
abbrev pub is_line_feed : ℕ → Bool
is_line_feed b = b == 10

-- what stands between line feeds: the last line may lack its line feed, and an empty text has no line
abbrev pub parts_of : List ℕ → List (List ℕ)
parts_of [] = []
parts_of (b ∷ text) = if is_line_feed b then [] ∷ parts_of text else onto_first_line b (parts_of text)

-- the lines, each without the one carriage return (13) at its end, if it has one
abbrev pub lines_of : List ℕ → List (List ℕ)
lines_of text = map strip_carriage_return (parts_of text)
