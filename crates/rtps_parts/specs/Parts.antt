-- A text is a list of parts. own: a person reads numbers, so thousands are set apart, and one thing is told as one.
use Rattle.std.specs.Prelude.{ℕ, ◌++◌, ◌%◌, ◌==◌, ◌&&◌, nat_lt, if◌then◌else◌, List, [], ◌∷◌, codes, decimal, length, replicate}
use Rattle.std.specs.List.{flat_map, join_by}
use Rattle.rtps_parts.specs.Names as names
use Rattle.rtps_parts.specs.RosNames as ros_names
use Rattle.rtps_parts.specs.declared.part.Part.{Part}
use Rattle.rtps_parts.specs.declared.part.Words.{Words}

-- a comma (44) before so many digits, where these are threes
abbrev pub comma_before : ℕ → List ℕ
comma_before digits = if nat_lt 0 digits && (digits % 3 == 0) then 44 ∷ [] else []

-- digits with commas between threes, counted from the last one
abbrev pub with_commas : List ℕ → List ℕ
with_commas [] = []
with_commas (digit ∷ digits) = digit ∷ (comma_before (length digits) ++ with_commas digits)

-- a number in decimal, with commas
abbrev pub grouped : ℕ → List ℕ
grouped number = with_commas (decimal number)

-- a number of a greater one
abbrev pub share : ℕ → ℕ → List ℕ
share some whole = grouped some ++ (codes " of " ++ grouped whole)

-- words for one of what is counted, and for another number of it
pub record WordsValue : Type 0 where
  pub one : List ℕ
  pub many : List ℕ

-- the words of the code, as a value
abbrev pub words_value : Words → WordsValue
words_value words = record { one = words.one.now; many = words.many.now }

-- those for so many
abbrev pub words_for : ℕ → WordsValue → List ℕ
words_for number words = if number == 1 then words.one else words.many

-- a number, and words for what is counted
abbrev pub amount : ℕ → WordsValue → List ℕ
amount number words = grouped number ++ 32 ∷ words_for number words

-- texts with a separator between each two
abbrev pub joined : List ℕ → List (List ℕ) → List ℕ
joined separator texts = join_by (λ text. text) separator texts

-- what a part is
abbrev pub part_text : Part → List ℕ
part_text (Part.Text text) = text.now
part_text (Part.Name octets) = flat_map names.octet_text octets.now
part_text (Part.TopicName topic) = ros_names.topic_text topic.now
part_text (Part.TypeName kind) = ros_names.type_text kind.now
part_text (Part.Grouped number) = grouped number
part_text (Part.Share some whole) = share some whole
part_text (Part.Amount number words) = amount number (words_value words)
part_text (Part.Spaces count) = replicate count 32
