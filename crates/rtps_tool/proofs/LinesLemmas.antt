-- Facts on the lines of a text.
use Rattle.std.proofs.Common.{◌≡◌, ℕ, zero, suc, ◌+◌, ◌-◌, ◌<◌, ◌≤◌, add-one, sym, ◌∙◌, ◌++◌, true, false, List, [], ◌∷◌, length, take, drop, map, get_or, refl, ap, arith, None, Some, inl, inr}
use Rattle.std.specs.List.{position, position_or_len}
use Rattle.std.specs.Str.Lines.{strip_carriage_return}
use Rattle.std.proofs.lemmas.List.{get_or-take, get_or-drop, length-take, length-take-le, length-drop}
use Rattle.std.proofs.lemmas.List.Quantifiers.{position-Some}
use Rattle.std.proofs.lemmas.Bool.{cases_lt}
use Rattle.std.proofs.lemmas.Bool.Decides.{nat_tests}
use Rattle.std.proofs.lemmas.List.Sums.{fails_before_first, position_or_len_is}
use Rattle.rtps_tool.specs.Lines as lines

-- a text with no line feed is one line, unless it is empty
pub parts_of-whole : (b : ℕ) (text : List ℕ) → ((k : ℕ) → k < length (b ∷ text) → lines.is_line_feed (get_or (b ∷ text) k 0) ≡ false)
    → lines.parts_of (b ∷ text) ≡ (b ∷ text) ∷ []
parts_of-whole b [] plain = let first : lines.is_line_feed b ≡ false = plain 0 (omega arith) in rw first refl
parts_of-whole b (c ∷ text) plain =
    let first : lines.is_line_feed b ≡ false = plain 0 (omega arith) in
    rw first (ap (lines.onto_first_line b) (parts_of-whole c text (λ k h. plain (suc k) (omega arith))))

-- where a search for a line feed finds none
none_is_feed : (text : List ℕ) → position lines.is_line_feed text ≡ None → (k : ℕ) → k < length text → lines.is_line_feed (get_or text k 0) ≡ false
none_is_feed text none k within =
    elim (cases_lt (position_or_len lines.is_line_feed text) (length text)) [
      | inl found ↦ let some : position lines.is_line_feed text ≡ Some (position_or_len lines.is_line_feed text) = grind (arith, nat_tests) in cc
      | inr past ↦ fails_before_first lines.is_line_feed text k 0 (omega arith)
    ]

-- where the first line feed stands
position_at : (text : List ℕ) (i : ℕ) → i < length text → lines.is_line_feed (get_or text i 0) ≡ true
    → ((k : ℕ) → k < i → lines.is_line_feed (get_or text k 0) ≡ false) → position lines.is_line_feed text ≡ Some i
position_at text i within feed before =
    let first = position_or_len_is lines.is_line_feed text i 0 (omega arith) before (λ _. feed) in
    rw first (grind (arith, nat_tests))

position_none : (text : List ℕ) → ((k : ℕ) → k < length text → lines.is_line_feed (get_or text k 0) ≡ false) → position lines.is_line_feed text ≡ None
position_none text plain =
    let none = position_or_len_is lines.is_line_feed text (length text) 0 (omega arith) plain (λ past. absurd (omega arith)) in
    rw none (grind (arith, nat_tests))

-- behind a beginning that has none, it is the first of the rest
none_before : (text : List ℕ) (known : ℕ) → known ≤ length text → position lines.is_line_feed (take known text) ≡ None → (k : ℕ) → k < known → lines.is_line_feed (get_or text k 0) ≡ false
none_before text known within none k early =
    ap lines.is_line_feed (sym (get_or-take known text k 0 early)) ∙ none_is_feed (take known text) none k (omega (arith, length-take-le known text within))

none_between : (text : List ℕ) (known size : ℕ) → known ≤ length text → position lines.is_line_feed (take known text) ≡ None
    → ((j : ℕ) → j < size → lines.is_line_feed (get_or (drop known text) j 0) ≡ false) → (k : ℕ) → k < known + size → lines.is_line_feed (get_or text k 0) ≡ false
none_between text known size within none rest k early =
    elim (cases_lt k known) [
      | inl before ↦ none_before text known within none k before
      | inr past ↦
          let place : known + (k - known) ≡ k = omega arith in
          ap (λ (n : ℕ). lines.is_line_feed (get_or text n 0)) (sym place) ∙ ap lines.is_line_feed (sym (get_or-drop known text (k - known) 0)) ∙ rest (k - known) (omega arith)
    ]

pub position-behind : (text : List ℕ) (known end : ℕ) → known ≤ length text → position lines.is_line_feed (take known text) ≡ None
    → position lines.is_line_feed (drop known text) ≡ Some end → position lines.is_line_feed text ≡ Some (known + end)
position-behind text known end within none found =
    let at = position-Some lines.is_line_feed (drop known text) end 0 found in
    position_at text (known + end) (omega (arith, at.0, length-drop known text)) (ap lines.is_line_feed (sym (get_or-drop known text end 0)) ∙ at.1) (none_between text known end within none at.2)

pub position-behind-none : (text : List ℕ) (known : ℕ) → known ≤ length text → position lines.is_line_feed (take known text) ≡ None
    → position lines.is_line_feed (drop known text) ≡ None → position lines.is_line_feed text ≡ None
position-behind-none text known within none rest =
    position_none text (λ k early. none_between text known (length text - known) within none (λ j lt. none_is_feed (drop known text) rest j (omega (arith, length-drop known text))) k (omega arith))

-- a beginning of a text without a line feed has none
pub position-take : (text : List ℕ) (n : ℕ) → position lines.is_line_feed text ≡ None → position lines.is_line_feed (take n text) ≡ None
position-take text n none =
    position_none (take n text) (λ k early.
    let within : k < n = omega (arith, length-take n text) in
    ap lines.is_line_feed (get_or-take n text k 0 within) ∙ none_is_feed text none k (omega (arith, length-take n text)))

-- a text without a line feed is one line
pub lines_of-whole : (text : List ℕ) → 0 < length text → position lines.is_line_feed text ≡ None → lines.lines_of text ≡ strip_carriage_return text ∷ []
lines_of-whole [] some none = absurd (omega arith)
lines_of-whole (b ∷ text) some none = ap (map strip_carriage_return) (parts_of-whole b text (none_is_feed (b ∷ text) none))

-- a text is cut behind its first line feed, whatever comes later
parts_of-append : (text later : List ℕ) (n : ℕ) → n < length text → lines.is_line_feed (get_or text n 0) ≡ true
    → ((k : ℕ) → k < n → lines.is_line_feed (get_or text k 0) ≡ false) → lines.parts_of (text ++ later) ≡ take n text ∷ lines.parts_of (drop (suc n) text ++ later)
parts_of-append [] later n within feed before = absurd (omega arith)
parts_of-append (b ∷ text) later zero within feed before = rw feed refl
parts_of-append (b ∷ text) later (suc n) within feed before =
    let plain : lines.is_line_feed b ≡ false = before 0 (omega arith) in
    let rest = parts_of-append text later n (omega arith) feed (λ k h. before (suc k) (omega arith)) in
    rw plain (ap (lines.onto_first_line b) rest)

pub lines_of-append : (text later : List ℕ) (n : ℕ) → position lines.is_line_feed text ≡ Some n
    → lines.lines_of (text ++ later) ≡ strip_carriage_return (take n text) ∷ lines.lines_of (drop (n + 1) text ++ later)
lines_of-append text later n found =
    let at = position-Some lines.is_line_feed text n 0 found in
    rw add-one (ap (map strip_carriage_return) (parts_of-append text later n at.0 at.1 at.2))

-- the first of parts, which may lack, and the others
abbrev pub first_part : List (List ℕ) → List ℕ
first_part [] = []
first_part (part ∷ parts) = part

abbrev pub later_parts : List (List ℕ) → List (List ℕ)
later_parts [] = []
later_parts (part ∷ parts) = parts

onto_first_line-is : (b : ℕ) (parts : List (List ℕ)) → lines.onto_first_line b parts ≡ (b ∷ first_part parts) ∷ later_parts parts
onto_first_line-is b [] = refl
onto_first_line-is b (part ∷ parts) = refl

parts_of-unfinished : (b : ℕ) (text later : List ℕ) → ((k : ℕ) → k < length (b ∷ text) → lines.is_line_feed (get_or (b ∷ text) k 0) ≡ false)
    → lines.parts_of (b ∷ text ++ later) ≡ (b ∷ text ++ first_part (lines.parts_of later)) ∷ later_parts (lines.parts_of later)
parts_of-unfinished b [] later plain = let first : lines.is_line_feed b ≡ false = plain 0 (omega arith) in rw first (onto_first_line-is b (lines.parts_of later))
parts_of-unfinished b (c ∷ text) later plain =
    let first : lines.is_line_feed b ≡ false = plain 0 (omega arith) in
    rw first (ap (lines.onto_first_line b) (parts_of-unfinished c text later (λ k h. plain (suc k) (omega arith))))

-- a text without a line feed begins the first line of whatever comes later
pub lines_of-unfinished : (b : ℕ) (text later : List ℕ) → position lines.is_line_feed (b ∷ text) ≡ None
    → lines.lines_of (b ∷ text ++ later) ≡ strip_carriage_return (b ∷ text ++ first_part (lines.parts_of later)) ∷ map strip_carriage_return (later_parts (lines.parts_of later))
lines_of-unfinished b text later none = ap (map strip_carriage_return) (parts_of-unfinished b text later (none_is_feed (b ∷ text) none))
