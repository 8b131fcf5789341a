-- Which topics a pattern stands for. own: `*` stands for any octets, as in the names of files.
use Rattle.std.specs.Prelude.{ℕ, Bool, true, false, ◌≡◌, ◌↔◌, ◌==◌, ◌&&◌, ◌+◌, ◌++◌, if◌then◌else◌, drop, List, [], ◌∷◌, not, take}
use Rattle.std.specs.List.{list_all, list_any}

-- the octet of a pattern that stands for any octets: `*`
abbrev pub star : ℕ
star = 42

-- the text of a pattern where its `*`, from the first on, stand for these octets; further ones stand for none
abbrev pub filled : List ℕ → List (List ℕ) → List ℕ
filled [] fillings = []
filled (octet ∷ pattern) [] = if octet == star then filled pattern [] else octet ∷ filled pattern []
filled (octet ∷ pattern) (octets ∷ fillings) = if octet == star then octets ++ filled pattern fillings else octet ∷ filled pattern (octets ∷ fillings)

-- a topic is the text of a pattern for some octets
abbrev pub Fits : List ℕ → List ℕ → Type 0
Fits pattern topic = (fillings : List (List ℕ)) × (topic ≡ filled pattern fillings)

-- a text, and what is left of it behind each of its octets
abbrev pub ends_of : List ℕ → List (List ℕ)
ends_of [] = [] ∷ []
ends_of (octet ∷ text) = (octet ∷ text) ∷ ends_of text

-- a text begins with an octet, and what is left behind it passes
abbrev pub begins_with : ℕ → (List ℕ → Bool) → List ℕ → Bool
begins_with octet test [] = false
begins_with octet test (first ∷ text) = (first == octet) && test text

-- nothing is left of a text
abbrev pub is_empty : List ℕ → Bool
is_empty [] = true
is_empty (octet ∷ text) = false

-- whether a topic is the text of a pattern for some octets. That it says what `Fits` says is a law
abbrev pub fits : List ℕ → List ℕ → Bool
fits [] topic = is_empty topic
fits (octet ∷ pattern) topic = if octet == star then list_any (fits pattern) (ends_of topic) else begins_with octet (fits pattern) topic

-- the test says what the relation says
abbrev pub FitsAsFilled : Type 0
FitsAsFilled = (pattern topic : List ℕ) → (fits pattern topic ≡ true) ↔ Fits pattern topic

-- a part of a pattern has no `*`
abbrev pub is_plain : List ℕ → Bool
is_plain pattern = list_all (λ octet. not (octet == star)) pattern

-- the first octet of a text stands for any octets
abbrev pub is_starred : List ℕ → Bool
is_starred [] = false
is_starred (octet ∷ text) = octet == star

-- one text fits the part of a pattern up to a place, and another the part from there on; a `*` at the place belongs to both
abbrev pub parts_fit : List ℕ → ℕ → List ℕ → List ℕ → Bool
parts_fit pattern place one other =
    fits (if is_starred (drop place pattern) then take (place + 1) pattern else take place pattern) one && fits (drop place pattern) other
