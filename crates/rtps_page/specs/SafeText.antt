-- Texts that stand in a page of HTML as text, whatever a recording has. HTML Living Standard, 13.1.2 "Elements" and 13.1.4 "Character
-- references"; RFC 8259 "The JavaScript Object Notation (JSON) Data Interchange Format", 7 "Strings", for the escape of an octet in a string.
-- own: a tag or a character reference of HTML begins with one of three octets, so each of these is written as something else.
use Rattle.std.specs.Prelude.{ℕ, Bool, false, ◌≡◌, ◌==◌, ◌||◌, ◌++◌, if◌then◌else◌, List, [], ◌∷◌, codes, flat_map}
use Rattle.std.specs.List.{list_any}
use Rattle.rtps_page.specs.declared.safe_text.Place.{Place}

-- `&`, `<` or `>`
abbrev pub is_markup : ℕ → Bool
is_markup octet = (octet == 38) || (octet == 60) || (octet == 62)

-- what stands for an octet: itself, but for one of these its escape
unfoldable pub safe_octet : (ℕ → List ℕ) → ℕ → List ℕ
safe_octet escape octet = if is_markup octet then escape octet else octet ∷ []

-- and for a text
abbrev pub safe_text : (ℕ → List ℕ) → List ℕ → List ℕ
safe_text escape text = flat_map (safe_octet escape) text

-- in a string of JSON, so that it is read back as the octet
abbrev pub in_json : ℕ → List ℕ
in_json octet = if octet == 38 then codes "\\u0026" else if octet == 60 then codes "\\u003c" else codes "\\u003e"

-- in a text of HTML: its name
abbrev pub in_html : ℕ → List ℕ
in_html octet = if octet == 38 then codes "&amp;" else if octet == 60 then codes "&lt;" else codes "&gt;"

-- in a place of the page
abbrev pub escape_in : Place → ℕ → List ℕ
escape_in Place.Html = in_html
escape_in Place.Json = in_json

-- no octet of the text is one of the three
abbrev pub IsSafe : List ℕ → Type 0
IsSafe text = list_any is_markup text ≡ false

-- A browser shows the second text, which is HTML, as the first: each `&` in it begins the name of one of the three octets, and no `<`
-- and no `>` stands in it.
pub data IsShownAs : List ℕ → List ℕ → Type 0 where
  nothing : IsShownAs [] []
  ampersand : {text html : List ℕ} → IsShownAs text html → IsShownAs (38 ∷ text) (codes "&amp;" ++ html)
  less : {text html : List ℕ} → IsShownAs text html → IsShownAs (60 ∷ text) (codes "&lt;" ++ html)
  greater : {text html : List ℕ} → IsShownAs text html → IsShownAs (62 ∷ text) (codes "&gt;" ++ html)
  plain : {text html : List ℕ} → (octet : ℕ) → is_markup octet ≡ false → IsShownAs text html → IsShownAs (octet ∷ text) (octet ∷ html)
