-- Texts, and properties, which are pairs of texts. DDSI-RTPS 2.5, 10.2 "RTPS Serialized Payload" (CDR: each text begins at a multiple of four
-- octets) and 9.6.3 (a property is a name and a value; a list is a count of four octets, and then the properties).
use Rattle.std.specs.Prelude.{ℕ, ◌+◌, ◌-◌, ◌*◌, ◌/◌, ◌==◌, Bool, if◌then◌else◌, List, [], ◌∷◌, Option, Some, None, drop, find, nat_eq, take}
use Rattle.std.specs.Cmp.Lexicographic.{pointwise}
use Rattle.std.specs.Option.{option_map}
use Rattle.rtps_ids.specs.declared.order.Order.{Order}
use Rattle.rtps_params.specs.Values as values
use Rattle.rtps_who.specs.Items as items
use Rattle.rtps_who.specs.Steps.{◌>>=◌}
use Rattle.rtps_who.specs.declared.layout.sequence.TheConstants as sequence

-- how many octets a text at the beginning takes, up to where the next item begins
abbrev pub text_room : Order → List ℕ → ℕ
text_room order octets = (sequence.LENGTH_SIZE + values.text_size order octets + (sequence.ALIGNMENT - 1)) / sequence.ALIGNMENT * sequence.ALIGNMENT

-- the text at the beginning, and what is from the next item on
abbrev pub front_text : Order → List ℕ → Option (List ℕ × List ℕ)
front_text order octets = option_map (λ text. (text, drop (text_room order octets) octets)) (values.text_of order octets)

-- a name and a value
pub record PropertyValue : Type 0 where
  pub name : List ℕ
  pub value : List ℕ

-- the property at the beginning
abbrev pub front_property : Order → List ℕ → Option (PropertyValue × List ℕ)
front_property order octets = do
  name ← front_text order octets
  value ← front_text order name.1
  Some (record { name = name.0; value = value.0 }, value.1)

-- the properties of a list, if all of them can be read; what is behind them is ignored
abbrev pub properties_of : Order → List ℕ → Option (List PropertyValue)
properties_of order value = do
  count ← values.u32_of order value
  all ← items.all_in (front_property order) count (drop sequence.COUNT_SIZE value)
  Some all.0

-- a property of this name
abbrev pub is_named : List ℕ → PropertyValue → Bool
is_named name property = pointwise nat_eq property.name name

-- the value of the first property of a name
abbrev pub value_among : List ℕ → List PropertyValue → Option (List ℕ)
value_among name properties = option_map (λ property. property.value) (find (is_named name) properties)

-- how many octets stand before the first such octet; None where there is none
abbrev pub place_of : ℕ → List ℕ → Option ℕ
place_of mark [] = None
place_of mark (octet ∷ octets) = if octet == mark then Some 0 else option_map (λ place. place + 1) (place_of mark octets)

-- the octets before the first such octet, and those behind it
abbrev pub front_piece : ℕ → List ℕ → Option (List ℕ × List ℕ)
front_piece mark octets = option_map (λ place. (take place octets, drop (place + 1) octets)) (place_of mark octets)
