-- Values of parameters: a text, a GUID and a number. Each is at the beginning of a value, and octets after it are
-- ignored. DDSI-RTPS 2.5, 9.3.2 "Mapping of the Types that Appear Within Submessages or Built-in Topic Data".
use Rattle.std.specs.Prelude.{◌≡◌, ◌==◌, ◌⊎◌, ℕ, ◌+◌, ◌-◌, nat_le, ◌&&◌, if◌then◌else◌, List, [], ◌∷◌, ◌++◌, length, take, drop, slice_index, Option, Some, None}
use Rattle.rtps_ids.specs.Octets as octets
use Rattle.rtps_ids.specs.declared.identity.Guid.{Guid}
use Rattle.rtps_ids.specs.declared.order.Order.{Order}
use Rattle.rtps_params.specs.declared.layout.value.TheConstants as value_layout

-- a value that spells this name: a length of four octets, the name and a NUL; the length counts the NUL too. Octets
-- after that are ignored. own: a length of 0 spells the empty name too, although there is no NUL. own: a name may have
-- any octets, also NULs, since names are only compared.
pub record SpellsText (order : Order) (name value : List ℕ) : Type 0 where
  pub size : List ℕ
  pub behind : List ℕ
  pub four_octets : length size ≡ value_layout.NAME
  pub whole : value ≡ size ++ behind
  pub named :
      ((octets.number_of order 4 size ≡ length name + 1) × ((ignored : List ℕ) × (behind ≡ name ++ 0 ∷ ignored))) ⊎ ((octets.number_of order 4 size ≡ 0) × (name ≡ []))

-- the length at the beginning of a text
abbrev pub text_size : Order → List ℕ → ℕ
text_size order value = octets.number_of order 4 value

-- the name that a value spells, if it spells one
abbrev pub text_of : Order → List ℕ → Option (List ℕ)
text_of order value =
    if nat_le value_layout.NAME (length value)
    then (if text_size order value == 0 then Some []
    else if nat_le (value_layout.NAME + text_size order value) (length value) && (slice_index value (value_layout.NAME - 1 + text_size order value) == 0)
    then Some (take (text_size order value - 1) (drop value_layout.NAME value))
    else None)
    else None

-- the GUID in the first 16 octets: 12 of the prefix and 4 of the entity id (DDSI-RTPS 2.5, 9.3.1 "The Globally Unique
-- Identifier (GUID)")
abbrev pub guid_of : List ℕ → Option Guid
guid_of value =
    if nat_le (value_layout.PREFIX_SIZE + value_layout.ENTITY_SIZE) (length value)
    then Some (record { prefix = record { 0 = take value_layout.PREFIX_SIZE value }; entity = record { 0 = take value_layout.ENTITY_SIZE (drop value_layout.PREFIX_SIZE value) } })
    else None

-- the number in the first four octets
abbrev pub u32_of : Order → List ℕ → Option ℕ
u32_of order value = if nat_le value_layout.NUMBER_SIZE (length value) then Some (octets.number_of order 4 value) else None
