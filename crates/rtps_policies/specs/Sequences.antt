-- Lists of texts and of ids in the values of parameters. DDSI-RTPS 2.5, 10.2 "RTPS Serialized Payload" (CDR: a count of four
-- octets, and then the items; each text begins at a multiple of four octets). own: an id is read without its sign, since no id that has a
-- name is below 0.
use Rattle.std.specs.Prelude.{ℕ, zero, suc, ◌+◌, ◌-◌, ◌*◌, ◌/◌, ◌==◌, if◌then◌else◌, List, [], ◌∷◌, Option, Some, None, drop, length, nat_le, option_and_then, take}
use Rattle.rtps_ids.specs.Octets as octets_spec
use Rattle.rtps_ids.specs.declared.order.Order.{Order}
use Rattle.rtps_params.specs.Values as values
use Rattle.rtps_policies.specs.declared.layout.sequence.TheConstants as sequence

-- how many octets a text at the beginning takes, up to where the next one begins
abbrev pub text_room : Order → List ℕ → ℕ
text_room order octets = (sequence.LENGTH_SIZE + values.text_size order octets + (sequence.ALIGNMENT - 1)) / sequence.ALIGNMENT * sequence.ALIGNMENT

-- a text before others, if there is one
abbrev pub text_before : Option (List ℕ) → List (List ℕ) → List (List ℕ)
text_before None texts = []
text_before (Some text) texts = text ∷ texts

-- the texts at the beginning of octets, at most so many, up to one that cannot be read
abbrev pub texts_in : ℕ → Order → List ℕ → List (List ℕ)
texts_in zero order octets = []
texts_in (suc count) order octets = text_before (values.text_of order octets) (texts_in count order (drop (text_room order octets) octets))

-- so many names, if all of them are there. own: no name is one empty name, as where none is announced
abbrev pub names_of : ℕ → List (List ℕ) → Option (List (List ℕ))
names_of count texts = if count == 0 then Some ([] ∷ []) else if length texts == count then Some texts else None

-- the names of partitions in a value
abbrev pub partition_of : Order → List ℕ → Option (List (List ℕ))
partition_of order value = option_and_then (λ count. names_of count (texts_in count order (drop sequence.COUNT_SIZE value))) (values.u32_of order value)

-- the ids in octets, two for each
abbrev pub ids_in : Order → List ℕ → List ℕ
ids_in order [] = []
ids_in order (octet ∷ []) = []
ids_in order (octet ∷ other ∷ octets) = octets_spec.number_of order 2 (octet ∷ other ∷ octets) ∷ ids_in order octets

-- so many ids, if all of them are there
abbrev pub ids_of : Order → ℕ → List ℕ → Option (List ℕ)
ids_of order count octets = if nat_le (sequence.ID_SIZE * count) (length octets) then Some (ids_in order (take (sequence.ID_SIZE * count) octets)) else None

-- the ids of representations in a value
abbrev pub representations_of : Order → List ℕ → Option (List ℕ)
representations_of order value = option_and_then (λ count. ids_of order count (drop sequence.COUNT_SIZE value)) (values.u32_of order value)
