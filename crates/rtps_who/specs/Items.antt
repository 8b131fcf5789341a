-- Items one after another, each from where the one before ends. DDSI-RTPS 2.5, 10.2 "RTPS Serialized Payload" (CDR: a count, and then the
-- items). `front` reads the item at the beginning of octets, and gives what is behind it.
use Rattle.std.specs.Prelude.{ℕ, zero, suc, List, [], ◌∷◌, Option, Some, None, option_and_then}
use Rattle.std.specs.Option.{option_map}

-- what is behind the first item; nothing where there is none
abbrev pub behind_of : {X : Type 0} → Option (X × List ℕ) → List ℕ
behind_of None = []
behind_of (Some found) = found.1

-- the first item before others, if there is one
abbrev pub item_before : {X : Type 0} → Option (X × List ℕ) → List X → List X
item_before None items = []
item_before (Some found) items = found.0 ∷ items

-- the items at the beginning of octets, at most so many, up to one that cannot be read
abbrev pub items_in : {X : Type 0} → (List ℕ → Option (X × List ℕ)) → ℕ → List ℕ → List X
items_in front zero octets = []
items_in front (suc count) octets = item_before (front octets) (items_in front count (behind_of (front octets)))

-- what is behind so many items, if all of them can be read
abbrev pub rest_behind : {X : Type 0} → (List ℕ → Option (X × List ℕ)) → ℕ → List ℕ → Option (List ℕ)
rest_behind front zero octets = Some octets
rest_behind front (suc count) octets = option_and_then (λ found. rest_behind front count found.1) (front octets)

-- so many items and what is behind them, if all of them can be read
abbrev pub all_in : {X : Type 0} → (List ℕ → Option (X × List ℕ)) → ℕ → List ℕ → Option (List X × List ℕ)
all_in front count octets = option_map (λ rest. (items_in front count octets, rest)) (rest_behind front count octets)
