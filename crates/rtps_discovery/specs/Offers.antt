-- What writers offer of reliability and durability, as numbers. own: readers are listed by the offers that writers
-- make, so that a writer is compared with no reader that asks for more than it offers.
use Rattle.std.specs.Prelude.{ℕ, ◌≡◌, ◌<◌, ◌+◌, ◌*◌, ◌/◌, ◌%◌, ◌&&◌, Bool, List, [], cond, filter, get_or, length, nat_eq, nat_le}
use Rattle.std.specs.List.{list_any}
use Rattle.std.specs.Global.{Vec}
use Rattle.rtps_discovery.specs.Matching as matching
use Rattle.rtps_discovery.specs.declared.endpoint.Endpoint.{Endpoint}

-- the number of an offer: each reliability with each durability has one
abbrev pub offer_of : Endpoint → ℕ
offer_of endpoint = 4 * matching.reliability_rank endpoint.reliability + matching.durability_rank endpoint.durability

-- a reader asks for no more than this offer
abbrev pub asks_within : ℕ → Endpoint → Bool
asks_within offer reader = nat_le (matching.reliability_rank reader.reliability) (offer / 4) && nat_le (matching.durability_rank reader.durability) (offer % 4)

-- a writer makes this offer
abbrev pub makes : ℕ → Endpoint → Bool
makes offer endpoint = matching.is_writer endpoint.side && nat_eq (offer_of endpoint) offer

-- the readers that ask for no more than an offer; no reader if no writer makes it
abbrev pub readers_within : List Endpoint → List Endpoint → ℕ → List Endpoint
readers_within endpoints readers offer = cond (list_any (makes offer) endpoints) (filter (asks_within offer) readers) []

-- for each of the first offers, the list of these readers
abbrev pub AreWithin : List Endpoint → List Endpoint → List (Vec Endpoint) → Type 0
AreWithin endpoints readers lists = (offer : ℕ) (d : Vec Endpoint) → offer < length lists → (get_or lists offer d).items ≡ readers_within endpoints readers offer
