-- A sample that can be read has as many nodes as it says.
use Rattle.std.proofs.Common.{◌≡◌, ◌∙◌, ℕ, zero, suc, Bool, true, false, if◌then◌else◌, List, Option, Some, None, ap, drop, length, nat_le, refl, sym}
use Rattle.std.specs.Prelude.{option_and_then}
use Rattle.std.specs.Option.{option_map}
use Rattle.rtps_ids.specs.declared.order.Order.{Order}
use Rattle.rtps_params.specs.Values as values
use Rattle.rtps_who.specs.Items as items
use Rattle.rtps_who.specs.Samples as samples
use Rattle.rtps_who.specs.declared.gids.Width.{Width}

items_count : {X : Type 0} (front : List ℕ → Option (X × List ℕ)) (count : ℕ) (octets rest : List ℕ) → items.rest_behind front count octets ≡ Some rest → length (items.items_in front count octets) ≡ count
items_count front zero octets rest is = refl
items_count {X} front (suc count) octets rest is = by (λ behind. items_count front count behind rest) (front octets) is
  where
    by : ((behind : List ℕ) → items.rest_behind front count behind ≡ Some rest → length (items.items_in front count behind) ≡ count) → (found : Option (X × List ℕ)) → option_and_then (λ one. items.rest_behind front count one.1) found ≡ Some rest → length (items.item_before found (items.items_in front count (items.behind_of found))) ≡ suc count
    by onward None is = absurd (let bad = is in cc)
    by onward (Some one) is = ap suc (onward one.1 is)

-- the sample of so many nodes
abbrev read_as : ℕ → List samples.EntryValue → samples.SampleValue
read_as n entries = record { count = n; entries = entries; only = samples.only_among n entries }

nodes_count : (order : Order) (width : Width) (octets : List ℕ) (sample : samples.SampleValue) → samples.nodes_in order width octets ≡ Some sample → length sample.entries ≡ sample.count
nodes_count order width octets sample is = counted (values.u32_of order octets) is
  where
    padded : (n : ℕ) (rest : List ℕ) (b : Bool) → items.rest_behind (samples.front_entry order width) n (drop 4 octets) ≡ Some rest
        → (if b then Some (read_as n (items.items_in (samples.front_entry order width) n (drop 4 octets))) else None) ≡ Some sample → length sample.entries ≡ sample.count
    padded n rest true was is =
        let same : read_as n (items.items_in (samples.front_entry order width) n (drop 4 octets)) ≡ sample = cc in
        sym (ap (λ s. length s.entries) same) ∙ items_count (samples.front_entry order width) n (drop 4 octets) rest was ∙ ap (λ s. s.count) same
    padded n rest false was is = absurd (let bad = is in cc)

    whole : (n : ℕ) (found : Option (List ℕ)) → items.rest_behind (samples.front_entry order width) n (drop 4 octets) ≡ found
        → option_and_then (λ (all : List samples.EntryValue × List ℕ). if nat_le (length all.1) 3 then Some (read_as n all.0) else None)
        (option_map (λ (rest : List ℕ). (items.items_in (samples.front_entry order width) n (drop 4 octets), rest)) found) ≡ Some sample
        → length sample.entries ≡ sample.count
    whole n None was is = absurd (let bad = is in cc)
    whole n (Some rest) was is = padded n rest (nat_le (length rest) 3) was is

    counted : (count : Option ℕ)
        → option_and_then (λ (n : ℕ). option_and_then (λ (all : List samples.EntryValue × List ℕ). if nat_le (length all.1) 3 then Some (read_as n all.0) else None)
        (option_map (λ (rest : List ℕ). (items.items_in (samples.front_entry order width) n (drop 4 octets), rest)) (items.rest_behind (samples.front_entry order width) n (drop 4 octets)))) count ≡ Some sample
        → length sample.entries ≡ sample.count
    counted None is = absurd (let bad = is in cc)
    counted (Some n) is = whole n (items.rest_behind (samples.front_entry order width) n (drop 4 octets)) refl is

pub samples_have_their_nodes : samples.SamplesHaveTheirNodes
samples_have_their_nodes payload sample is = ordered (samples.order_in payload) is
  where
    ordered : (order : Option Order) → option_and_then (λ o. samples.nodes_of o (drop 4 payload)) order ≡ Some sample → length sample.entries ≡ sample.count
    ordered None is = absurd (let bad = is in cc)
    ordered (Some order) is = nodes_count order (samples.width_of (drop 4 payload)) (drop (samples.size_of (samples.width_of (drop 4 payload))) (drop 4 payload)) sample is
