-- Texts and ids, one after another.
use Rattle.std.proofs.Common.{◌≡◌, ◌∙◌, ℕ, suc, ◌+◌, ◌-◌, ◌<◌, List, [], ◌∷◌, Option, Some, None, ap, arith, drop, length, refl, sym, unwrap_or}
use Rattle.std.specs.Option.{option_map}
use Rattle.rtps_ids.specs.Octets as octets
use Rattle.rtps_ids.specs.declared.order.Order.{Order}
use Rattle.rtps_params.specs.Values as values
use Rattle.rtps_policies.specs.Sequences as sequences
use Rattle.rtps_policies.specs.Views as views
use Rattle.rtps_policies.specs.declared.partition.Partition.{Partition}

one_less : (count : ℕ) → 0 < count → count ≡ suc (count - 1)
one_less count some = omega arith

pub texts_step : (count : ℕ) (order : Order) (octets text behind : List ℕ) → 0 < count → values.text_of order octets ≡ Some text → behind ≡ drop (sequences.text_room order octets) octets
    → length (sequences.texts_in count order octets) ≡ 1 + length (sequences.texts_in (count - 1) order behind)
texts_step count order octets text behind some is after =
    ap (λ n. length (sequences.texts_in n order octets)) (one_less count some)
    ∙ ap (λ found. length (sequences.text_before found (sequences.texts_in (count - 1) order (drop (sequences.text_room order octets) octets)))) is
    ∙ ap (λ l. suc (length (sequences.texts_in (count - 1) order l))) (sym after) ∙ omega arith

pub texts_none : (count : ℕ) (order : Order) (octets : List ℕ) → 0 < count → values.text_of order octets ≡ None → sequences.texts_in count order octets ≡ []
texts_none count order octets some is =
    ap (λ n. sequences.texts_in n order octets) (one_less count some) ∙ ap (λ found. sequences.text_before found (sequences.texts_in (count - 1) order (drop (sequences.text_room order octets) octets))) is

-- one empty name
pub unnamed : sequences.texts_in 1 Order.Big (0 ∷ 0 ∷ 0 ∷ 0 ∷ []) ≡ [] ∷ []
unfolding octets.number_of
unnamed = refl

-- the names that were read, or those of a default
pub names_or : (found : Option Partition) (default : Partition) → views.partition_value default ≡ [] ∷ [] → views.partition_value (unwrap_or found default) ≡ unwrap_or (option_map views.partition_value found) ([] ∷ [])
names_or None default is = is
names_or (Some partition) default is = refl
