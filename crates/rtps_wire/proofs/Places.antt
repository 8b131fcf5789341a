-- The fragments at the place of an item are those of a DATA_FRAG, which is skipped.
use Rattle.std.proofs.Common.{◌≡◌, ◌+◌, ℕ, zero, suc, Bool, true, false, All, List, [], ◌∷◌, Option, Some, None, length, drop, refl, ap, ◌∙◌, arith}
use Rattle.std.specs.Prelude.{◌==◌, ◌&&◌, is_none, if◌then◌else◌}
use Rattle.std.proofs.lemmas.Bool.Decides.{nat_tests}
use Rattle.std.proofs.lemmas.List.{drop-drop}
use Rattle.std.proofs.lemmas.List.Elements.{All-cons, All-nil}
use Rattle.rtps_wire.specs.DataFrag as data_frag
use Rattle.rtps_wire.specs.Header as header_spec
use Rattle.rtps_wire.specs.Message as message
use Rattle.rtps_wire.specs.Reading as reading
use Rattle.rtps_wire.specs.Values as values
use Rattle.rtps_wire.specs.declared.fault.WireFault.{WireFault}
use Rattle.rtps_wire.specs.declared.layout.header.TheConstants as header
use Rattle.rtps_wire.specs.declared.layout.id.TheConstants as id
use Rattle.rtps_wire.specs.declared.layout.submessage.TheConstants as submessage

-- where fragments are read, the item is skipped as a DATA_FRAG
skipped_at : (rest : List ℕ) (at : ℕ) (value : data_frag.DataFragValue) → data_frag.data_frag_at rest ≡ Some value → (message.item_at rest at).body ≡ values.BodyValue.Skipped id.DATA_FRAG
unfolding data_frag.data_frag_at message.item_at
skipped_at rest at value is = by (message.id_of rest == id.DATA_FRAG) (is_none (message.fault_at rest)) refl is
  where
    by : (b c : Bool) → (message.id_of rest == id.DATA_FRAG) ≡ b → (if b && c then data_frag.data_frag_in (message.order_of (message.flags_of rest)) (message.flags_of rest) (message.body_octets rest) else None) ≡ Some value
        → message.body_of (message.id_of rest) (message.flags_of rest) (message.body_octets rest) ≡ values.BodyValue.Skipped id.DATA_FRAG
    by true c e is =
        let id : message.id_of rest ≡ id.DATA_FRAG = grind (arith, nat_tests) in
        ap (λ id. message.body_of id (message.flags_of rest) (message.body_octets rest)) id
    by false c e is = cc

abbrev IsPlaced : List ℕ → values.ItemValue → Type 0
IsPlaced datagram item = (value : data_frag.DataFragValue) → data_frag.data_frag_at (drop item.at datagram) ≡ Some value → item.body ≡ values.BodyValue.Skipped id.DATA_FRAG

item_placed : (datagram rest : List ℕ) (at : ℕ) → rest ≡ drop at datagram → IsPlaced datagram (message.item_at rest at)
unfolding message.item_at
item_placed datagram rest at same value is = skipped_at rest at value (ap data_frag.data_frag_at same ∙ is)

placed_with : (datagram : List ℕ) (more : List ℕ → ℕ → List reading.Outcome) (fault : Option WireFault) (rest : List ℕ) (at : ℕ) → rest ≡ drop at datagram
    → ((at' : ℕ) → message.next_rest rest ≡ drop at' datagram → All (IsPlaced datagram) (reading.items_among (more (message.next_rest rest) at')))
    → All (IsPlaced datagram) (reading.items_among (reading.outcomes_with more fault rest at))
placed_with datagram more (Some fault) rest at same behind = All-nil (IsPlaced datagram)
placed_with datagram more None rest at same behind =
    let size = submessage.SIZE + message.body_length rest in
    let next : message.next_rest rest ≡ drop (at + submessage.SIZE + message.body_length rest) datagram =
    ap (drop size) same ∙ drop-drop size at datagram ∙ ap (λ n. drop n datagram) (omega arith) in
    All-cons (IsPlaced datagram) _ _ (item_placed datagram rest at same) (behind (at + submessage.SIZE + message.body_length rest) next)

placed_within : (datagram : List ℕ) (n : ℕ) (rest : List ℕ) (at : ℕ) → rest ≡ drop at datagram → All (IsPlaced datagram) (reading.items_among (reading.outcomes_within n rest at))
unfolding reading.outcomes_within
placed_within datagram zero rest at same = All-nil (IsPlaced datagram)
placed_within datagram (suc n) [] at same = All-nil (IsPlaced datagram)
placed_within datagram (suc n) (x ∷ xs) at same =
    placed_with datagram (reading.outcomes_within n) (message.fault_at (x ∷ xs)) (x ∷ xs) at same (λ at' next. placed_within datagram n (message.next_rest (x ∷ xs)) at' next)

placed_by : (fault : Option WireFault) (datagram : List ℕ) → All (IsPlaced datagram) (reading.reading_with fault datagram).items
unfolding reading.outcomes
placed_by (Some fault) datagram = All-nil (IsPlaced datagram)
placed_by None datagram = placed_within datagram (length (drop header.SIZE datagram)) (drop header.SIZE datagram) header.SIZE refl

-- of the items of a datagram, only those that are skipped as a DATA_FRAG have fragments at their place
pub items_placed : (datagram : List ℕ)
    → All (λ item. (value : data_frag.DataFragValue) → data_frag.data_frag_at (drop item.at datagram) ≡ Some value → item.body ≡ values.BodyValue.Skipped id.DATA_FRAG) (reading.reading_of datagram).items
unfolding reading.reading_of
items_placed datagram = placed_by (header_spec.header_fault datagram) datagram
