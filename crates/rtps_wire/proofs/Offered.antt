-- Lemmas about the definitions of this crate, for the crates above it.
use Rattle.std.proofs.Common.{◌≡◌, ◌<◌, ℕ, All, List, [], ◌∷◌, Option, None, Some, Ok, Err, true, false, drop, length, map, arith, refl, sym, ◌∙◌}
use Rattle.std.specs.List.{concat, range_with_len}
use Rattle.rtps_wire.specs.DataFrag as data_frag
use Rattle.rtps_wire.specs.Dataless as dataless
use Rattle.rtps_wire.specs.Numbers as numbers
use Rattle.rtps_wire.specs.Message as message
use Rattle.rtps_wire.specs.Reading as reading
use Rattle.rtps_wire.specs.Skipped as skipped
use Rattle.rtps_wire.specs.Tally as tally
use Rattle.rtps_wire.specs.Values as values
use Rattle.rtps_wire.specs.declared.fault.Refusal.{Refusal}
use Rattle.rtps_wire.specs.declared.fault.WireFault.{WireFault}
use Rattle.rtps_wire.specs.declared.layout.id.TheConstants as id
use Rattle.rtps_wire.proofs.Fragments.{concat-parts_of, length-parts_in, lengths-parts_of, read_is_data_frag}
use Rattle.rtps_wire.proofs.Numbers.{numbers_fit}
use Rattle.rtps_wire.proofs.Places.{items_placed}
use Rattle.rtps_wire.proofs.Readings.{outcomes-done, outcomes-step}
pub use Rattle.rtps_wire.proofs.Numbers.{AreOctets, octets-drop}
pub use Rattle.rtps_wire.proofs.OneReading.{has_reading, one_reading}
pub use Rattle.rtps_wire.proofs.Readings.{fault_at-body}
pub use Rattle.rtps_wire.proofs.Submessages.{item_of_parts, whole_not_cut}

last_with : (more : List ℕ → ℕ → List reading.Outcome) (fault : Option WireFault) (rest : List ℕ) (at : ℕ) (refusal : Refusal) (behind : List reading.Outcome)
    → reading.outcomes_with more fault rest at ≡ Err refusal ∷ behind → behind ≡ []
last_with more (Some fault) rest at refusal behind same = cc
last_with more None rest at refusal behind same = cc

last_of : (rest : List ℕ) (at : ℕ) (refusal : Refusal) (behind : List reading.Outcome) → reading.outcomes rest at ≡ Err refusal ∷ behind → behind ≡ []
last_of [] at refusal behind same = let empty : reading.outcomes [] at ≡ [] = outcomes-done at in cc
last_of (x ∷ xs) at refusal behind same =
    last_with reading.outcomes _ (x ∷ xs) at refusal behind (sym (outcomes-step (x ∷ xs) at (omega arith)) ∙ same)

-- nothing is read behind a refusal
pub refusal_is_last : (unread : reading.Unread) (refusal : Refusal) (behind : List reading.Outcome) → reading.outcomes_left unread ≡ Err refusal ∷ behind → behind ≡ []
refusal_is_last unread = last_of unread.rest unread.at

at_with : (more : List ℕ → ℕ → List reading.Outcome) (fault : Option WireFault) (rest : List ℕ) (at : ℕ) (item : values.ItemValue) (later : List reading.Outcome)
    → reading.outcomes_with more fault rest at ≡ Ok item ∷ later → item.at ≡ at
unfolding message.item_at
at_with more (Some fault) rest at item later same = cc
at_with more None rest at item later same = cc

at_of : (rest : List ℕ) (at : ℕ) (item : values.ItemValue) (later : List reading.Outcome) → reading.outcomes rest at ≡ Ok item ∷ later → item.at ≡ at
at_of [] at item later same = let empty : reading.outcomes [] at ≡ [] = outcomes-done at in cc
at_of (x ∷ xs) at item later same =
    at_with reading.outcomes _ (x ∷ xs) at item later (sym (outcomes-step (x ∷ xs) at (omega arith)) ∙ same)

-- what is read next stands at the first unread octet
pub next_stands_at : (unread : reading.Unread) (item : values.ItemValue) (later : List reading.Outcome) → reading.outcomes_left unread ≡ Ok item ∷ later → item.at ≡ unread.at
next_stands_at unread = at_of unread.rest unread.at

-- the items of a datagram, which is octets, tell of sequence numbers alone
pub items_tell_of_numbers : (datagram : List ℕ) → All (λ octet. octet < 256) datagram → All numbers.TellsOfNumbers (reading.reading_of datagram).items
items_tell_of_numbers = numbers_fit

-- what is skipped next is an item of that id
pub skipped_first : (left : List reading.Outcome) (id : ℕ) → Some id ≡ skipped.skipped_next left → (item : values.ItemValue) × (item.body ≡ values.BodyValue.Skipped id) × (left ≡ Ok item ∷ drop 1 left)
skipped_first [] id is = cc
skipped_first (Err refusal ∷ later) id is = cc
skipped_first (Ok item ∷ later) id is = (item, body_skipped item.body id is, refl)
  where
    body_skipped : (body : values.BodyValue) (id : ℕ) → Some id ≡ skipped.skipped_id body → body ≡ values.BodyValue.Skipped id
    body_skipped (values.BodyValue.Skipped other) id is = cc
    body_skipped (values.BodyValue.Data value) id is = cc
    body_skipped (values.BodyValue.Heartbeat value) id is = cc
    body_skipped (values.BodyValue.AckNack value) id is = cc
    body_skipped (values.BodyValue.Gap value) id is = cc
    body_skipped (values.BodyValue.InfoTs time) id is = cc
    body_skipped (values.BodyValue.InfoDst prefix) id is = cc
    body_skipped (values.BodyValue.InfoSrc version vendor prefix) id is = cc

-- what is not skipped is not counted
pub not_counted : (body : values.BodyValue) → None ≡ skipped.skipped_id body → (tally.is_skipped body ≡ false) × (tally.is_fragment body ≡ false)
not_counted (values.BodyValue.Skipped id) none = cc
not_counted (values.BodyValue.Data value) none = (refl, refl)
not_counted (values.BodyValue.Heartbeat value) none = (refl, refl)
not_counted (values.BodyValue.AckNack value) none = (refl, refl)
not_counted (values.BodyValue.Gap value) none = (refl, refl)
not_counted (values.BodyValue.InfoTs time) none = (refl, refl)
not_counted (values.BodyValue.InfoDst prefix) none = (refl, refl)
not_counted (values.BodyValue.InfoSrc version vendor prefix) none = (refl, refl)

-- what is passed over next is an item without DATA that says nothing of the receiver's state
pub dataless_first : (left : List reading.Outcome) → true ≡ dataless.dataless_next left → (item : values.ItemValue) × (dataless.is_dataless item.body ≡ true) × (left ≡ Ok item ∷ drop 1 left)
dataless_first [] is = cc
dataless_first (Err refusal ∷ later) is = cc
dataless_first (Ok item ∷ later) is = (item, sym is, refl)

-- fragments that are read are some that their sample has, with as many octets as these have
pub fragments_of_sample : (rest : List ℕ) (value : data_frag.DataFragValue) → data_frag.data_frag_at rest ≡ Some value → data_frag.IsDataFrag value
fragments_of_sample = read_is_data_frag

-- they have as many parts as fragments
pub length-parts_of : (value : data_frag.DataFragValue) → length (data_frag.parts_of value) ≡ value.count
length-parts_of value = length-parts_in value.shape.fragment value.count value.octets

-- each part is as long as its fragment
pub parts_of_fragments : (value : data_frag.DataFragValue) → data_frag.IsDataFrag value → map length (data_frag.parts_of value) ≡ map (data_frag.fragment_length value.shape) (range_with_len value.first value.count)
parts_of_fragments = lengths-parts_of

-- the parts together are all octets
pub parts_together : (value : data_frag.DataFragValue) → data_frag.IsDataFrag value → concat (data_frag.parts_of value) ≡ value.octets
parts_together = concat-parts_of

-- only an item that is skipped as a DATA_FRAG has fragments at its place in the datagram
pub only_data_frags_have_fragments : (datagram : List ℕ)
    → All (λ item. (value : data_frag.DataFragValue) → data_frag.data_frag_at (drop item.at datagram) ≡ Some value → item.body ≡ values.BodyValue.Skipped id.DATA_FRAG) (reading.reading_of datagram).items
only_data_frags_have_fragments = items_placed
