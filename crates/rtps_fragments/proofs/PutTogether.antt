-- Payloads that fragments are put together to, by runs and by what came first.
use Rattle.std.proofs.Common.{◌≡◌, ℕ, suc, Bool, true, false, cond, ◌<◌, ◌≤◌, List, refl, sym, ◌∙◌, ap, subst}
use Rattle.std.specs.Prelude.{Contains}
use Rattle.std.specs.List.{filter_map}
use Rattle.rtps_wire.specs.Values as values
use Rattle.rtps_audit.proofs.Offered.{contains_mapped, mapped_contains}
use Rattle.rtps_fragments.specs.FragmentDelivery as fragment_delivery
use Rattle.rtps_wire.specs.declared.data_frag.Shape.{Shape}
use Rattle.rtps_wire.specs.DataFrag as data_frag
use Rattle.rtps_fragments.specs.Samples as samples
use Rattle.rtps_fragments.proofs.SampleLemmas.{ArePicks, AreWithin, sample_is_picked, some_sample}
use Rattle.rtps_fragments.proofs.ToldLemmas.{IsPut, came_is_there, fragment_of, there_came}

-- each of these fragments of number n has this
abbrev pub EachOf : ℕ → List fragment_delivery.Fragment → (fragment_delivery.Fragment → Type 0) → Type 0
EachOf n fragments has = (f : fragment_delivery.Fragment) → Contains fragments f → f.number ≡ n → has f

-- it is one from 1 to the last one of its shape
abbrev pub IsWithin : fragment_delivery.Fragment → Type 0
IsWithin f = (0 < f.index) × (f.index ≤ data_frag.last_fragment f.shape)

-- what came of a sample is of its fragments
pub came_within : (n : ℕ) (shape : Shape) (fragments : List fragment_delivery.Fragment) → EachOf n fragments IsWithin → AreWithin (data_frag.last_fragment shape) (filter_map (samples.came_of n shape) fragments)
came_within n shape fragments within one among = within (fragment_of n shape one) (came_is_there n shape fragments one among) refl

-- what is told is put together of them
pub put_of : (there : fragment_delivery.Fragment → Type 0) (n : ℕ) (fragments : List fragment_delivery.Fragment) → EachOf n fragments there → EachOf n fragments IsWithin → (payload : values.PayloadValue) → IsPut n fragments payload → fragment_delivery.IsPutTogether there n payload
put_of there n fragments each within payload (shape, among) =
    let came = filter_map (samples.came_of n shape) fragments in
    let (octets, told, is) = contains_mapped (fragment_delivery.payload_by shape) (samples.samples_of (data_frag.last_fragment shape) came) payload among in
    let (parts, all, some, picks, made) = sample_is_picked (data_frag.last_fragment shape) came octets (came_within n shape fragments within) told in
    record {
      shape = shape;
      parts = parts;
      some = some;
      all = all;
      each = λ i part at. each (fragment_of n shape (suc i, part)) (came_is_there n shape fragments (suc i, part) (picks i part at)) refl;
      payload_is = sym is ∙ ap (fragment_delivery.payload_by shape) made;
    }

-- where a payload is put together of them, what came are picks of it, and some payload of this shape is told
pub parts_picked : (n : ℕ) (fragments : List fragment_delivery.Fragment) (payload : values.PayloadValue) (put : fragment_delivery.IsPutTogether (Contains fragments) n payload) → ArePicks (filter_map (samples.came_of n put.shape) fragments) put.parts
parts_picked n fragments payload put i octets at = there_came n put.shape fragments (suc i, octets) (put.each i octets at)

pub some_of_shape : (n : ℕ) (fragments : List fragment_delivery.Fragment) (payload : values.PayloadValue) (put : fragment_delivery.IsPutTogether (Contains fragments) n payload) → (other : values.PayloadValue) × Contains (samples.payloads_of n put.shape fragments) other
some_of_shape n fragments payload put =
    let came = filter_map (samples.came_of n put.shape) fragments in
    let (octets, among) = some_sample came put.parts put.some (parts_picked n fragments payload put) in
    let placed = subst (λ last. Contains (samples.samples_of last came) octets) put.all among in
    (fragment_delivery.payload_by put.shape octets, mapped_contains (fragment_delivery.payload_by put.shape) (samples.samples_of (data_frag.last_fragment put.shape) came) octets placed)

pub some_put : (n : ℕ) (fragments : List fragment_delivery.Fragment) (payload : values.PayloadValue) → fragment_delivery.IsPutTogether (Contains fragments) n payload → (other : values.PayloadValue) × IsPut n fragments other
some_put n fragments payload put = let (other, among) = some_of_shape n fragments payload put in (other, (put.shape, among))

-- samples that differ are payloads that differ
pub payloads_differ : (shape : Shape) (x y : List ℕ) → (x ≡ y → ⊥) → fragment_delivery.payload_by shape x ≡ fragment_delivery.payload_by shape y → ⊥
payloads_differ shape x y differ same = by shape.is_key same
  where
    by : (key : Bool) → cond key (values.PayloadValue.Key x) (values.PayloadValue.Whole x) ≡ cond key (values.PayloadValue.Key y) (values.PayloadValue.Whole y) → ⊥
    by true e = differ (let h = e in cc)
    by false e = differ (let h = e in cc)
