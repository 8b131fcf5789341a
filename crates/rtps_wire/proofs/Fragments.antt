-- The fragments of a sample, and their octets.
use Rattle.std.proofs.Common.{◌≡◌, ◌<◌, ◌≤◌, ◌+◌, ◌-◌, ◌*◌, ◌/◌, ℕ, zero, suc, Bool, true, false, List, [], ◌∷◌, ◌++◌, Some, None, length, map, take, drop, refl, ap, ap₂, subst, ◌∙◌, arith, suc-mul, add-mul, mul-le-mul_right, div-mul-le_self, length-drop, ◌⊎◌, inl, inr}
use Rattle.std.specs.Prelude.{◌==◌, ◌&&◌, min, is_none, not, if◌then◌else◌}
use Rattle.std.specs.List.{concat, range_with_len}
use Rattle.std.proofs.lemmas.Bool.Decides.{nat_tests}
use Rattle.std.proofs.lemmas.List.{length-take, length-take-le, take-append-drop}
use Rattle.rtps_ids.specs.declared.order.Order.{Order}
use Rattle.rtps_wire.specs.DataFrag as data_frag
use Rattle.rtps_wire.specs.Message as message
use Rattle.rtps_wire.specs.declared.data_frag.Shape.{Shape}
use Rattle.rtps_wire.proofs.FragmentFields.{has_fragments, is_behind_fields, is_in_body, is_numbered, is_whole, lacks_list}
use Rattle.rtps_wire.specs.declared.layout.id.TheConstants as id

-- ---- where fragments begin and end

-- all but the last fragment end before the sample does
pub ends_within : (sample fragment i : ℕ) → 0 < fragment → i < (sample + fragment - 1) / fragment → i * fragment < sample
ends_within sample fragment i some below =
    let all : suc i * fragment ≤ (sample + fragment - 1) / fragment * fragment = mul-le-mul_right fragment below in
    omega (arith, all, suc-mul i fragment, div-mul-le_self (sample + fragment - 1) fragment)

-- fragments begin at an octet that the sample has, and before they end
pub begins_within : (sample fragment before last : ℕ) → 0 < fragment → before < last → last ≤ (sample + fragment - 1) / fragment
    → before * fragment < min sample (last * fragment)
begins_within sample fragment before last some ordered within =
    let own : before * fragment < sample = ends_within sample fragment before some (omega arith) in
    let next : suc before * fragment ≤ last * fragment = mul-le-mul_right fragment ordered in
    omega (arith, own, next, suc-mul before fragment)

-- ---- what is read

-- what the test says of a sample's fragments
begun : (shape : Shape) (first count : ℕ) (octets : List ℕ) → data_frag.begins_with_fragments shape first count octets ≡ true
    → (0 < shape.sample) × (0 < shape.fragment) × (0 < first) × (0 < count) × (first + count ≤ data_frag.last_fragment shape + 1)
    × (data_frag.fragments_length shape first (first + count - 1) ≤ length octets)
begun shape first count octets is = grind (arith, nat_tests)

-- the last of the tests of a body
last_test : (a b c d e f : Bool) → (a && b && c && d && e && f) ≡ true → f ≡ true
last_test a b c d e f is = grind (arith, nat_tests)

of_body : (order : Order) (flags : ℕ) (body : List ℕ) → data_frag.is_data_frag order flags body ≡ true → data_frag.IsDataFrag (data_frag.data_frag_of order flags body)
of_body order flags body is =
    let fits : has_fragments order flags body ≡ true =
    last_test (is_whole body) (is_behind_fields order body) (is_in_body order body) (is_numbered order body) (not (lacks_list order flags body)) (has_fragments order flags body) is in
    let facts = begun (data_frag.spelled_shape order flags body) (data_frag.starting_number order body) (data_frag.fragment_count order body) (data_frag.octets_behind order flags body) fits in
    record {
      sample = facts.0;
      fragment = facts.1;
      first = facts.2;
      count = facts.3;
      last = facts.4;
      octets = length-take-le (data_frag.spelled_length order flags body) (data_frag.octets_behind order flags body) facts.5;
    }

read_in : (order : Order) (flags : ℕ) (body : List ℕ) (value : data_frag.DataFragValue) → data_frag.data_frag_in order flags body ≡ Some value → data_frag.IsDataFrag value
read_in order flags body value is = by (data_frag.is_data_frag order flags body) refl is
  where
    by : (b : Bool) → data_frag.is_data_frag order flags body ≡ b → (if b then Some (data_frag.data_frag_of order flags body) else None) ≡ Some value → data_frag.IsDataFrag value
    by true e is = let same : data_frag.data_frag_of order flags body ≡ value = cc in subst data_frag.IsDataFrag same (of_body order flags body e)
    by false e is = cc

-- all fragments that are read are fragments of their sample
pub read_is_data_frag : (rest : List ℕ) (value : data_frag.DataFragValue) → data_frag.data_frag_at rest ≡ Some value → data_frag.IsDataFrag value
unfolding data_frag.data_frag_at
read_is_data_frag rest value is = by (message.id_of rest == id.DATA_FRAG && is_none (message.fault_at rest)) is
  where
    by : (b : Bool) → (if b then data_frag.data_frag_in (message.order_of (message.flags_of rest)) (message.flags_of rest) (message.body_octets rest) else None) ≡ Some value → data_frag.IsDataFrag value
    by true is = read_in (message.order_of (message.flags_of rest)) (message.flags_of rest) (message.body_octets rest) value is
    by false is = cc

-- ---- fragment by fragment

-- there are as many parts as fragments
pub length-parts_in : (fragment count : ℕ) (octets : List ℕ) → length (data_frag.parts_in fragment count octets) ≡ count
length-parts_in fragment zero octets = refl
length-parts_in fragment (suc count) octets = ap suc (length-parts_in fragment count (drop fragment octets))

-- the parts together are the octets, if there are no more than the fragments have room for
concat-parts_in : (fragment count : ℕ) (octets : List ℕ) → length octets ≤ count * fragment → concat (data_frag.parts_in fragment count octets) ≡ octets
concat-parts_in fragment zero [] few = refl
concat-parts_in fragment zero (x ∷ xs) few = absurd (omega arith)
concat-parts_in fragment (suc count) octets few =
    let fewer : length (drop fragment octets) ≤ count * fragment = omega (arith, few, suc-mul count fragment, length-drop fragment octets) in
    ap (λ behind. take fragment octets ++ behind) (concat-parts_in fragment count (drop fragment octets) fewer) ∙ take-append-drop fragment octets

head_length : (sample fragment before behind : ℕ) → (behind ≡ 0) ⊎ (before + fragment < sample)
    → min fragment (min sample (before + fragment + behind) - before) ≡ min sample (before + fragment) - before
head_length sample fragment before behind (inl none) = omega arith
head_length sample fragment before behind (inr within) = omega arith

-- each part is as long as its fragment
lengths : (shape : Shape) → 0 < shape.fragment → (count first last : ℕ) (octets : List ℕ) → 0 < first → last + 1 ≡ first + count → last ≤ data_frag.last_fragment shape
    → length octets ≡ data_frag.fragments_length shape first last → map length (data_frag.parts_in shape.fragment count octets) ≡ map (data_frag.fragment_length shape) (range_with_len first count)
lengths shape some zero first last octets positive ends within is = refl
lengths shape some (suc count) first last octets positive ends within is =
    let fragment = shape.fragment in
    let before = (first - 1) * fragment in
    let own : first * fragment ≡ before + fragment = ap (λ n. n * fragment) (omega arith) ∙ suc-mul (first - 1) fragment in
    let all : last * fragment ≡ first * fragment + count * fragment = ap (λ n. n * fragment) (omega arith) ∙ add-mul first count fragment in
    let next : (first + 1 - 1) * fragment ≡ first * fragment = ap (λ n. n * fragment) (omega arith) in
    let head : length (take fragment octets) ≡ data_frag.fragment_length shape first =
    omega (arith, length-take fragment octets, is, own, all, head_length shape.sample fragment before (count * fragment) (either count (omega arith))) in
    let rest : length (drop fragment octets) ≡ data_frag.fragments_length shape (first + 1) last = omega (arith, length-drop fragment octets, is, own, next) in
    ap₂ ◌∷◌ head (lengths shape some count (first + 1) last (drop fragment octets) (omega arith) (omega arith) within rest)
  where
    either : (count : ℕ) → first + count ≤ data_frag.last_fragment shape → (count * shape.fragment ≡ 0) ⊎ ((first - 1) * shape.fragment + shape.fragment < shape.sample)
    either zero within = inl (omega arith)
    either (suc count) within =
        let own : first * shape.fragment ≡ (first - 1) * shape.fragment + shape.fragment = ap (λ n. n * shape.fragment) (omega arith) ∙ suc-mul (first - 1) shape.fragment in
        inr (omega (arith, own, ends_within shape.sample shape.fragment first some (omega arith)))

-- each part of what is read is as long as its fragment
pub lengths-parts_of : (value : data_frag.DataFragValue) → data_frag.IsDataFrag value → map length (data_frag.parts_of value) ≡ map (data_frag.fragment_length value.shape) (range_with_len value.first value.count)
lengths-parts_of value is =
    lengths value.shape is.fragment value.count value.first (value.first + value.count - 1) value.octets is.first
    (omega (arith, is.first)) (omega (arith, is.last)) is.octets

-- the parts of what is read are together its octets
pub concat-parts_of : (value : data_frag.DataFragValue) → data_frag.IsDataFrag value → concat (data_frag.parts_of value) ≡ value.octets
concat-parts_of value is =
    let fragment = value.shape.fragment in
    let all : (value.first + value.count - 1) * fragment ≡ (value.first - 1) * fragment + value.count * fragment =
    ap (λ n. n * fragment) (omega (arith, is.first)) ∙ add-mul (value.first - 1) value.count fragment in
    concat-parts_in fragment value.count value.octets (omega (arith, is.octets, all))
