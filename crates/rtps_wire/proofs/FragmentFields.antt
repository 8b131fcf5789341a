-- What the reader of a DATA_FRAG has found is what the definitions name.
use Rattle.std.proofs.Common.{◌≡◌, ◌<◌, ◌≤◌, ◌+◌, ℕ, pos, Bool, true, false, List, Option, Some, None, length, drop, ap, refl, arith, ◌⊎◌, inl, inr}
use Rattle.std.specs.Prelude.{◌&&◌, int_lt, is_err, nat_le, not, if◌then◌else◌}
use Rattle.std.proofs.lemmas.Bool.Decides.{nat_tests}
use Rattle.rtps_ids.specs.Octets as octets_spec
use Rattle.rtps_ids.specs.declared.identity.EntityId.{EntityId}
use Rattle.rtps_ids.specs.declared.order.Order.{Order}
use Rattle.rtps_params.specs.Lists as lists
use Rattle.rtps_params.specs.Reading as reading
use Rattle.rtps_wire.specs.Data as data_spec
use Rattle.rtps_wire.specs.DataFrag as data_frag
use Rattle.rtps_wire.specs.Message as message
use Rattle.rtps_wire.specs.Skipped as skipped
use Rattle.rtps_wire.specs.declared.data_frag.Shape.{Shape}
use Rattle.rtps_wire.specs.declared.layout.id.TheConstants as id

-- what was read at an offset is there
pub read_there : {X : Type 0} (value : List ℕ → X) (width at : ℕ) (octets : List ℕ) (x : X) → Some x ≡ octets_spec.read_at value width octets at
    → (x ≡ value (drop at octets)) × (at + width ≤ length octets)
read_there value width at octets x is = by (nat_le (at + width) (length octets)) refl is
  where
    by : (b : Bool) → nat_le (at + width) (length octets) ≡ b → Some x ≡ (if b then Some (value (drop at octets)) else None) → (x ≡ value (drop at octets)) × (at + width ≤ length octets)
    by true e is = (cc, grind (arith, nat_tests))
    by false e is = cc

-- ---- the tests of a body

abbrev pub is_whole : List ℕ → Bool
is_whole body = nat_le 32 (length body)

abbrev pub is_behind_fields : Order → List ℕ → Bool
is_behind_fields order body = nat_le 32 (4 + data_spec.octets_to_inline_qos order body)

abbrev pub is_in_body : Order → List ℕ → Bool
is_in_body order body = nat_le (4 + data_spec.octets_to_inline_qos order body) (length body)

abbrev pub is_numbered : Order → List ℕ → Bool
is_numbered order body = int_lt (pos 0) (data_frag.sample_number order body)

abbrev pub lacks_list : Order → ℕ → List ℕ → Bool
lacks_list order flags body = data_spec.has_qos flags && is_err (reading.list_end order (data_spec.behind_fields order body))

abbrev pub has_fragments : Order → ℕ → List ℕ → Bool
has_fragments order flags body =
    data_frag.begins_with_fragments (data_frag.spelled_shape order flags body) (data_frag.starting_number order body) (data_frag.fragment_count order body) (data_frag.octets_behind order flags body)

-- the test of a body by its parts
by_tests : (a b c d e f : Bool) → (b ≡ false) ⊎ ((c ≡ false) ⊎ ((e ≡ false) ⊎ (f ≡ false))) → (a && b && c && d && e && f) ≡ false
by_tests a b c d e f (inl is) = grind (arith, nat_tests)
by_tests a b c d e f (inr (inl is)) = grind (arith, nat_tests)
by_tests a b c d e f (inr (inr (inl is))) = grind (arith, nat_tests)
by_tests a b c d e f (inr (inr (inr is))) = grind (arith, nat_tests)

none_in : (order : Order) (flags : ℕ) (body : List ℕ)
    → (is_behind_fields order body ≡ false) ⊎ ((is_in_body order body ≡ false) ⊎ ((not (lacks_list order flags body) ≡ false) ⊎ (has_fragments order flags body ≡ false)))
    → None ≡ data_frag.data_frag_in order flags body
none_in order flags body fails =
    let bad : data_frag.is_data_frag order flags body ≡ false =
    by_tests (is_whole body) (is_behind_fields order body) (is_in_body order body) (is_numbered order body) (not (lacks_list order flags body)) (has_fragments order flags body) fails in
    rw bad refl

-- octetsToInlineQos points into the fields, or past the body
pub bad_offset : (order : Order) (flags : ℕ) (body : List ℕ) → (4 + data_spec.octets_to_inline_qos order body < 32) ⊎ (length body < 4 + data_spec.octets_to_inline_qos order body)
    → None ≡ data_frag.data_frag_in order flags body
bad_offset order flags body (inl low) = none_in order flags body (inl (grind (arith, nat_tests)))
bad_offset order flags body (inr high) = none_in order flags body (inr (inl (grind (arith, nat_tests))))

-- there is no inline QoS where flag Q says so
pub bad_list : (order : Order) (flags : ℕ) (body : List ℕ) → lacks_list order flags body ≡ true → None ≡ data_frag.data_frag_in order flags body
bad_list order flags body is = none_in order flags body (inr (inr (inl (ap not is))))

-- the fragments are not there
pub bad_fragments : (order : Order) (flags : ℕ) (body : List ℕ) → has_fragments order flags body ≡ false → None ≡ data_frag.data_frag_in order flags body
bad_fragments order flags body is = none_in order flags body (inr (inr (inr is)))

all_hold : (a b c d e f : Bool) → a ≡ true → b ≡ true → c ≡ true → d ≡ true → e ≡ true → f ≡ true → (a && b && c && d && e && f) ≡ true
all_hold a b c d e f one two three four five six = rw (one, two, three, four, five, six) refl

-- a body that passes each test has the fragments that it spells
pub good_body : (order : Order) (flags : ℕ) (body : List ℕ) → 32 ≤ length body → 32 ≤ 4 + data_spec.octets_to_inline_qos order body → 4 + data_spec.octets_to_inline_qos order body ≤ length body
    → is_numbered order body ≡ true → lacks_list order flags body ≡ false → has_fragments order flags body ≡ true → Some (data_frag.data_frag_of order flags body) ≡ data_frag.data_frag_in order flags body
good_body order flags body whole low high numbered list fragments =
    let good : data_frag.is_data_frag order flags body ≡ true =
    all_hold (is_whole body) (is_behind_fields order body) (is_in_body order body) (is_numbered order body) (not (lacks_list order flags body)) (has_fragments order flags body)
    (grind (arith, nat_tests)) (grind (arith, nat_tests)) (grind (arith, nat_tests)) numbered (ap not list) fragments in
    rw good refl

pub same_value : (order : Order) (reader reader' writer writer' : EntityId) (number number' first first' count count' : ℕ) (qos qos' : Option lists.ListValue)
    (shape shape' : Shape) (octets octets' : List ℕ) → reader ≡ reader' → writer ≡ writer' → number ≡ number' → qos ≡ qos' → first ≡ first' → count ≡ count' → shape ≡ shape'
    → octets ≡ octets'
    → ◌≡◌ {A = data_frag.DataFragValue} (record { order = order; reader = reader; writer = writer; number = number; qos = qos; first = first; count = count; shape = shape; octets = octets })
    (record { order = order; reader = reader'; writer = writer'; number = number'; qos = qos'; first = first'; count = count'; shape = shape'; octets = octets' })
same_value order reader reader' writer writer' number number' first first' count count' qos qos' shape shape' octets octets' r w n q f c s o = rw (r, w, n, q, f, c, s, o) refl

-- ---- the submessage

-- another submessage, or one with a fault
pub none_of_other : (rest : List ℕ) → skipped.begins_with id.DATA_FRAG rest ≡ false → None ≡ data_frag.data_frag_at rest
unfolding data_frag.data_frag_at
none_of_other rest other = rw other refl

-- a DATA_FRAG without a fault
pub of_whole : (rest : List ℕ) → skipped.begins_with id.DATA_FRAG rest ≡ true → data_frag.data_frag_in (message.order_of (message.flags_of rest)) (message.flags_of rest) (message.body_octets rest) ≡ data_frag.data_frag_at rest
unfolding data_frag.data_frag_at
of_whole rest whole = rw whole refl
