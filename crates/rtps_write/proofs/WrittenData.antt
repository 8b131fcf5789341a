-- The flags, the inline QoS, the fields and the length of a DATA that is written.
use Rattle.std.proofs.Common.{◌≡◌, ◌+◌, ℕ, pos, List, ◌++◌, Bool, true, false, Option, Some, None, Ok, length, refl, ap, ◌∙◌, arith}
use Rattle.std.specs.Prelude.{◌&&◌, bit_or, is_err, is_some, not}
use Rattle.std.proofs.lemmas.List.{drop_at, length-append, take_at}
use Rattle.rtps_ids.proofs.Offered.{length-octets_of, length-sequence_number_octets}
use Rattle.rtps_ids.specs.declared.identity.EntityId.{EntityId}
use Rattle.rtps_ids.specs.declared.order.Order.{Order}
use Rattle.rtps_params.proofs.Offered.{end_of_list}
use Rattle.rtps_params.specs.Reading as reading
use Rattle.rtps_params.specs.Lists as lists
use Rattle.rtps_wire.specs.Data as data_spec
use Rattle.rtps_wire.specs.Values as values
use Rattle.rtps_write.specs.WrittenBodies as written_bodies
use Rattle.rtps_write.specs.Flags as flags
use Rattle.rtps_write.specs.Held as held

-- ---- the flags

abbrev pub is_whole : values.PayloadValue → Bool
is_whole (values.PayloadValue.Whole octets) = true
is_whole _ = false

abbrev pub is_key : values.PayloadValue → Bool
is_key (values.PayloadValue.Key octets) = true
is_key _ = false

pub flags_are : (order : Order) (qos : Option lists.ListValue) (payload : values.PayloadValue) → let flags = bit_or (flags.order_flag order) (bit_or (written_bodies.qos_flag qos) (written_bodies.payload_flag payload)) in
    (data_spec.has_qos flags ≡ is_some qos) × (data_spec.has_data flags ≡ is_whole payload) × (data_spec.has_key flags ≡ is_key payload)
flags_are Order.Big None values.PayloadValue.Absent = (refl, refl, refl)
flags_are Order.Big None (values.PayloadValue.Whole octets) = (refl, refl, refl)
flags_are Order.Big None (values.PayloadValue.Key octets) = (refl, refl, refl)
flags_are Order.Big (Some list) values.PayloadValue.Absent = (refl, refl, refl)
flags_are Order.Big (Some list) (values.PayloadValue.Whole octets) = (refl, refl, refl)
flags_are Order.Big (Some list) (values.PayloadValue.Key octets) = (refl, refl, refl)
flags_are Order.Little None values.PayloadValue.Absent = (refl, refl, refl)
flags_are Order.Little None (values.PayloadValue.Whole octets) = (refl, refl, refl)
flags_are Order.Little None (values.PayloadValue.Key octets) = (refl, refl, refl)
flags_are Order.Little (Some list) values.PayloadValue.Absent = (refl, refl, refl)
flags_are Order.Little (Some list) (values.PayloadValue.Whole octets) = (refl, refl, refl)
flags_are Order.Little (Some list) (values.PayloadValue.Key octets) = (refl, refl, refl)

pub one_kind : (payload : values.PayloadValue) → (is_whole payload && is_key payload) ≡ false
one_kind values.PayloadValue.Absent = refl
one_kind (values.PayloadValue.Whole octets) = refl
one_kind (values.PayloadValue.Key octets) = refl

-- ---- the inline QoS

pub record QosStands (order : Order) (flags : ℕ) (qos : Option lists.ListValue) (more : List ℕ) : Type 0 where
  pub good : (data_spec.has_qos flags && is_err (reading.list_end order (data_spec.qos_octets qos ++ more))) ≡ false
  pub same : data_spec.qos_of order flags (data_spec.qos_octets qos ++ more) ≡ qos
  pub behind : data_spec.behind_qos order flags (data_spec.qos_octets qos ++ more) ≡ more

same_order : (order other : Order) → not (lists.is_same_order order other) ≡ false → order ≡ other
same_order Order.Big Order.Big same = refl
same_order Order.Little Order.Little same = refl
same_order Order.Big Order.Little same = cc
same_order Order.Little Order.Big same = cc

qos_made : (order order' : Order) (octets octets' : List ℕ) → order ≡ order' → octets ≡ octets'
    → ◌≡◌ {A = lists.ListValue} (record { order = order; octets = octets }) (record { order = order'; octets = octets' })
qos_made order order' octets octets' p q = cc

pub qos_stands : (order : Order) (flags : ℕ) (qos : Option lists.ListValue) (more : List ℕ) → data_spec.has_qos flags ≡ is_some qos → held.IsHeldQos qos → written_bodies.is_other_order order qos ≡ false
    → QosStands order flags qos more
qos_stands order flags None more flag held same = record { good = rw flag refl; same = rw flag refl; behind = rw flag refl }
qos_stands order flags (Some list) more flag held same =
    let orders = same_order order list.order same in
    let end : reading.list_end order (list.octets ++ more) ≡ Ok (length list.octets) =
    ap (λ o. reading.list_end o (list.octets ++ more)) orders ∙ end_of_list list.order (reading.pairs_of list.order list.octets) list.octets more held in
    record {
      good = rw (flag, end) refl;
      same = rw (flag, end) (ap Some (qos_made order list.order _ list.octets orders (take_at list.octets more (length list.octets) refl)));
      behind = rw (flag, end) (drop_at list.octets more (length list.octets) refl);
    }

-- ---- the whole

pub made : (reader reader' writer writer' : EntityId) (number number' : ℕ) (qos qos' : Option lists.ListValue) (payload payload' : values.PayloadValue)
    → reader ≡ reader' → writer ≡ writer' → number ≡ number' → qos ≡ qos' → payload ≡ payload'
    → ◌≡◌ {A = values.DataValue}
    (record { reader = reader; writer = writer; number = number; qos = qos; payload = payload })
    (record { reader = reader'; writer = writer'; number = number'; qos = qos'; payload = payload' })
made reader reader' writer writer' number number' qos qos' payload payload' p q r s t = cc

pub data_long : (order : Order) (body : values.DataValue) → held.IsHeldData body → length (written_bodies.data_octets order body) ≡ 20 + (length (data_spec.qos_octets body.qos) + length (written_bodies.payload_octets body.payload))
data_long order body held =
    let r = held.reader in
    let w = held.writer in
    let o = length-octets_of order 2 16 in
    let n = length-sequence_number_octets order (pos body.number) in
    omega (arith, length-append {A = ℕ})
