-- The flags that have a name for a kind are those that are written of what was read.
use Rattle.std.proofs.Common.{◌≡◌, ◌<◌, ◌+◌, ◌*◌, ◌^◌, ℕ, zero, suc, List, true, false, refl, ap, sym, ◌∙◌, arith, inl, inr}
use Rattle.std.specs.Prelude.{◌==◌, ◌&&◌, ◌⊎◌, bit_and, bit_or, not, Some, None, if◌then◌else◌}
use Rattle.std.specs.Int.{bit_at}
use Rattle.std.proofs.lemmas.Nat.{and_mask}
use Rattle.std.proofs.lemmas.Nat.Bits.{and_pow}
use Rattle.rtps_ids.specs.declared.identity.Stamp.{Stamp}
use Rattle.rtps_ids.specs.declared.order.Order.{Order}
use Rattle.rtps_params.specs.Lists as lists
use Rattle.rtps_wire.specs.Data as data_spec
use Rattle.rtps_wire.specs.Message as message
use Rattle.rtps_wire.specs.Values as values
use Rattle.rtps_write.specs.WrittenBodies as written_bodies
use Rattle.rtps_write.specs.Flags as flags_spec

-- a flag is set or not
abbrev IsFlag : ℕ → ℕ → Type 0
IsFlag flag found = (found ≡ 0) ⊎ (found ≡ flag)

one_bit : (bit flag : ℕ) → bit < 2 → IsFlag flag (bit * flag)
one_bit zero flag below = inl (omega arith)
one_bit (suc zero) flag below = inr (omega arith)
one_bit (suc (suc bit)) flag below = absurd (omega arith)

is_flag : (flags k flag : ℕ) → 2 ^ k ≡ flag → IsFlag flag (bit_and flags flag)
is_flag flags k flag is =
    let found : bit_and flags flag ≡ bit_at flags k * flag = ap (bit_and flags) (sym is) ∙ (and_pow flags k ∙ ap (λ n. bit_at flags k * n) is) in
    rw found (one_bit (bit_at flags k) flag (omega arith))

-- the low flags are those of each place
low_two : (flags : ℕ) → bit_and flags 3 ≡ bit_and flags 1 + bit_and flags 2
low_two flags = omega (arith, and_mask flags 2, and_pow flags 0, and_pow flags 1)

low_three : (flags : ℕ) → bit_and flags 7 ≡ bit_and flags 1 + (bit_and flags 2 + bit_and flags 4)
low_three flags = omega (arith, and_mask flags 3, and_pow flags 0, and_pow flags 1, and_pow flags 2)

low_four : (flags : ℕ) → bit_and flags 15 ≡ bit_and flags 1 + (bit_and flags 2 + (bit_and flags 4 + bit_and flags 8))
low_four flags = omega (arith, and_mask flags 4, and_pow flags 0, and_pow flags 1, and_pow flags 2, and_pow flags 3)

-- ---- each kind

abbrev told : ℕ → Order
told e = if e == 1 then Order.Little else Order.Big

plain : (e : ℕ) → IsFlag 1 e → e ≡ bit_or (flags_spec.order_flag (told e)) 0
plain e (inl p) = rw p refl
plain e (inr p) = rw p refl

pub plain_flags : (flags : ℕ) → bit_and flags 1 ≡ bit_or (flags_spec.order_flag (message.order_of flags)) 0
plain_flags flags = plain (bit_and flags 1) (is_flag flags 0 1 refl)

heartbeat : (e f l : ℕ) → IsFlag 1 e → IsFlag 2 f → IsFlag 4 l
    → e + (f + l) ≡ bit_or (flags_spec.order_flag (told e)) (bit_or (flags_spec.flag_if (not (f == 0)) 2) (flags_spec.flag_if (not (l == 0)) 4))
heartbeat e f l (inl p) (inl q) (inl r) = rw (p, q, r) refl
heartbeat e f l (inl p) (inl q) (inr r) = rw (p, q, r) refl
heartbeat e f l (inl p) (inr q) (inl r) = rw (p, q, r) refl
heartbeat e f l (inl p) (inr q) (inr r) = rw (p, q, r) refl
heartbeat e f l (inr p) (inl q) (inl r) = rw (p, q, r) refl
heartbeat e f l (inr p) (inl q) (inr r) = rw (p, q, r) refl
heartbeat e f l (inr p) (inr q) (inl r) = rw (p, q, r) refl
heartbeat e f l (inr p) (inr q) (inr r) = rw (p, q, r) refl

pub heartbeat_flags_read : (flags : ℕ) → bit_and flags 7
    ≡ bit_or (flags_spec.order_flag (message.order_of flags)) (bit_or (flags_spec.flag_if (not (bit_and flags 2 == 0)) 2) (flags_spec.flag_if (not (bit_and flags 4 == 0)) 4))
heartbeat_flags_read flags =
    low_three flags ∙ heartbeat (bit_and flags 1) (bit_and flags 2) (bit_and flags 4) (is_flag flags 0 1 refl) (is_flag flags 1 2 refl) (is_flag flags 2 4 refl)

ack_nack : (e f : ℕ) → IsFlag 1 e → IsFlag 2 f → e + f ≡ bit_or (flags_spec.order_flag (told e)) (flags_spec.flag_if (not (f == 0)) 2)
ack_nack e f (inl p) (inl q) = rw (p, q) refl
ack_nack e f (inl p) (inr q) = rw (p, q) refl
ack_nack e f (inr p) (inl q) = rw (p, q) refl
ack_nack e f (inr p) (inr q) = rw (p, q) refl

pub ack_nack_flags_read : (flags : ℕ) → bit_and flags 3 ≡ bit_or (flags_spec.order_flag (message.order_of flags)) (flags_spec.flag_if (not (bit_and flags 2 == 0)) 2)
ack_nack_flags_read flags = low_two flags ∙ ack_nack (bit_and flags 1) (bit_and flags 2) (is_flag flags 0 1 refl) (is_flag flags 1 2 refl)

time : (e i : ℕ) (stamp : Stamp) → IsFlag 1 e → IsFlag 2 i → e + i ≡ bit_or (flags_spec.order_flag (told e)) (written_bodies.info_ts_flags (if i == 0 then Some stamp else None))
time e i stamp (inl p) (inl q) = rw (p, q) refl
time e i stamp (inl p) (inr q) = rw (p, q) refl
time e i stamp (inr p) (inl q) = rw (p, q) refl
time e i stamp (inr p) (inr q) = rw (p, q) refl

pub time_flags_read : (flags : ℕ) (stamp : Stamp) → bit_and flags 3 ≡ bit_or (flags_spec.order_flag (message.order_of flags)) (written_bodies.info_ts_flags (if bit_and flags 2 == 0 then Some stamp else None))
time_flags_read flags stamp = low_two flags ∙ time (bit_and flags 1) (bit_and flags 2) stamp (is_flag flags 0 1 refl) (is_flag flags 1 2 refl)

data_case : (e q d k : ℕ) (list : lists.ListValue) (octets : List ℕ) → IsFlag 1 e → IsFlag 2 q → IsFlag 4 d → IsFlag 8 k → ((d == 4) && (k == 8)) ≡ false
    → e + (q + (d + k)) ≡ bit_or (flags_spec.order_flag (told e)) (bit_or (written_bodies.qos_flag (if q == 2 then Some list else None)) (written_bodies.payload_flag (if d == 4 then values.PayloadValue.Whole octets else if k == 8 then values.PayloadValue.Key octets else values.PayloadValue.Absent)))
data_case e q d k list octets (inl o) (inl p) (inl r) (inl s) one = rw (o, p, r, s) refl
data_case e q d k list octets (inl o) (inl p) (inl r) (inr s) one = rw (o, p, r, s) refl
data_case e q d k list octets (inl o) (inl p) (inr r) (inl s) one = rw (o, p, r, s) refl
data_case e q d k list octets (inl o) (inr p) (inl r) (inl s) one = rw (o, p, r, s) refl
data_case e q d k list octets (inl o) (inr p) (inl r) (inr s) one = rw (o, p, r, s) refl
data_case e q d k list octets (inl o) (inr p) (inr r) (inl s) one = rw (o, p, r, s) refl
data_case e q d k list octets (inr o) (inl p) (inl r) (inl s) one = rw (o, p, r, s) refl
data_case e q d k list octets (inr o) (inl p) (inl r) (inr s) one = rw (o, p, r, s) refl
data_case e q d k list octets (inr o) (inl p) (inr r) (inl s) one = rw (o, p, r, s) refl
data_case e q d k list octets (inr o) (inr p) (inl r) (inl s) one = rw (o, p, r, s) refl
data_case e q d k list octets (inr o) (inr p) (inl r) (inr s) one = rw (o, p, r, s) refl
data_case e q d k list octets (inr o) (inr p) (inr r) (inl s) one = rw (o, p, r, s) refl
data_case e q d k list octets o p (inr r) (inr s) one = let no : true ≡ false = rw (r, s) at one in cc

pub data_flags_read : (order : Order) (flags : ℕ) (list behind : List ℕ) → (data_spec.has_data flags && data_spec.has_key flags) ≡ false
    → bit_and flags 15 ≡ bit_or (flags_spec.order_flag (message.order_of flags)) (bit_or (written_bodies.qos_flag (data_spec.qos_of order flags list)) (written_bodies.payload_flag (data_spec.payload_of flags behind)))
data_flags_read order flags list behind one =
    low_four flags
    ∙ data_case (bit_and flags 1) (bit_and flags 2) (bit_and flags 4) (bit_and flags 8) _ behind (is_flag flags 0 1 refl) (is_flag flags 1 2 refl) (is_flag flags 2 4 refl) (is_flag flags 3 8 refl) one
