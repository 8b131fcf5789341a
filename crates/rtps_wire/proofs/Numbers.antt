-- The numbers that the items of a datagram tell are sequence numbers.
use Rattle.std.proofs.Common.{◌≡◌, ◌<◌, ◌≤◌, ◌+◌, ◌*◌, ◌^◌, ℕ, zero, suc, ℤ, pos, negsuc, Bool, true, false, List, [], ◌∷◌, length, drop, Option, Some, None, refl, arith, inl, inr}
use Rattle.std.specs.Prelude.{◌-◌, ◌==◌, ◌≤ℤ◌, ◌-ℤ◌, if◌then◌else◌, All, int_le, nat_lt, slice_index}
use Rattle.std.specs.Int.RustNames.{unsigned_abs}
use Rattle.std.proofs.lemmas.Bool.{cases_lt, ltb-true}
use Rattle.std.proofs.lemmas.Bool.Decides.{nat_tests}
use Rattle.std.proofs.lemmas.Int.{ints}
use Rattle.std.proofs.lemmas.List.{get_or-drop, get_or_past, length-drop}
use Rattle.std.proofs.lemmas.List.Elements.{All-cons, All-nil, All-take}
use Rattle.rtps_ids.specs.NumberSet as number_set
use Rattle.rtps_ids.specs.Octets as octets_spec
use Rattle.rtps_ids.specs.declared.order.Order.{Order}
use Rattle.rtps_wire.specs.AckNack as ack_nack
use Rattle.rtps_wire.specs.Data as data_spec
use Rattle.rtps_wire.specs.Gap as gap
use Rattle.rtps_wire.specs.Header as header_spec
use Rattle.rtps_wire.specs.Numbers as numbers
use Rattle.rtps_wire.specs.Heartbeat as heartbeat
use Rattle.rtps_wire.specs.Info as info
use Rattle.rtps_wire.specs.Message as message
use Rattle.rtps_wire.specs.Reading as reading
use Rattle.rtps_wire.specs.Values as values
use Rattle.rtps_wire.specs.declared.fault.WireFault.{WireFault}
use Rattle.rtps_wire.specs.declared.layout.data.TheConstants as data_layout
use Rattle.rtps_wire.specs.declared.layout.gap.TheConstants as gap_layout
use Rattle.rtps_wire.specs.declared.layout.header.TheConstants as header
use Rattle.rtps_wire.specs.declared.layout.heartbeat.TheConstants as heartbeat_layout
use Rattle.rtps_wire.specs.declared.layout.id.TheConstants as id_layout
use Rattle.rtps_wire.specs.declared.layout.submessage.TheConstants as submessage

abbrev pub AreOctets : List ℕ → Type 0
AreOctets octets = All (λ octet. octet < 256) octets

pub octets-drop : (octets : List ℕ) (at : ℕ) → AreOctets octets → AreOctets (drop at octets)
octets-drop octets at small k d inside =
    rw (get_or-drop at octets k d) (small (at + k) d (omega (arith, length-drop at octets)))

-- ---- numbers of octets

each_octet : (xs : List ℕ) → AreOctets xs → (k : ℕ) → slice_index xs k < 256
each_octet xs octets k = elim (cases_lt k (length xs)) [
  | inl within ↦ octets k 0 within
  | inr past ↦ rw (get_or_past xs k 0 past) (omega arith)
]

four_octets : (order : Order) (xs : List ℕ) → AreOctets xs → octets_spec.number_of order 4 xs < 2 ^ 32
unfolding octets_spec.number_of
four_octets Order.Big xs octets = omega (arith, each_octet xs octets 0, each_octet xs octets 1, each_octet xs octets 2, each_octet xs octets 3)
four_octets Order.Little xs octets = omega (arith, each_octet xs octets 0, each_octet xs octets 1, each_octet xs octets 2, each_octet xs octets 3)

-- 64 bits with a sign
abbrev signed : ℕ → ℤ
signed x = if nat_lt x (2 ^ 63) then pos x else pos x -ℤ pos (2 ^ 64)

signed_fits : (x : ℕ) → x < 2 ^ 64 → signed x ≤ℤ pos (2 ^ 63 - 1)
signed_fits x below = by_test (nat_lt x (2 ^ 63)) refl
  where
    by_test : (b : Bool) → nat_lt x (2 ^ 63) ≡ b → (if b then pos x else pos x -ℤ pos (2 ^ 64)) ≤ℤ pos (2 ^ 63 - 1)
    by_test true e = let low = ltb-true x (2 ^ 63) e in omega (arith, ints)
    by_test false e = omega (arith, ints)

-- a sequence number is below 2 ^ 63
number_fits : (order : Order) (xs : List ℕ) → AreOctets xs → octets_spec.sequence_number_of order xs ≤ℤ pos (2 ^ 63 - 1)
unfolding octets_spec.sequence_number_of
number_fits order xs octets =
    let high = four_octets order xs octets in
    let low = four_octets order (drop 4 xs) (octets-drop xs 4 octets) in
    signed_fits (octets_spec.number_of order 4 xs * 2 ^ 32 + octets_spec.number_of order 4 (drop 4 xs)) (omega arith)

abs_fits : (z : ℤ) → int_le z (pos 0) ≡ false → z ≤ℤ pos (2 ^ 63 - 1) → unsigned_abs z < 2 ^ 63
abs_fits (pos n) positive fits = omega (arith, ints, fits)
abs_fits (negsuc n) positive fits = cc

-- ---- bodies

data_fits : (order : Order) (flags : ℕ) (body : List ℕ) → AreOctets body → data_spec.data_fault order flags body ≡ None → numbers.IsOfNumbers (values.BodyValue.Data (data_spec.data_of order flags body))
data_fits order flags body octets none =
    let positive : int_le (data_spec.data_number order body) (pos 0) ≡ false = grind (arith, nat_tests) in
    abs_fits (data_spec.data_number order body) positive (number_fits order (drop data_layout.NUMBER body) (octets-drop body data_layout.NUMBER octets))

heartbeat_fits : (order : Order) (flags : ℕ) (body : List ℕ) → AreOctets body → heartbeat.heartbeat_fault order body ≡ None → numbers.IsOfNumbers (values.BodyValue.Heartbeat (heartbeat.heartbeat_of order flags body))
heartbeat_fits order flags body octets none =
    let positive : int_le (heartbeat.first_number order body) (pos 0) ≡ false = grind (arith, nat_tests) in
    abs_fits (heartbeat.first_number order body) positive (number_fits order (drop heartbeat_layout.FIRST body) (octets-drop body heartbeat_layout.FIRST octets))

-- a good set of a positive base ends where numbers do
set_end : (base : ℤ) (count : ℕ) → number_set.is_bad base count ≡ false → int_le base (pos 0) ≡ false → unsigned_abs base + count ≤ 2 ^ 63
unfolding number_set.is_bad
set_end (pos zero) count good positive = cc
set_end (pos (suc base)) count good positive = grind (arith, nat_tests)
set_end (negsuc base) count good positive = cc

gap_fits : (order : Order) (body : List ℕ) → gap.gap_fault order body ≡ None → numbers.IsOfNumbers (values.BodyValue.Gap (gap.gap_of order body))
gap_fits order body none =
    let good : number_set.is_bad (number_set.spelled_base order (drop gap_layout.LIST body)) (number_set.spelled_count order (drop gap_layout.LIST body)) ≡ false = grind (arith, nat_tests) in
    let positive : int_le (number_set.spelled_base order (drop gap_layout.LIST body)) (pos 0) ≡ false = grind (arith, nat_tests) in
    set_end (number_set.spelled_base order (drop gap_layout.LIST body)) (number_set.spelled_count order (drop gap_layout.LIST body)) good positive

-- by cases on the id
by_id : (b : Bool) (one other : Option WireFault) (body rest : values.BodyValue) → (one ≡ None → numbers.IsOfNumbers body) → (other ≡ None → numbers.IsOfNumbers rest)
    → (if b then one else other) ≡ None → numbers.IsOfNumbers (if b then body else rest)
by_id true one other body rest p q none = p none
by_id false one other body rest p q none = q none

body_fits : (id flags : ℕ) (body : List ℕ) → AreOctets body → message.body_fault id flags body ≡ None → numbers.IsOfNumbers (message.body_of id flags body)
body_fits id flags body octets =
    let order = message.order_of flags in
    by_id (id == id_layout.ACKNACK) (ack_nack.ack_nack_fault order body) _ (values.BodyValue.AckNack (ack_nack.ack_nack_of order flags body)) _ (λ none. tt)
    (by_id (id == id_layout.HEARTBEAT) (heartbeat.heartbeat_fault order body) _ (values.BodyValue.Heartbeat (heartbeat.heartbeat_of order flags body)) _ (λ none. heartbeat_fits order flags body octets none)
    (by_id (id == id_layout.GAP) (gap.gap_fault order body) _ (values.BodyValue.Gap (gap.gap_of order body)) _ (λ none. gap_fits order body none)
    (by_id (id == id_layout.INFO_TS) (info.info_ts_fault flags body) _ (values.BodyValue.InfoTs (info.info_ts_of order flags body)) _ (λ none. tt)
    (by_id (id == id_layout.INFO_SRC) (info.info_src_fault body) _ (message.source_value (info.info_src_of body)) _ (λ none. tt)
    (by_id (id == id_layout.INFO_DST) (info.info_dst_fault body) _ (values.BodyValue.InfoDst (info.info_dst_of body)) _ (λ none. tt)
    (by_id (id == id_layout.DATA) (data_spec.data_fault order flags body) None (values.BodyValue.Data (data_spec.data_of order flags body)) (values.BodyValue.Skipped id) (λ none. data_fits order flags body octets none)
    (λ none. tt)))))))

-- ---- items

no_fault : (cut over : Bool) (one other : WireFault) (rest : Option WireFault) → (if cut then Some one else if over then Some other else rest) ≡ None → rest ≡ None
no_fault true over one other rest none = cc
no_fault false true one other rest none = cc
no_fault false false one other rest none = none

item_fits : (rest : List ℕ) (at : ℕ) → AreOctets rest → message.fault_at rest ≡ None → numbers.TellsOfNumbers (message.item_at rest at)
unfolding message.fault_at message.item_at
item_fits rest at octets none =
    body_fits (message.id_of rest) (message.flags_of rest) (message.body_octets rest)
    (All-take (λ octet. octet < 256) (message.body_length rest) (drop submessage.SIZE rest) (octets-drop rest submessage.SIZE octets))
    (no_fault (nat_lt (length rest) submessage.SIZE) (nat_lt (length (drop submessage.SIZE rest)) (message.octets_to_next_header rest)) WireFault.CutHeader WireFault.Overrun _ none)

items_with : (more : List ℕ → ℕ → List reading.Outcome) (fault : Option WireFault) (rest : List ℕ) (at : ℕ) → AreOctets rest → message.fault_at rest ≡ fault
    → ((at' : ℕ) → All numbers.TellsOfNumbers (reading.items_among (more (message.next_rest rest) at'))) → All numbers.TellsOfNumbers (reading.items_among (reading.outcomes_with more fault rest at))
items_with more (Some fault) rest at octets is behind = All-nil numbers.TellsOfNumbers
items_with more None rest at octets is behind = All-cons numbers.TellsOfNumbers _ _ (item_fits rest at octets is) (behind (at + submessage.SIZE + message.body_length rest))

items_within : (n : ℕ) (rest : List ℕ) (at : ℕ) → AreOctets rest → All numbers.TellsOfNumbers (reading.items_among (reading.outcomes_within n rest at))
unfolding reading.outcomes_within
items_within zero rest at octets = All-nil numbers.TellsOfNumbers
items_within (suc n) [] at octets = All-nil numbers.TellsOfNumbers
items_within (suc n) (x ∷ xs) at octets =
    items_with (reading.outcomes_within n) (message.fault_at (x ∷ xs)) (x ∷ xs) at octets refl
    (λ at'. items_within n (message.next_rest (x ∷ xs)) at' (octets-drop (x ∷ xs) (submessage.SIZE + message.body_length (x ∷ xs)) octets))

items_read : (fault : Option WireFault) (datagram : List ℕ) → AreOctets datagram → All numbers.TellsOfNumbers (reading.reading_with fault datagram).items
unfolding reading.outcomes
items_read (Some fault) datagram octets = All-nil numbers.TellsOfNumbers
items_read None datagram octets =
    items_within (length (drop header.SIZE datagram)) (drop header.SIZE datagram) header.SIZE (octets-drop datagram header.SIZE octets)

pub numbers_fit : (datagram : List ℕ) → AreOctets datagram → All numbers.TellsOfNumbers (reading.reading_of datagram).items
unfolding reading.reading_of
numbers_fit datagram octets = items_read (header_spec.header_fault datagram) datagram octets
