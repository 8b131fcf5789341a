-- A message is read as what it spells.
use Rattle.std.proofs.Common.{◌≡◌, ◌<◌, ◌≤◌, ◌+◌, ◌*◌, ℕ, suc, ℤ, pos, List, [], ◌∷◌, ◌++◌, Bool, true, false, Option, None, Some, All, length, map, take, drop, get_or, slice_index, refl, ap, sym, subst, ◌∙◌, append_assoc, arith}
use Rattle.std.specs.Prelude.{◌==◌, ◌||◌, ◌-ℤ◌, ◌≤ℤ◌, bit_and, bit_or, int_le, int_lt, nat_lt, not, if◌then◌else◌}
use Rattle.std.specs.Int.RustNames.{unsigned_abs}
use Rattle.std.specs.List.{flat_map}
use Rattle.std.proofs.lemmas.Bool.Decides.{nat_tests}
use Rattle.std.proofs.lemmas.Int.{ints}
use Rattle.std.proofs.lemmas.List.{drop-drop, drop_at, get_or-drop, length-append, length-drop, take_at}
use Rattle.std.proofs.lemmas.Nat.{and_assoc}
use Rattle.rtps_ids.proofs.Offered.{length-octets_of, length-sequence_number_octets, number-octets_of}
use Rattle.rtps_ids.specs.NumberSet as number_set
use Rattle.rtps_ids.specs.Octets as octets_spec
use Rattle.rtps_ids.specs.declared.identity.GuidPrefix.{GuidPrefix}
use Rattle.rtps_ids.specs.declared.identity.Stamp.{Stamp}
use Rattle.rtps_ids.specs.declared.identity.Vendor.{Vendor}
use Rattle.rtps_ids.specs.declared.identity.Version.{Version}
use Rattle.rtps_ids.specs.declared.order.Order.{Order}
use Rattle.rtps_wire.proofs.Offered.{one_reading, fault_at-body, item_of_parts}
use Rattle.rtps_wire.specs.AckNack as ack_nack
use Rattle.rtps_wire.specs.Data as data_spec
use Rattle.rtps_wire.specs.Gap as gap
use Rattle.rtps_wire.specs.Header as header_spec
use Rattle.rtps_wire.specs.Heartbeat as heartbeat
use Rattle.rtps_wire.specs.Info as info
use Rattle.rtps_wire.specs.Message as message_spec
use Rattle.rtps_wire.specs.Reading as reading_spec
use Rattle.rtps_wire.specs.Skipped as skipped
use Rattle.rtps_wire.specs.Values as values
use Rattle.rtps_wire.specs.declared.body.AckNackBody.{AckNackBody}
use Rattle.rtps_wire.specs.declared.body.GapBody.{GapBody}
use Rattle.rtps_wire.specs.declared.body.HeartbeatBody.{HeartbeatBody}
use Rattle.rtps_wire.specs.declared.header.Header.{Header}
use Rattle.rtps_write.proofs.WrittenAckNack.{final_flag as ack_nack_final, made as ack_nack_made}
use Rattle.rtps_write.proofs.WrittenBodies.{order_same}
use Rattle.rtps_write.proofs.WrittenData.{flags_are, is_key, is_whole, made as data_made, one_kind, qos_stands}
use Rattle.rtps_write.proofs.WrittenFields.{entity_read, past, sequence_number_read, taken, word_read}
use Rattle.rtps_write.proofs.WrittenGap.{made as gap_made}
use Rattle.rtps_write.proofs.WrittenHeartbeat.{final_flag, live_flag, made as heartbeat_made}
use Rattle.rtps_write.proofs.WrittenInfo.{stamp_made}
use Rattle.rtps_write.proofs.WrittenHeader.{header_good, header_same}
use Rattle.rtps_write.proofs.WrittenSets.{SpellsSet as SetRead, cleared_words_same, length-words, made as set_made, words_read}
use Rattle.rtps_write.specs.WrittenBodies as written_bodies
use Rattle.rtps_write.specs.Flags as flags_spec
use Rattle.rtps_write.specs.Written as written
use Rattle.rtps_write.specs.Held as held_spec
use Rattle.rtps_write.specs.Spelling as spelling

-- ---- places

-- behind a field that stands at a place
next_place : (octets field rest : List ℕ) (at next : ℕ) → drop at octets ≡ field ++ rest → at + length field ≡ next → drop next octets ≡ rest
next_place octets field rest at next found is =
    ap (λ n. drop n octets) (sym is) ∙ (sym (drop-drop (length field) at octets) ∙ (ap (drop (length field)) found ∙ drop_at field rest (length field) refl))

-- the octets reach behind it
reach : (octets field rest : List ℕ) (at next : ℕ) → drop at octets ≡ field ++ rest → at + length field ≡ next → 0 < length field → next ≤ length octets
reach octets field rest at next found is some =
    let long : length (drop at octets) ≡ length field + length rest = ap length found ∙ length-append field rest in
    omega (arith, long, length-drop at octets)

not_short : (size least : ℕ) → least ≤ size → nat_lt size least ≡ false
not_short size least enough = grind (arith, nat_tests)

-- ---- flags

-- a named flag is that of the named flags together
kept_flag : (flags mask flag found : ℕ) → bit_and mask flag ≡ flag → bit_and flags mask ≡ found → bit_and flags flag ≡ bit_and found flag
kept_flag flags mask flag found part is = ap (bit_and flags) (sym part) ∙ (sym (and_assoc flag flags mask) ∙ ap (λ n. bit_and n flag) is)

has_order : (value : values.BodyValue) → bit_and (spelling.named_flags value) 1 ≡ 1
has_order (values.BodyValue.Data value) = refl
has_order (values.BodyValue.Heartbeat value) = refl
has_order (values.BodyValue.AckNack value) = refl
has_order (values.BodyValue.Gap value) = refl
has_order (values.BodyValue.InfoTs time) = refl
has_order (values.BodyValue.InfoDst prefix) = refl
has_order (values.BodyValue.InfoSrc version vendor prefix) = refl
has_order (values.BodyValue.Skipped id) = refl

order_is : (order : Order) (value : values.BodyValue) (flags : ℕ) → bit_and flags (spelling.named_flags value) ≡ written.written_flags order value → message_spec.order_of flags ≡ order
order_is order value flags named =
    let told : ℕ → Order = λ n. if n == 1 then Order.Little else Order.Big in
    ap told (kept_flag flags (spelling.named_flags value) 1 (written.written_flags order value) (has_order value) named) ∙ order_same order value

-- ---- a set

record SetReads (order : Order) (set : number_set.NumberSetValue) (field octets : List ℕ) : Type 0 where
  long : length field ≡ number_set.octets_of_count set.count
  read : SetRead order set octets

set_reads : (order : Order) (set : number_set.NumberSetValue) (field rest octets : List ℕ) → held_spec.IsHeldSet set → spelling.SpellsSet order set field → octets ≡ field ++ rest → SetReads order set field octets
set_reads order set field rest octets held spelled is =
    let b = octets_spec.sequence_number_octets order (pos set.base) in
    let c = octets_spec.octets_of order 4 set.count in
    let ws = flat_map (octets_spec.octets_of order 4) spelled.words in
    let stands : octets ≡ b ++ (c ++ (ws ++ rest)) = is ∙ (ap (λ xs. xs ++ rest) spelled.parts ∙ (append_assoc b (c ++ ws) rest ∙ ap (λ xs. b ++ xs) (append_assoc c ws rest))) in
    let b_long = length-sequence_number_octets order (pos set.base) in
    let c_long = length-octets_of order 4 set.count in
    let ws_long = length-words order spelled.words in
    let many = spelled.many in
    let low = held.kept.low in
    let few = held.kept.few in
    let whole_long : length field ≡ length b + (length c + length ws) = ap length spelled.parts ∙ (length-append b (c ++ ws) ∙ ap (λ n. length b + n) (length-append c ws)) in
    let base_is : number_set.spelled_base order octets ≡ pos set.base = sequence_number_read order (pos set.base) (c ++ (ws ++ rest)) octets (omega (arith, ints)) (omega (arith, ints)) stands in
    let behind_base = λ (at : ℕ). ap (drop (8 + at)) stands ∙ past b (c ++ (ws ++ rest)) (8 + at) at (omega arith) in
    let count_is : number_set.spelled_count order octets ≡ set.count = word_read order set.count (ws ++ rest) (drop 8 octets) (omega arith) (behind_base 0) in
    let small = spelled.small in
    let word_is : (i : ℕ) → 32 * i < set.count → number_set.spelled_word order octets i ≡ slice_index spelled.words i = λ i before.
    ap (λ n. octets_spec.number_of order 4 (drop n octets)) (word_place i)
    ∙ (ap (octets_spec.number_of order 4) (behind_base (4 + 4 * i) ∙ past c (ws ++ rest) (4 + 4 * i) (4 * i) (omega arith))
    ∙ words_read order spelled.words rest i (λ k h. small k 0 h) (omega arith)) in
    let words_are = ap (λ n. number_set.cleared_words n (λ i. number_set.spelled_word order octets i)) count_is
    ∙ (cleared_words_same set.count _ _ word_is ∙ sym spelled.kept) in
    record { long = omega arith; read = record { base = base_is; count = count_is; whole = set_made _ _ _ _ _ _ (ap unsigned_abs base_is) count_is words_are } }
  where
    word_place : (i : ℕ) → 12 + 4 * i ≡ 8 + (4 + 4 * i)
    word_place i = omega arith

-- ---- bodies

heartbeat_tests : (first size : ℕ) (last : ℤ) → 28 ≤ size → 0 < first → (int_lt last (pos 0) || int_lt last (pos first -ℤ pos 1)) ≡ false
    → (nat_lt size 28 ≡ false) × ((int_le (pos first) (pos 0) || int_lt last (pos 0)) ≡ false) × (int_lt last (pos first -ℤ pos 1) ≡ false)
heartbeat_tests first size last p q r = (grind (arith, nat_tests), grind (arith, nat_tests), grind (arith, nat_tests))

heartbeat_reads : (order : Order) (flags : ℕ) (body : HeartbeatBody) (octets : List ℕ) → held_spec.IsHeldHeartbeat body → spelling.SpellsHeartbeat order body octets
    → bit_and flags 7 ≡ bit_or (flags_spec.order_flag order) (written_bodies.heartbeat_flags body) → (heartbeat.heartbeat_fault order octets ≡ None) × (heartbeat.heartbeat_of order flags octets ≡ body)
heartbeat_reads order flags body octets held spelled named =
    let r = held.reader in
    let w = held.writer in
    let f = length-sequence_number_octets order (pos body.first) in
    let l = length-sequence_number_octets order body.last in
    let c = length-octets_of order 4 body.count in
    let from_count = octets_spec.octets_of order 4 body.count ++ spelled.ignored in
    let from_last = octets_spec.sequence_number_octets order body.last ++ from_count in
    let from_first = octets_spec.sequence_number_octets order (pos body.first) ++ from_last in
    let from_writer = body.writer.0 ++ from_first in
    let at_writer = next_place octets body.reader.0 from_writer 0 4 spelled.parts (omega arith) in
    let at_first = next_place octets body.writer.0 from_first 4 8 at_writer (omega arith) in
    let at_last = next_place octets (octets_spec.sequence_number_octets order (pos body.first)) from_last 8 16 at_first (omega arith) in
    let at_count = next_place octets (octets_spec.sequence_number_octets order body.last) from_count 16 24 at_last (omega arith) in
    let long = reach octets (octets_spec.octets_of order 4 body.count) spelled.ignored 24 28 at_count (omega arith) (omega arith) in
    let range = spelled.range in
    let low : pos 0 ≤ℤ body.last = grind (arith, nat_tests) in
    let n = held.first in
    let first_is : heartbeat.first_number order octets ≡ pos body.first = sequence_number_read order (pos body.first) from_last (drop 8 octets) (omega (arith, ints)) (omega (arith, ints)) at_first in
    let last_is : heartbeat.last_number order octets ≡ body.last = sequence_number_read order body.last from_count (drop 16 octets) low held.last at_last in
    let tests = heartbeat_tests body.first (length octets) body.last long n.0 range in (
      rw (first_is, last_is, tests.0, tests.1, tests.2) refl,
      heartbeat_made _ _ _ _ _ _ _ _ _ _ _ _ _ _
          (entity_read body.reader 0 from_writer octets r spelled.parts)
          (entity_read body.writer 4 from_first octets w at_writer)
          (ap unsigned_abs first_is)
          last_is
          (word_read order body.count spelled.ignored (drop 24 octets) held.count at_count)
          (ap (λ n. not (n == 0)) (kept_flag flags 7 2 _ refl named) ∙ final_flag order body.is_final body.live)
          (ap (λ n. not (n == 0)) (kept_flag flags 7 4 _ refl named) ∙ live_flag order body.is_final body.live),
    )

ack_nack_reads : (order : Order) (flags : ℕ) (body : AckNackBody) (octets : List ℕ) → held_spec.IsHeldAckNack body → spelling.SpellsAckNack order body octets
    → bit_and flags 3 ≡ bit_or (flags_spec.order_flag order) (written_bodies.ack_nack_flags body) → (ack_nack.ack_nack_fault order octets ≡ None) × (ack_nack.ack_nack_of order flags octets ≡ body)
ack_nack_reads order flags body octets held spelled named =
    let r = held.reader in
    let w = held.writer in
    let c = length-octets_of order 4 body.count in
    let from_count = octets_spec.octets_of order 4 body.count ++ spelled.ignored in
    let from_set = spelled.set ++ from_count in
    let from_writer = body.writer.0 ++ from_set in
    let size = number_set.octets_of_count body.set.count in
    let at_writer = next_place octets body.reader.0 from_writer 0 4 spelled.parts (omega arith) in
    let at_set = next_place octets body.writer.0 from_set 4 8 at_writer (omega arith) in
    let set = set_reads order body.set spelled.set from_count (drop 8 octets) held.set spelled.spelled at_set in
    let s = set.long in
    let at_count = next_place octets spelled.set from_count 8 (8 + size) at_set (omega arith) in
    let long = reach octets (octets_spec.octets_of order 4 body.count) spelled.ignored (8 + size) (8 + size + 4) at_count (omega arith) (omega arith) in
    let short = not_short (length octets) 24 (omega arith) in
    let cut = not_short (length octets) (8 + size + 4) long in
    let good = spelled.spelled.good in
    let count_at = ap (λ n. drop (8 + number_set.octets_of_count n) octets) set.read.count ∙ at_count in (
      rw (set.read.base, set.read.count, good, short, cut) refl,
      ack_nack_made _ _ _ _ _ _ _ _ _ _
          (entity_read body.reader 0 from_writer octets r spelled.parts)
          (entity_read body.writer 4 from_set octets w at_writer)
          set.read.whole
          (word_read order body.count spelled.ignored _ held.count count_at)
          (ap (λ n. not (n == 0)) (kept_flag flags 3 2 _ refl named) ∙ ack_nack_final order body.is_final),
    )

gap_tests : (start base : ℕ) → 0 < start → (base == 0) ≡ false → (int_le (pos start) (pos 0) ≡ false) × (int_le (pos base) (pos 0) ≡ false)
gap_tests start base p q = (grind (arith, nat_tests), grind (arith, nat_tests))

gap_reads : (order : Order) (body : GapBody) (octets : List ℕ) → held_spec.IsHeldGap body → spelling.SpellsGap order body octets → (gap.gap_fault order octets ≡ None) × (gap.gap_of order octets ≡ body)
gap_reads order body octets held spelled =
    let r = held.reader in
    let w = held.writer in
    let n = held.start in
    let s = length-sequence_number_octets order (pos body.start) in
    let from_list = spelled.list ++ spelled.ignored in
    let from_start = octets_spec.sequence_number_octets order (pos body.start) ++ from_list in
    let from_writer = body.writer.0 ++ from_start in
    let size = number_set.octets_of_count body.list.count in
    let at_writer = next_place octets body.reader.0 from_writer 0 4 spelled.parts (omega arith) in
    let at_start = next_place octets body.writer.0 from_start 4 8 at_writer (omega arith) in
    let at_list = next_place octets (octets_spec.sequence_number_octets order (pos body.start)) from_list 8 16 at_start (omega arith) in
    let list = set_reads order body.list spelled.list spelled.ignored (drop 16 octets) held.list spelled.spelled at_list in
    let l = list.long in
    let long = reach octets spelled.list spelled.ignored 16 (16 + size) at_list (omega arith) (omega arith) in
    let short = not_short (length octets) 28 (omega arith) in
    let cut = not_short (length octets) (16 + size) long in
    let good = spelled.spelled.good in
    let start_is : gap.start_number order octets ≡ pos body.start = sequence_number_read order (pos body.start) from_list (drop 8 octets) (omega (arith, ints)) (omega (arith, ints)) at_start in
    let tests = gap_tests body.start body.list.base n.0 spelled.positive in (
      rw (start_is, list.read.base, list.read.count, good, short, cut, tests.0, tests.1) refl,
      gap_made _ _ _ _ _ _ _ _
          (entity_read body.reader 0 from_writer octets r spelled.parts)
          (entity_read body.writer 4 from_start octets w at_writer)
          (ap unsigned_abs start_is)
          list.read.whole,
    )

i_flag : (order : Order) (time : Option Stamp) → bit_and (bit_or (flags_spec.order_flag order) (written_bodies.info_ts_flags time)) 2 ≡ written_bodies.info_ts_flags time
i_flag Order.Big None = refl
i_flag Order.Little None = refl
i_flag Order.Big (Some stamp) = refl
i_flag Order.Little (Some stamp) = refl

time_reads : (order : Order) (flags : ℕ) (time : Option Stamp) (octets : List ℕ) → held_spec.IsHeldTime time → spelling.SpellsTime order time octets
    → bit_and flags 3 ≡ bit_or (flags_spec.order_flag order) (written_bodies.info_ts_flags time) → (info.info_ts_fault flags octets ≡ None) × (info.info_ts_of order flags octets ≡ time)
time_reads order flags None octets held spelled named =
    let i : bit_and flags 2 ≡ 2 = kept_flag flags 3 2 _ refl named ∙ i_flag order None in
    (rw i refl, rw i refl)
time_reads order flags (Some stamp) octets held (ignored, parts) named =
    let i : bit_and flags 2 ≡ 0 = kept_flag flags 3 2 _ refl named ∙ i_flag order (Some stamp) in
    let s = length-octets_of order 4 stamp.seconds in
    let f = length-octets_of order 4 stamp.fraction in
    let from_fraction = octets_spec.octets_of order 4 stamp.fraction ++ ignored in
    let at_fraction = next_place octets (octets_spec.octets_of order 4 stamp.seconds) from_fraction 0 4 parts (omega arith) in
    let long = reach octets (octets_spec.octets_of order 4 stamp.fraction) ignored 4 8 at_fraction (omega arith) (omega arith) in
    let short = not_short (length octets) 8 long in (
      rw (i, short) refl,
      rw i (ap Some (stamp_made _ _ _ _ (word_read order stamp.seconds from_fraction octets held.0 parts) (word_read order stamp.fraction ignored (drop 4 octets) held.1 at_fraction))),
    )

destination_reads : (prefix : GuidPrefix) (octets : List ℕ) → length prefix.0 ≡ 12 → spelling.SpellsDestination prefix octets → (info.info_dst_fault octets ≡ None) × (info.info_dst_of octets ≡ prefix)
destination_reads prefix octets held (ignored, parts) =
    let long = reach octets prefix.0 ignored 0 12 parts (omega arith) (omega arith) in
    let short = not_short (length octets) 12 long in
    let made : List ℕ → GuidPrefix = λ xs. record { 0 = xs } in
    (rw short refl, ap made (taken prefix.0 ignored octets 12 held parts))

source_made : (major major' minor minor' : ℕ) (vendor vendor' prefix prefix' : List ℕ) → major ≡ major' → minor ≡ minor' → vendor ≡ vendor' → prefix ≡ prefix'
    → ◌≡◌ {A = Header}
    (record { version = record { major = major; minor = minor }; vendor = record { 0 = vendor }; prefix = record { 0 = prefix } })
    (record { version = record { major = major'; minor = minor' }; vendor = record { 0 = vendor' }; prefix = record { 0 = prefix' } })
source_made major major' minor minor' vendor vendor' prefix prefix' p q r s = cc

source_reads : (version : Version) (vendor : Vendor) (prefix : GuidPrefix) (octets : List ℕ) → length vendor.0 ≡ 2 → length prefix.0 ≡ 12 → spelling.SpellsSource version vendor prefix octets
    → (info.info_src_fault octets ≡ None) × (◌≡◌ {A = Header} (info.info_src_of octets) (record { version = version; vendor = vendor; prefix = prefix }))
source_reads version vendor prefix octets v p spelled =
    let from_prefix = prefix.0 ++ spelled.ignored in
    let from_vendor = vendor.0 ++ from_prefix in
    let both = version.major ∷ version.minor ∷ [] in
    let u = spelled.four in
    let at_version : drop 4 octets ≡ version.major ∷ version.minor ∷ from_vendor = next_place octets spelled.unused (version.major ∷ version.minor ∷ from_vendor) 0 4 spelled.parts (omega arith) in
    let at_vendor = next_place octets both from_vendor 4 6 at_version refl in
    let at_prefix = next_place octets vendor.0 from_prefix 6 8 at_vendor (omega arith) in
    let long = reach octets prefix.0 spelled.ignored 8 20 at_prefix (omega arith) (omega arith) in
    let short = not_short (length octets) 20 long in
    let major_is : slice_index octets 4 ≡ version.major = sym (get_or-drop 4 octets 0 0) ∙ ap (λ xs. get_or xs 0 0) at_version in
    let minor_is : slice_index octets 5 ≡ version.minor = sym (get_or-drop 4 octets 1 0) ∙ ap (λ xs. get_or xs 1 0) at_version in
    (rw short refl, source_made _ _ _ _ _ _ _ _ major_is minor_is (taken vendor.0 from_prefix (drop 6 octets) 2 v at_vendor) (taken prefix.0 spelled.ignored (drop 8 octets) 12 p at_prefix))

data_tests : (size number offset more : ℕ) → 20 ≤ size → 20 + more ≤ size → offset ≡ 16 + more → 0 < number
    → (nat_lt size 20 ≡ false) × ((nat_lt (4 + offset) 20 || nat_lt size (4 + offset)) ≡ false) × (int_le (pos number) (pos 0) ≡ false)
data_tests size number offset more p q r s = (grind (arith, nat_tests), grind (arith, nat_tests), grind (arith, nat_tests))

payload_reads : (flags : ℕ) (payload : values.PayloadValue) (octets : List ℕ) → data_spec.has_data flags ≡ is_whole payload → data_spec.has_key flags ≡ is_key payload → spelling.SpellsPayload payload octets
    → data_spec.payload_of flags octets ≡ payload
payload_reads flags values.PayloadValue.Absent octets d k spelled = rw (d, k) refl
payload_reads flags (values.PayloadValue.Whole payload) octets d k spelled = rw d (ap values.PayloadValue.Whole spelled)
payload_reads flags (values.PayloadValue.Key payload) octets d k spelled = rw (d, k) (ap values.PayloadValue.Key spelled)

data_reads : (order : Order) (flags : ℕ) (body : values.DataValue) (octets : List ℕ) → held_spec.IsHeldData body → spelling.SpellsData order body octets
    → bit_and flags 15 ≡ bit_or (flags_spec.order_flag order) (written_bodies.data_flags body) → (data_spec.data_fault order flags octets ≡ None) × (data_spec.data_of order flags octets ≡ body)
data_reads order flags body octets held spelled named =
    let r = held.reader in
    let w = held.writer in
    let t = spelled.two in
    let offset = 16 + length spelled.skipped in
    let o = length-octets_of order 2 offset in
    let n = length-sequence_number_octets order (pos body.number) in
    let from_qos = data_spec.qos_octets body.qos ++ spelled.payload in
    let from_skipped = spelled.skipped ++ from_qos in
    let from_number = octets_spec.sequence_number_octets order (pos body.number) ++ from_skipped in
    let from_writer = body.writer.0 ++ from_number in
    let from_reader = body.reader.0 ++ from_writer in
    let from_offset = octets_spec.octets_of order 2 offset ++ from_reader in
    let at_offset = next_place octets spelled.extra_flags from_offset 0 2 spelled.parts (omega arith) in
    let at_reader = next_place octets (octets_spec.octets_of order 2 offset) from_reader 2 4 at_offset (omega arith) in
    let at_writer = next_place octets body.reader.0 from_writer 4 8 at_reader (omega arith) in
    let at_number = next_place octets body.writer.0 from_number 8 12 at_writer (omega arith) in
    let at_skipped = next_place octets (octets_spec.sequence_number_octets order (pos body.number)) from_skipped 12 20 at_number (omega arith) in
    let at_qos = next_place octets spelled.skipped from_qos 20 (4 + offset) at_skipped (omega arith) in
    let long = reach octets (octets_spec.sequence_number_octets order (pos body.number)) from_skipped 12 20 at_number (omega arith) (omega arith) in
    let skipped_long : length (drop 20 octets) ≡ length spelled.skipped + length from_qos = ap length at_skipped ∙ length-append spelled.skipped from_qos in
    let near = spelled.near in
    let offset_is : data_spec.octets_to_inline_qos order octets ≡ offset = ap (octets_spec.number_of order 2) at_offset ∙ number-octets_of order 2 offset from_reader (omega arith) in
    let number = held.number in
    let number_is : data_spec.data_number order octets ≡ pos body.number = sequence_number_read order (pos body.number) from_skipped (drop 12 octets) (omega (arith, ints)) (omega (arith, ints)) at_number in
    let tests = data_tests (length octets) body.number offset (length spelled.skipped) long (omega (arith, length-drop 20 octets, skipped_long)) refl number.0 in
    let are = flags_are order body.qos body.payload in
    let q = kept_flag flags 15 2 _ refl named in
    let d = kept_flag flags 15 4 _ refl named in
    let k = kept_flag flags 15 8 _ refl named in
    let has_q = ap (λ n. n == 2) q ∙ are.0 in
    let has_d = ap (λ n. n == 4) d ∙ are.1 in
    let has_k = ap (λ n. n == 8) k ∙ are.2 in
    let qos = qos_stands order flags body.qos spelled.payload has_q held.qos spelled.same_order in
    let behind : data_spec.behind_fields order octets ≡ from_qos = ap (λ o. drop (4 + o) octets) offset_is ∙ at_qos in (
      rw (tests.0, has_d, has_k, one_kind body.payload, offset_is, tests.1, number_is, tests.2, at_qos, qos.good) refl,
      data_made _ _ _ _ _ _ _ _ _ _
          (entity_read body.reader 4 from_writer octets r at_reader)
          (entity_read body.writer 8 from_number octets w at_writer)
          (ap unsigned_abs number_is)
          (ap (data_spec.qos_of order flags) behind ∙ qos.same)
          (ap (λ xs. data_spec.payload_of flags (data_spec.behind_qos order flags xs)) behind ∙ (ap (data_spec.payload_of flags) qos.behind ∙ payload_reads flags body.payload spelled.payload has_d has_k spelled.spelled)),
    )

skipped_good : (id flags : ℕ) (octets : List ℕ) → skipped.is_read id ≡ false → message_spec.body_fault id flags octets ≡ None
skipped_good id flags octets other = grind arith

skipped_same : (id flags : ℕ) (octets : List ℕ) → skipped.is_read id ≡ false → message_spec.body_of id flags octets ≡ values.BodyValue.Skipped id
skipped_same id flags octets other = grind arith

body_reads : (order : Order) (value : values.BodyValue) (flags : ℕ) (octets : List ℕ) → message_spec.order_of flags ≡ order → held_spec.IsHeldBody value → spelling.SpellsBody order value octets
    → bit_and flags (spelling.named_flags value) ≡ written.written_flags order value
    → (message_spec.body_fault (written.written_id value) flags octets ≡ None) × (message_spec.body_of (written.written_id value) flags octets ≡ value)
body_reads order (values.BodyValue.Data body) flags octets is held spelled named =
    let reads = data_reads order flags body octets held spelled named in
    (ap (λ o. data_spec.data_fault o flags octets) is ∙ reads.0, ap (λ o. values.BodyValue.Data (data_spec.data_of o flags octets)) is ∙ ap values.BodyValue.Data reads.1)
body_reads order (values.BodyValue.Heartbeat body) flags octets is held spelled named =
    let reads = heartbeat_reads order flags body octets held spelled named in
    (ap (λ o. heartbeat.heartbeat_fault o octets) is ∙ reads.0, ap (λ o. values.BodyValue.Heartbeat (heartbeat.heartbeat_of o flags octets)) is ∙ ap values.BodyValue.Heartbeat reads.1)
body_reads order (values.BodyValue.AckNack body) flags octets is held spelled named =
    let reads = ack_nack_reads order flags body octets held spelled named in
    (ap (λ o. ack_nack.ack_nack_fault o octets) is ∙ reads.0, ap (λ o. values.BodyValue.AckNack (ack_nack.ack_nack_of o flags octets)) is ∙ ap values.BodyValue.AckNack reads.1)
body_reads order (values.BodyValue.Gap body) flags octets is held spelled named =
    let reads = gap_reads order body octets held spelled in
    (ap (λ o. gap.gap_fault o octets) is ∙ reads.0, ap (λ o. values.BodyValue.Gap (gap.gap_of o octets)) is ∙ ap values.BodyValue.Gap reads.1)
body_reads order (values.BodyValue.InfoTs time) flags octets is held spelled named =
    let reads = time_reads order flags time octets held spelled named in
    (reads.0, ap (λ o. values.BodyValue.InfoTs (info.info_ts_of o flags octets)) is ∙ ap values.BodyValue.InfoTs reads.1)
body_reads order (values.BodyValue.InfoDst prefix) flags octets is held spelled named =
    let reads = destination_reads prefix octets held spelled in
    (reads.0, ap values.BodyValue.InfoDst reads.1)
body_reads order (values.BodyValue.InfoSrc version vendor prefix) flags octets is held spelled named =
    let reads = source_reads version vendor prefix octets held.0 held.1 spelled in
    (reads.0, ap message_spec.source_value reads.1)
body_reads order (values.BodyValue.Skipped id) flags octets is held spelled named = (skipped_good id flags octets spelled, skipped_same id flags octets spelled)

-- ---- a submessage

-- what octetsToNextHeader says is no more than what is left
declared_within : (id declared size later : ℕ) → size ≡ message_spec.extent_of id declared (size + later) → declared ≤ size + later
declared_within id declared size later is = by (declared == 0) refl
  where
    by : (none : Bool) → (declared == 0) ≡ none → declared ≤ size + later
    by true e = let zero_is : declared ≡ 0 = grind (arith, nat_tests) in omega arith
    by false e = let whole : size ≡ declared = rw e at is in omega arith

-- the first submessage of octets is read as this one, and what is left is what stands behind it
pub record ReadsFirst (order : Order) (value : values.BodyValue) (first rest later : List ℕ) : Type 0 where
  pub size : 4 + message_spec.body_length rest ≡ length first
  pub some : 0 < length rest
  pub good : message_spec.fault_at rest ≡ None
  pub same : (at : ℕ) → ◌≡◌ {A = values.ItemValue} (record { at = at; order = order; body = value }) (message_spec.item_at rest at)
  pub next : message_spec.next_rest rest ≡ later

pub reads_first : (order : Order) (value : values.BodyValue) (first later : List ℕ) → held_spec.IsHeldBody value → spelling.SpellsSubmessage order value first later → ReadsFirst order value first (first ++ later) later
reads_first order value first later held spelled =
    let id = written.written_id value in
    let field = octets_spec.octets_of order 2 spelled.declared in
    let body = spelled.body in
    let rest = id ∷ spelled.flags ∷ (field ++ (body ++ later)) in
    let stands : first ++ later ≡ rest = ap (λ xs. xs ++ later) spelled.parts ∙ ap (λ xs. id ∷ spelled.flags ∷ xs) (append_assoc field body later) in
    let two = length-octets_of order 2 spelled.declared in
    let is = order_is order value spelled.flags spelled.named in
    let short = spelled.short in
    let declared : message_spec.octets_to_next_header rest ≡ spelled.declared =
    ap (λ o. octets_spec.number_of o 2 (field ++ (body ++ later))) is ∙ number-octets_of order 2 spelled.declared (body ++ later) (omega arith) in
    let behind : drop 4 rest ≡ body ++ later = drop_at field (body ++ later) 2 two in
    let left : length (drop 4 rest) ≡ length body + length later = ap length behind ∙ length-append body later in
    let size : message_spec.body_length rest ≡ length body = ap (λ n. message_spec.extent_of id n (length (drop 4 rest))) declared ∙ (ap (message_spec.extent_of id spelled.declared) left ∙ sym spelled.extent) in
    let octets : message_spec.body_octets rest ≡ body = ap (λ n. take n (drop 4 rest)) size ∙ (ap (take (length body)) behind ∙ take_at body later (length body) refl) in
    let within : message_spec.octets_to_next_header rest ≤ length (drop 4 rest) = rw (declared, left) (declared_within id spelled.declared (length body) (length later) spelled.extent) in
    let reads = body_reads order value spelled.flags body is held spelled.spelled spelled.named in
    let long : 4 ≤ length rest = omega (arith, two, length-append field (body ++ later)) in
    let whole : ReadsFirst order value first rest later = record {
      size = omega (arith, size, two, ap length spelled.parts, length-append field body);
      some = omega arith;
      good = fault_at-body rest long within ∙ (ap (message_spec.body_fault id spelled.flags) octets ∙ reads.0);
      same = λ at. item_of_parts rest body at order value (sym is) (sym octets) (sym reads.1);
      next = ap (λ n. drop (4 + n) rest) size
          ∙ (past (id ∷ spelled.flags ∷ field) (body ++ later) (4 + length body) (length body) (omega arith) ∙ drop_at body later (length body) refl);
    } in
    let P : List ℕ → Type 0 = λ xs. ReadsFirst order value first xs later in
    subst P (sym stands) whole

-- ---- a message

-- the items that are read
record Found (items : List values.ItemValue) (rest : List ℕ) (at : ℕ) : Type 0 where
  found : List values.ItemValue
  reads : message_spec.ReadsFrom rest at found None
  same : map spelling.unplaced found ≡ map spelling.unplaced items

items_read : (items : List values.ItemValue) (rest : List ℕ) (at : ℕ) → All held_spec.IsHeldItem items → spelling.SpellsItems items rest → Found items rest at
items_read [] rest at held done = record { found = []; reads = done; same = refl }
items_read (item ∷ items) rest at held (first, later, parts, spelled, behind) =
    let here = reads_first item.order item.body first later (held 0 item (omega arith)) spelled in
    let P : List ℕ → Type 0 = λ xs. ReadsFirst item.order item.body first xs later in
    let there : ReadsFirst item.order item.body first rest later = subst P (sym parts) here in
    let more = items_read items later (at + 4 + message_spec.body_length rest) (λ k d inside. held (suc k) d (omega arith)) behind in
    let one : values.ItemValue = message_spec.item_at rest at in
    let same : spelling.unplaced one ≡ spelling.unplaced item = ap spelling.unplaced (sym (there.same at)) in
    record { found = one ∷ more.found; reads = (there.some, there.good, refl, rw there.next more.reads); same = heads_and_tails _ _ _ _ same more.same }
  where
    heads_and_tails : (x y : values.ItemValue) (xs ys : List values.ItemValue) → x ≡ y → xs ≡ ys → (x ∷ xs) ≡ (y ∷ ys)
    heads_and_tails x y xs ys p q = cc

pub spelled_read : (header : Header) (items : List values.ItemValue) (message : List ℕ) → held_spec.IsHeldHeader header → All held_spec.IsHeldItem items → spelling.Spells header items message
    → spelling.IsReadAs header items (reading_spec.reading_of message)
spelled_read header items message held all_held spelled =
    let rest = spelled.rest in
    let whole = written.header_octets header ++ rest in
    let two : (header.version.major == 2) ≡ true = is_two header.version.major spelled.version in
    let front : header_spec.header_fault whole ≡ None = header_good header rest held two in
    let behind : drop 20 whole ≡ rest = drop_at (written.header_octets header) rest 20 (header_long header held) in
    let read = items_read items rest 20 all_held spelled.spelled in
    let reading : message_spec.Reading = record { header = Some header; items = read.found; ending = None } in
    let reads_rest : message_spec.ReadsFrom (drop 20 whole) 20 read.found None = rw behind read.reads in
    let reads : message_spec.ReadsWith None whole reading = (ap Some (sym (header_same header rest held)), reads_rest) in
    let is : reading ≡ reading_spec.reading_of message = one_reading whole reading (rw front reads) ∙ ap reading_spec.reading_of (sym spelled.parts) in
    let found : spelling.IsReadAs header items reading = record { header_is = refl; items_are = read.same; clean = refl } in
    subst (spelling.IsReadAs header items) is found
  where
    is_two : (n : ℕ) → n ≡ 2 → (n == 2) ≡ true
    is_two n same = grind (arith, nat_tests)

    header_long : (header : Header) → held_spec.IsHeldHeader header → length (written.header_octets header) ≡ 20
    header_long header held = let v = held.vendor in let p = held.prefix in omega (arith, length-append header.vendor.0 header.prefix.0)
