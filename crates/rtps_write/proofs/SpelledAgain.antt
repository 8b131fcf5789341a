-- A message that is written is spelled by its octets, and alike to one from which it was read.
use Rattle.std.proofs.Common.{◌≡◌, ◌<◌, ◌+◌, ◌/◌, ◌^◌, ℕ, suc, pos, List, [], ◌∷◌, ◌++◌, Bool, true, false, Option, None, Some, All, length, take, refl, ap, sym, ◌∙◌, arith}
use Rattle.std.specs.Prelude.{◌==◌, bit_and, bit_or, slice_index}
use Rattle.std.specs.List.{flat_map}
use Rattle.std.proofs.lemmas.List.{append-nil, get_or-take, length-append, length-take, length-take-le}
use Rattle.rtps_ids.proofs.Offered.{length-octets_of}
use Rattle.rtps_ids.specs.NumberSet as number_set
use Rattle.rtps_wire.specs.Message as message
use Rattle.rtps_ids.specs.Octets as octets
use Rattle.rtps_ids.specs.declared.identity.Stamp.{Stamp}
use Rattle.rtps_ids.specs.declared.order.Order.{Order}
use Rattle.rtps_params.specs.Lists as lists
use Rattle.rtps_wire.proofs.Offered.{AreOctets}
use Rattle.rtps_wire.specs.Reading as reading
use Rattle.rtps_write.proofs.SpelledBodies.{IsSized, held_sized}
use Rattle.rtps_write.proofs.SpelledSets.{IsFit}
use Rattle.rtps_write.proofs.SpelledMessages.{AreSized, read_sized, read_spelled}
use Rattle.rtps_write.proofs.WrittenBodies.{extent_some}
use Rattle.rtps_write.proofs.WrittenSets.{cleared_words_same}
use Rattle.std.proofs.lemmas.Bool.Decides.{nat_tests}
use Rattle.rtps_wire.specs.Values as values
use Rattle.rtps_wire.specs.declared.header.Header.{Header}
use Rattle.rtps_write.proofs.Reasons.{no_fault, no_first}
use Rattle.rtps_write.specs.WrittenBodies as written_bodies
use Rattle.rtps_write.specs.Flags as flags
use Rattle.rtps_write.specs.Held as held
use Rattle.rtps_write.specs.Spelling as spelling
use Rattle.rtps_write.specs.Writable as writable
use Rattle.rtps_write.specs.Written as written
use Rattle.rtps_write.specs.declared.write_fault.WriteFault.{WriteFault}

-- ---- flags

data_named : (order : Order) (qos : Option lists.ListValue) (payload : values.PayloadValue)
    → bit_and (bit_or (flags.order_flag order) (bit_or (written_bodies.qos_flag qos) (written_bodies.payload_flag payload))) 15 ≡ bit_or (flags.order_flag order) (bit_or (written_bodies.qos_flag qos) (written_bodies.payload_flag payload))
data_named Order.Big None values.PayloadValue.Absent = refl
data_named Order.Big None (values.PayloadValue.Whole octets) = refl
data_named Order.Big None (values.PayloadValue.Key octets) = refl
data_named Order.Big (Some list) values.PayloadValue.Absent = refl
data_named Order.Big (Some list) (values.PayloadValue.Whole octets) = refl
data_named Order.Big (Some list) (values.PayloadValue.Key octets) = refl
data_named Order.Little None values.PayloadValue.Absent = refl
data_named Order.Little None (values.PayloadValue.Whole octets) = refl
data_named Order.Little None (values.PayloadValue.Key octets) = refl
data_named Order.Little (Some list) values.PayloadValue.Absent = refl
data_named Order.Little (Some list) (values.PayloadValue.Whole octets) = refl
data_named Order.Little (Some list) (values.PayloadValue.Key octets) = refl

heartbeat_named : (order : Order) (is_final live : Bool)
    → bit_and (bit_or (flags.order_flag order) (bit_or (flags.flag_if is_final 2) (flags.flag_if live 4))) 7 ≡ bit_or (flags.order_flag order) (bit_or (flags.flag_if is_final 2) (flags.flag_if live 4))
heartbeat_named Order.Big true true = refl
heartbeat_named Order.Big true false = refl
heartbeat_named Order.Big false true = refl
heartbeat_named Order.Big false false = refl
heartbeat_named Order.Little true true = refl
heartbeat_named Order.Little true false = refl
heartbeat_named Order.Little false true = refl
heartbeat_named Order.Little false false = refl

ack_nack_named : (order : Order) (is_final : Bool) → bit_and (bit_or (flags.order_flag order) (flags.flag_if is_final 2)) 3 ≡ bit_or (flags.order_flag order) (flags.flag_if is_final 2)
ack_nack_named Order.Big true = refl
ack_nack_named Order.Big false = refl
ack_nack_named Order.Little true = refl
ack_nack_named Order.Little false = refl

time_named : (order : Order) (time : Option Stamp) → bit_and (bit_or (flags.order_flag order) (written_bodies.info_ts_flags time)) 3 ≡ bit_or (flags.order_flag order) (written_bodies.info_ts_flags time)
time_named Order.Big None = refl
time_named Order.Big (Some stamp) = refl
time_named Order.Little None = refl
time_named Order.Little (Some stamp) = refl

plain_named : (order : Order) → bit_and (bit_or (flags.order_flag order) 0) 1 ≡ bit_or (flags.order_flag order) 0
plain_named Order.Big = refl
plain_named Order.Little = refl

named : (order : Order) (body : values.BodyValue) → bit_and (written.written_flags order body) (spelling.named_flags body) ≡ written.written_flags order body
named order (values.BodyValue.Data body) = data_named order body.qos body.payload
named order (values.BodyValue.Heartbeat body) = heartbeat_named order body.is_final body.live
named order (values.BodyValue.AckNack body) = ack_nack_named order body.is_final
named order (values.BodyValue.Gap body) = plain_named order
named order (values.BodyValue.InfoTs time) = time_named order time
named order (values.BodyValue.InfoDst prefix) = plain_named order
named order (values.BodyValue.InfoSrc version vendor prefix) = plain_named order
named order (values.BodyValue.Skipped id) = plain_named order

-- ---- bodies

set_written : (order : Order) (set : number_set.NumberSetValue) → IsFit set → spelling.SpellsSet order set (written_bodies.set_octets order set)
set_written order set fits =
    let few = fits.few in
    let eight = fits.eight in
    let many = (set.count + 31) / 32 in
    record {
      words = take many set.words;
      many = length-take-le many set.words (omega arith);
      small = few_small many set.words fits.small;
      parts = refl;
      kept = fits.clear
          ∙ cleared_words_same set.count (λ i. slice_index set.words i) (λ i. slice_index (take many set.words) i) (λ i before. sym (get_or-take many set.words i 0 (omega arith)));
      good = fits.good;
    }
  where
    few_small : (n : ℕ) (words : List ℕ) → All (λ word. word < 2 ^ 32) words → All (λ word. word < 2 ^ 32) (take n words)
    few_small n words small k d inside =
        let shorter = length-take n words in
        rw (get_or-take n words k d (omega arith)) (small k d (omega arith))

last : (octets : List ℕ) → octets ≡ octets ++ []
last octets = sym (append-nil octets)

payload_written : (payload : values.PayloadValue) → spelling.SpellsPayload payload (written_bodies.payload_octets payload)
payload_written values.PayloadValue.Absent = tt
payload_written (values.PayloadValue.Whole octets) = refl
payload_written (values.PayloadValue.Key octets) = refl

body_written : (order : Order) (body : values.BodyValue) → IsSized body → writable.is_not_writable order body ≡ false → spelling.SpellsBody order body (written.written_body order body)
body_written order (values.BodyValue.Data body) sized good =
    record {
      extra_flags = 0 ∷ 0 ∷ [];
      skipped = [];
      payload = written_bodies.payload_octets body.payload;
      two = refl;
      near = omega arith;
      parts = refl;
      same_order = good;
      spelled = payload_written body.payload;
    }
body_written order (values.BodyValue.Heartbeat body) sized good =
    let front = λ (xs : List ℕ). body.reader.0 ++ (body.writer.0 ++ (octets.sequence_number_octets order (pos body.first) ++ (octets.sequence_number_octets order body.last ++ xs))) in
    record { ignored = []; parts = ap front (last (octets.octets_of order 4 body.count)); range = good }
body_written order (values.BodyValue.AckNack body) sized good =
    let front = λ (xs : List ℕ). body.reader.0 ++ (body.writer.0 ++ (written_bodies.set_octets order body.set ++ xs)) in
    record { set = written_bodies.set_octets order body.set; ignored = []; parts = ap front (last (octets.octets_of order 4 body.count)); spelled = set_written order body.set sized.1 }
body_written order (values.BodyValue.Gap body) sized good =
    let front = λ (xs : List ℕ). body.reader.0 ++ (body.writer.0 ++ (octets.sequence_number_octets order (pos body.start) ++ xs)) in
    record { list = written_bodies.set_octets order body.list; ignored = []; parts = ap front (last (written_bodies.set_octets order body.list)); spelled = set_written order body.list sized.1; positive = good }
body_written order (values.BodyValue.InfoTs None) sized good = tt
body_written order (values.BodyValue.InfoTs (Some stamp)) sized good = ([], ap (λ xs. octets.octets_of order 4 stamp.seconds ++ xs) (last (octets.octets_of order 4 stamp.fraction)))
body_written order (values.BodyValue.InfoDst prefix) sized good = ([], last prefix.0)
body_written order (values.BodyValue.InfoSrc version vendor prefix) sized good =
    record {
      unused = 0 ∷ 0 ∷ 0 ∷ 0 ∷ [];
      ignored = [];
      four = refl;
      parts = ap (λ xs. 0 ∷ 0 ∷ 0 ∷ 0 ∷ version.major ∷ version.minor ∷ (vendor.0 ++ xs)) (last prefix.0);
    }
body_written order (values.BodyValue.Skipped id) sized good = cc

longer : (a b : List ℕ) → 0 < length a → 0 < length (a ++ b)
longer a b some = omega (arith, length-append a b)

extent_written : (order : Order) (body : values.BodyValue) (left : ℕ) → IsSized body → writable.is_not_writable order body ≡ false
    → message.extent_of (written.written_id body) (length (written.written_body order body)) left ≡ length (written.written_body order body)
extent_written order (values.BodyValue.Data body) left sized good = extent_some order (values.BodyValue.Data body) left (omega arith)
extent_written order (values.BodyValue.Heartbeat body) left sized good = extent_some order (values.BodyValue.Heartbeat body) left (longer body.reader.0 _ (omega arith))
extent_written order (values.BodyValue.AckNack body) left sized good = let r = sized.0 in extent_some order (values.BodyValue.AckNack body) left (longer body.reader.0 _ (omega arith))
extent_written order (values.BodyValue.Gap body) left sized good = let r = sized.0 in extent_some order (values.BodyValue.Gap body) left (longer body.reader.0 _ (omega arith))
extent_written order (values.BodyValue.InfoTs None) left sized good = refl
extent_written order (values.BodyValue.InfoTs (Some stamp)) left sized good =
    let s = length-octets_of order 4 stamp.seconds in
    extent_some order (values.BodyValue.InfoTs (Some stamp)) left (longer (octets.octets_of order 4 stamp.seconds) _ (omega arith))
extent_written order (values.BodyValue.InfoDst prefix) left sized good = extent_some order (values.BodyValue.InfoDst prefix) left (omega arith)
extent_written order (values.BodyValue.InfoSrc version vendor prefix) left sized good = extent_some order (values.BodyValue.InfoSrc version vendor prefix) left (omega arith)
extent_written order (values.BodyValue.Skipped id) left sized good = cc

-- ---- a message

pub item_written : (item : values.ItemValue) (later : List ℕ) → IsSized item.body → writable.is_not_writable item.order item.body ≡ false → length (written.written_body item.order item.body) < 2 ^ 16
    → spelling.SpellsSubmessage item.order item.body (written.item_octets item) later
item_written item later sized good small =
    record {
      flags = written.written_flags item.order item.body;
      declared = length (written.written_body item.order item.body);
      body = written.written_body item.order item.body;
      short = small;
      parts = refl;
      named = named item.order item.body;
      extent = sym (extent_written item.order item.body _ sized good);
      spelled = body_written item.order item.body sized good;
    }

items_written : (items : List values.ItemValue) → AreSized items → writable.items_fault items ≡ None → spelling.SpellsItems items (flat_map written.item_octets items)
items_written [] sized good = refl
items_written (item ∷ items) sized good =
    let parts = no_first (writable.item_fault (writable.is_none_left items) item) (writable.items_fault items) good in
    let fine = no_fault (writable.is_none_left items) item parts.0 in (
      written.item_octets item,
      flat_map written.item_octets items,
      refl,
      item_written item (flat_map written.item_octets items) sized.0 fine.0 fine.1,
      items_written items sized.1 parts.1,
    )

message_written : (header : Header) (items : List values.ItemValue) → AreSized items → writable.write_fault header items ≡ None → spelling.Spells header items (written.message_octets header items)
message_written header items sized good = by (header.version.major == 2) refl
  where
    two : (n : ℕ) → (n == 2) ≡ true → n ≡ 2
    two n same = grind (arith, nat_tests)

    by : (b : Bool) → (header.version.major == 2) ≡ b → spelling.Spells header items (written.message_octets header items)
    by true is = record { rest = flat_map written.item_octets items; version = two header.version.major is; parts = refl; spelled = items_written items sized (rw is at good) }
    by false is = let fault : Some WriteFault.NotWritable ≡ None = rw is at good in cc

held_are_sized : (items : List values.ItemValue) → All held.IsHeldItem items → AreSized items
held_are_sized [] held = tt
held_are_sized (item ∷ items) held = (held_sized item.body (held 0 item (omega arith)), held_are_sized items (λ k d inside. held (suc k) d (omega arith)))

pub written_spelled : (header : Header) (items : List values.ItemValue) → All held.IsHeldItem items → writable.write_fault header items ≡ None → spelling.Spells header items (written.message_octets header items)
written_spelled header items held good = message_written header items (held_are_sized items held) good

pub written_alike : (header : Header) (items : List values.ItemValue) (message : List ℕ) → AreOctets message → spelling.IsReadAs header items (reading.reading_of message) → writable.write_fault header items ≡ None
    → spelling.AreAlike message (written.message_octets header items)
written_alike header items message small read good =
    record { header = header; items = items; one = read_spelled header items message small read; two = message_written header items (read_sized header items message small read) good }
