-- A written message reads as its header and its items, each at its place, and has a clean end.
use Rattle.std.proofs.Common.{◌≡◌, ◌+◌, ℕ, suc, List, [], ◌∷◌, ◌++◌, Bool, true, false, Option, Some, None, length, drop, refl, ap, sym, arith, if◌then◌else◌}
use Rattle.std.specs.Prelude.{◌==◌, All, not}
use Rattle.std.specs.List.{flat_map}
use Rattle.std.proofs.lemmas.List.{drop_at, length-append}
use Rattle.rtps_wire.proofs.Offered.{one_reading}
use Rattle.rtps_wire.specs.Header as header_spec
use Rattle.rtps_wire.specs.Message as message
use Rattle.rtps_wire.specs.Reading as reading
use Rattle.rtps_wire.specs.Values as values
use Rattle.rtps_wire.specs.declared.header.Header.{Header}
use Rattle.rtps_write.proofs.Reasons.{no_fault, no_first}
use Rattle.rtps_write.proofs.SpelledAgain.{item_written}
use Rattle.rtps_write.proofs.SpelledBodies.{held_sized}
use Rattle.rtps_write.proofs.SpelledReads.{reads_first}
use Rattle.rtps_write.proofs.WrittenHeader.{header_good, header_same}
use Rattle.rtps_write.specs.Written as written
use Rattle.rtps_write.specs.Held as held_spec
use Rattle.rtps_write.specs.Writable as writable
use Rattle.rtps_write.specs.declared.write_fault.WriteFault.{WriteFault}

reads_items : (items : List values.ItemValue) (at : ℕ) → All held_spec.IsHeldItem items → writable.items_fault items ≡ None → message.ReadsFrom (flat_map written.item_octets items) at (written.placed at items) None
reads_items [] at held good = refl
reads_items (item ∷ items) at held good =
    let more = flat_map written.item_octets items in
    let rest = written.item_octets item ++ more in
    let parts = no_first (writable.item_fault (writable.is_none_left items) item) (writable.items_fault items) good in
    let writable = no_fault (writable.is_none_left items) item parts.0 in
    let this : held_spec.IsHeldItem item = held 0 item (omega arith) in
    let spelled = item_written item more (held_sized item.body this) writable.0 writable.1 in
    let first = reads_first item.order item.body (written.item_octets item) more this spelled in
    let place : at + 4 + message.body_length rest ≡ at + length (written.item_octets item) = omega (arith, first.size) in
    let behind = reads_items items (at + length (written.item_octets item)) (λ k d inside. held (suc k) d (omega arith)) parts.1 in
    (first.some, first.good, first.same at, rw (first.next, place) behind)

no_header_fault : (is_two : Bool) (later : Option WriteFault) → (if not is_two then Some WriteFault.NotWritable else later) ≡ None → (is_two ≡ true) × (later ≡ None)
no_header_fault true later none = (refl, none)
no_header_fault false later none = cc

pub written_reads : (header : Header) (items : List values.ItemValue) → held_spec.IsHeldHeader header → All held_spec.IsHeldItem items → writable.write_fault header items ≡ None
    → reading.reading_of (written.message_octets header items) ≡ written.clean_reading header items
written_reads header items held all_held good =
    let rest = flat_map written.item_octets items in
    let datagram = written.message_octets header items in
    let parts = no_header_fault (header.version.major == 2) (writable.items_fault items) good in
    let front : header_spec.header_fault datagram ≡ None = header_good header rest held parts.0 in
    let behind : drop 20 datagram ≡ rest = drop_at (written.header_octets header) rest 20 (header_long header held) in
    let reading = written.clean_reading header items in
    let reads_rest : message.ReadsFrom (drop 20 datagram) 20 (written.placed 20 items) None = rw behind (reads_items items 20 all_held parts.1) in
    let reads : message.ReadsWith None datagram reading = (ap Some (sym (header_same header rest held)), reads_rest) in
    sym (one_reading datagram reading (rw front reads))
  where
    header_long : (header : Header) → held_spec.IsHeldHeader header → length (written.header_octets header) ≡ 20
    header_long header held = let v = held.vendor in let p = held.prefix in omega (arith, length-append header.vendor.0 header.prefix.0)
