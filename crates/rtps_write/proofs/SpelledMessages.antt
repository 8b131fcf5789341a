-- A message that is read is spelled by its octets.
use Rattle.std.proofs.Common.{◌≡◌, ◌≤◌, ◌+◌, ℕ, suc, List, [], ◌∷◌, ◌++◌, append_assoc, Bool, true, false, Option, None, Some, length, map, take, drop, slice_index, refl, ap, sym, subst, ◌∙◌, arith}
use Rattle.std.specs.Prelude.{◌==◌, ◌||◌, bit_and, nat_lt, not, if◌then◌else◌, ⊤}
use Rattle.std.proofs.lemmas.Bool.Decides.{nat_tests}
use Rattle.std.proofs.lemmas.List.{get_or-take, length-drop, length-take, length-take-le, take-append-drop}
use Rattle.rtps_ids.specs.Octets as octets_spec
use Rattle.rtps_wire.proofs.Offered.{has_reading, AreOctets, octets-drop}
use Rattle.rtps_wire.specs.Header as header_spec
use Rattle.rtps_wire.specs.Message as message_spec
use Rattle.rtps_wire.specs.Reading as reading
use Rattle.rtps_wire.specs.Skipped as skipped
use Rattle.rtps_wire.specs.Values as values
use Rattle.rtps_wire.specs.declared.fault.WireFault.{WireFault}
use Rattle.rtps_wire.specs.declared.header.Header.{Header}
use Rattle.rtps_write.proofs.SpelledBodies.{IsSized, ack_nack_sized, ack_nack_spelled, at_least, data_spelled, destination_sized, destination_spelled, gap_sized, gap_spelled, heartbeat_sized, heartbeat_spelled, one_kind, source_spelled, time_spelled}
use Rattle.rtps_write.proofs.SpelledFields.{field_stands, half_below, half_octets, octet_stands}
use Rattle.rtps_write.proofs.SpelledFlags.{ack_nack_flags_read, data_flags_read, heartbeat_flags_read, plain_flags, time_flags_read}
use Rattle.rtps_write.specs.Written as written
use Rattle.rtps_write.specs.Spelling as spelling

-- ---- a body, by its kind

record Spelled (id flags : ℕ) (octets : List ℕ) (value : values.BodyValue) : Type 0 where
  id_is : written.written_id value ≡ id
  named : bit_and flags (spelling.named_flags value) ≡ written.written_flags (message_spec.order_of flags) value
  spelled : spelling.SpellsBody (message_spec.order_of flags) value octets
  sized : IsSized value

same_id : (id other : ℕ) → (id == other) ≡ true → other ≡ id
same_id id other same = grind (arith, nat_tests)

not_read : (id : ℕ) → (id == 6) ≡ false → (id == 7) ≡ false → (id == 8) ≡ false → (id == 9) ≡ false → (id == 12) ≡ false → (id == 14) ≡ false → (id == 21) ≡ false → skipped.is_read id ≡ false
not_read id a b c d e f g = rw (a, b, c, d, e, f, g) refl

body_spelled : (id flags : ℕ) (octets : List ℕ) → AreOctets octets → message_spec.body_fault id flags octets ≡ None → Spelled id flags octets (message_spec.body_of id flags octets)
body_spelled id flags octets small good = ack_nack (id == 6) refl
  where
    rest : (id == 6) ≡ false → (id == 7) ≡ false → (id == 8) ≡ false → (id == 9) ≡ false → (id == 12) ≡ false → (id == 14) ≡ false → (b : Bool) → (id == 21) ≡ b
        → Spelled id flags octets (message_spec.body_of id flags octets)
    rest p6 p7 p8 p9 p12 p14 true is =
        let fine = rw (p6, p7, p8, p9, p12, p14, is) at good in
        rw (p6, p7, p8, p9, p12, p14, is) (record { id_is = same_id id 21 is; named = data_flags_read (message_spec.order_of flags) flags _ _ (one_kind (message_spec.order_of flags) flags octets fine); spelled = data_spelled (message_spec.order_of flags) flags octets small fine; sized = tt })
    rest p6 p7 p8 p9 p12 p14 false is =
        rw (p6, p7, p8, p9, p12, p14, is) (record { id_is = refl; named = plain_flags flags; spelled = not_read id p6 p7 p8 p9 p12 p14 is; sized = tt })

    info_dst : (id == 6) ≡ false → (id == 7) ≡ false → (id == 8) ≡ false → (id == 9) ≡ false → (id == 12) ≡ false → (b : Bool) → (id == 14) ≡ b
        → Spelled id flags octets (message_spec.body_of id flags octets)
    info_dst p6 p7 p8 p9 p12 true is =
        let fine = rw (p6, p7, p8, p9, p12, is) at good in
        rw (p6, p7, p8, p9, p12, is) (record { id_is = same_id id 14 is; named = plain_flags flags; spelled = destination_spelled octets fine; sized = destination_sized octets fine })
    info_dst p6 p7 p8 p9 p12 false is = rest p6 p7 p8 p9 p12 is (id == 21) refl

    info_src : (id == 6) ≡ false → (id == 7) ≡ false → (id == 8) ≡ false → (id == 9) ≡ false → (b : Bool) → (id == 12) ≡ b → Spelled id flags octets (message_spec.body_of id flags octets)
    info_src p6 p7 p8 p9 true is =
        let fine = rw (p6, p7, p8, p9, is) at good in
        rw (p6, p7, p8, p9, is) (record { id_is = same_id id 12 is; named = plain_flags flags; spelled = source_spelled octets fine; sized = tt })
    info_src p6 p7 p8 p9 false is = info_dst p6 p7 p8 p9 is (id == 14) refl

    info_ts : (id == 6) ≡ false → (id == 7) ≡ false → (id == 8) ≡ false → (b : Bool) → (id == 9) ≡ b → Spelled id flags octets (message_spec.body_of id flags octets)
    info_ts p6 p7 p8 true is =
        let fine = rw (p6, p7, p8, is) at good in
        rw (p6, p7, p8, is) (record { id_is = same_id id 9 is; named = time_flags_read flags _; spelled = time_spelled (message_spec.order_of flags) flags octets small fine; sized = tt })
    info_ts p6 p7 p8 false is = info_src p6 p7 p8 is (id == 12) refl

    gap : (id == 6) ≡ false → (id == 7) ≡ false → (b : Bool) → (id == 8) ≡ b → Spelled id flags octets (message_spec.body_of id flags octets)
    gap p6 p7 true is =
        let fine = rw (p6, p7, is) at good in
        rw (p6, p7, is) (record { id_is = same_id id 8 is; named = plain_flags flags; spelled = gap_spelled (message_spec.order_of flags) octets small fine; sized = gap_sized (message_spec.order_of flags) octets small fine })
    gap p6 p7 false is = info_ts p6 p7 is (id == 9) refl

    heartbeat : (id == 6) ≡ false → (b : Bool) → (id == 7) ≡ b → Spelled id flags octets (message_spec.body_of id flags octets)
    heartbeat p6 true is =
        let fine = rw (p6, is) at good in
        rw (p6, is) (record { id_is = same_id id 7 is; named = heartbeat_flags_read flags; spelled = heartbeat_spelled (message_spec.order_of flags) flags octets small fine; sized = heartbeat_sized (message_spec.order_of flags) octets fine })
    heartbeat p6 false is = gap p6 is (id == 8) refl

    ack_nack : (b : Bool) → (id == 6) ≡ b → Spelled id flags octets (message_spec.body_of id flags octets)
    ack_nack true is =
        let fine = rw is at good in
        rw is (record { id_is = same_id id 6 is; named = ack_nack_flags_read flags; spelled = ack_nack_spelled (message_spec.order_of flags) flags octets small fine; sized = ack_nack_sized (message_spec.order_of flags) flags octets small fine })
    ack_nack false is = heartbeat is (id == 7) refl

-- ---- a submessage

-- what is known of a submessage without a fault
record IsWhole (rest : List ℕ) : Type 0 where
  long : 4 ≤ length rest
  within : message_spec.octets_to_next_header rest ≤ length (drop 4 rest)
  body : message_spec.body_fault (message_spec.id_of rest) (message_spec.flags_of rest) (message_spec.body_octets rest) ≡ None

is_whole : (rest : List ℕ) → message_spec.fault_at rest ≡ None → IsWhole rest
unfolding message_spec.fault_at
is_whole rest good = by (nat_lt (length rest) 4) (nat_lt (length (drop 4 rest)) (message_spec.octets_to_next_header rest)) refl refl
  where
    by : (cut over : Bool) → nat_lt (length rest) 4 ≡ cut → nat_lt (length (drop 4 rest)) (message_spec.octets_to_next_header rest) ≡ over → IsWhole rest
    by true over p q = let fault : Some WireFault.CutHeader ≡ None = rw p at good in cc
    by false true p q = let fault : Some WireFault.Overrun ≡ None = rw (p, q) at good in cc
    by false false p q = record { long = at_least (length rest) 4 p; within = at_least (length (drop 4 rest)) (message_spec.octets_to_next_header rest) q; body = rw (p, q) at good }

-- what octetsToNextHeader says is no more than what is left
within_left : (id declared left : ℕ) → declared ≤ left → message_spec.extent_of id declared left ≤ left
within_left id declared left within = by (declared == 0) (id == 1 || id == 9) refl refl
  where
    by : (none empty : Bool) → (declared == 0) ≡ none → (id == 1 || id == 9) ≡ empty → message_spec.extent_of id declared left ≤ left
    by true true p q = rw (p, q) (omega arith)
    by true false p q = rw (p, q) (omega arith)
    by false empty p q = rw p within

-- the header of a submessage and its body stand one behind the other
submessage_stands : (rest : List ℕ) (size : ℕ) → 4 ≤ length rest → AreOctets rest
    → take (4 + size) rest ≡ message_spec.id_of rest ∷ message_spec.flags_of rest ∷ (octets_spec.octets_of (message_spec.order_of (message_spec.flags_of rest)) 2 (message_spec.octets_to_next_header rest) ++ take size (drop 4 rest))
submessage_stands (a ∷ b ∷ c ∷ d ∷ xs) size long small =
    let there = half_octets (message_spec.order_of b) (c ∷ d ∷ xs) (omega arith) (octets-drop (a ∷ b ∷ c ∷ d ∷ xs) 2 small) in
    let longer : 4 + size ≡ suc (suc (suc (suc size))) = omega arith in
    ap (λ n. take n (a ∷ b ∷ c ∷ d ∷ xs)) longer ∙ ap (λ ys. a ∷ b ∷ (ys ++ take size xs)) (sym there)
submessage_stands [] size long small = absurd (omega arith)
submessage_stands (a ∷ []) size long small = absurd (omega arith)
submessage_stands (a ∷ b ∷ []) size long small = absurd (omega arith)
submessage_stands (a ∷ b ∷ c ∷ []) size long small = absurd (omega arith)

octets-take : (octets : List ℕ) (n : ℕ) → AreOctets octets → AreOctets (take n octets)
octets-take octets n small k d inside =
    let shorter = length-take n octets in
    rw (get_or-take n octets k d (omega arith)) (small k d (omega arith))

item_spelled : (rest : List ℕ) (at : ℕ) → AreOctets rest → message_spec.fault_at rest ≡ None
    → spelling.SpellsSubmessage (message_spec.item_at rest at).order (message_spec.item_at rest at).body (take (4 + message_spec.body_length rest) rest) (message_spec.next_rest rest)
unfolding message_spec.item_at
item_spelled rest at small good =
    let whole = is_whole rest good in
    let left = length (drop 4 rest) in
    let fits : message_spec.body_length rest ≤ left = within_left (message_spec.id_of rest) (message_spec.octets_to_next_header rest) left whole.within in
    let octets = message_spec.body_octets rest in
    let body = body_spelled (message_spec.id_of rest) (message_spec.flags_of rest) octets (octets-take (drop 4 rest) (message_spec.body_length rest) (octets-drop rest 4 small)) whole.body in
    let long : length octets ≡ message_spec.body_length rest = length-take-le (message_spec.body_length rest) (drop 4 rest) fits in
    let all : length octets + length (message_spec.next_rest rest) ≡ left = omega (arith, long, fits, length-drop 4 rest, length-drop (4 + message_spec.body_length rest) rest) in
    record {
      flags = message_spec.flags_of rest;
      declared = message_spec.octets_to_next_header rest;
      body = octets;
      short = half_below (message_spec.order_of (message_spec.flags_of rest)) (drop 2 rest) (omega (arith, length-drop 2 rest, whole.long)) (octets-drop rest 2 small);
      parts = submessage_stands rest (message_spec.body_length rest) whole.long small ∙ ap (λ id. id ∷ message_spec.flags_of rest ∷ (octets_spec.octets_of (message_spec.order_of (message_spec.flags_of rest)) 2 (message_spec.octets_to_next_header rest) ++ octets)) (sym body.id_is);
      named = body.named;
      extent = rw (body.id_is, all) long;
      spelled = body.spelled;
    }

item_sized : (rest : List ℕ) (at : ℕ) → AreOctets rest → message_spec.fault_at rest ≡ None → IsSized (message_spec.item_at rest at).body
unfolding message_spec.item_at
item_sized rest at small good =
    let whole = is_whole rest good in
    (body_spelled (message_spec.id_of rest) (message_spec.flags_of rest) (message_spec.body_octets rest) (octets-take (drop 4 rest) (message_spec.body_length rest) (octets-drop rest 4 small)) whole.body).sized

-- of the same order and body as one that is spelled
same_spelled : (item other : values.ItemValue) (octets later : List ℕ) → spelling.unplaced item ≡ spelling.unplaced other → spelling.SpellsSubmessage item.order item.body octets later
    → spelling.SpellsSubmessage other.order other.body octets later
same_spelled item other octets later same spelled =
    let order : item.order ≡ other.order = ap (λ (i : values.ItemValue). i.order) same in
    let body : item.body ≡ other.body = ap (λ (i : values.ItemValue). i.body) same in
    subst (λ b. spelling.SpellsSubmessage other.order b octets later) body (subst (λ o. spelling.SpellsSubmessage o item.body octets later) order spelled)

items_spelled : (items others : List values.ItemValue) (rest : List ℕ) (at : ℕ) → AreOctets rest → message_spec.ReadsFrom rest at items None → map spelling.unplaced items ≡ map spelling.unplaced others
    → spelling.SpellsItems others rest
items_spelled [] [] rest at small done same = done
items_spelled [] (other ∷ others) rest at small done same = cc
items_spelled (item ∷ items) [] rest at small done same = cc
items_spelled (item ∷ items) (other ∷ others) rest at small (some, good, is, behind) same =
    let first = take (4 + message_spec.body_length rest) rest in
    let heads : spelling.unplaced item ≡ spelling.unplaced other = cc in
    let tails : map spelling.unplaced items ≡ map spelling.unplaced others = cc in
    let here : spelling.SpellsSubmessage item.order item.body first (message_spec.next_rest rest) = rw is (item_spelled rest at small good) in (
      first,
      message_spec.next_rest rest,
      sym (take-append-drop (4 + message_spec.body_length rest) rest),
      same_spelled item other first (message_spec.next_rest rest) heads here,
      items_spelled items others (message_spec.next_rest rest) (at + 4 + message_spec.body_length rest) (octets-drop rest (4 + message_spec.body_length rest) small) behind tails,
    )

-- each item has the sizes that are read
abbrev pub AreSized : List values.ItemValue → Type 0
AreSized [] = ⊤
AreSized (item ∷ items) = IsSized item.body × AreSized items

items_sized : (items others : List values.ItemValue) (rest : List ℕ) (at : ℕ) → AreOctets rest → message_spec.ReadsFrom rest at items None → map spelling.unplaced items ≡ map spelling.unplaced others → AreSized others
items_sized [] [] rest at small done same = tt
items_sized [] (other ∷ others) rest at small done same = cc
items_sized (item ∷ items) [] rest at small done same = cc
items_sized (item ∷ items) (other ∷ others) rest at small (some, good, is, behind) same =
    let heads : spelling.unplaced item ≡ spelling.unplaced other = cc in
    let tails : map spelling.unplaced items ≡ map spelling.unplaced others = cc in
    let here : IsSized item.body = rw is (item_sized rest at small good) in
    let body : item.body ≡ other.body = ap (λ (i : values.ItemValue). i.body) heads in
    (subst IsSized body here, items_sized items others (message_spec.next_rest rest) (at + 4 + message_spec.body_length rest) (octets-drop rest (4 + message_spec.body_length rest) small) behind tails)

-- ---- the header

begins : (a b c d : ℕ) → (not (a == 82) || not (b == 84) || not (c == 80) || not (d == 83)) ≡ false → (a ≡ 82) × (b ≡ 84) × (c ≡ 80) × (d ≡ 83)
begins a b c d none = (grind (arith, nat_tests), grind (arith, nat_tests), grind (arith, nat_tests), grind (arith, nat_tests))

first_four : (a b c d : ℕ) (rest : List ℕ) → (a ≡ 82) × (b ≡ 84) × (c ≡ 80) × (d ≡ 83) → ◌≡◌ {A = List ℕ} (a ∷ b ∷ c ∷ d ∷ rest) (82 ∷ 84 ∷ 80 ∷ 83 ∷ rest)
first_four a b c d rest (p, q, r, s) = cc

rows : (a b c : Bool) (f g h : WireFault) → (if a then Some f else if b then Some g else if c then Some h else None) ≡ None → (a ≡ false) × (b ≡ false) × (c ≡ false)
rows true b c f g h none = cc
rows false true c f g h none = cc
rows false false true f g h none = cc
rows false false false f g h none = (refl, refl, refl)

-- what a header without a fault has
record IsHeader (octets : List ℕ) : Type 0 where
  long : 20 ≤ length octets
  name : (slice_index octets 0 ≡ 82) × (slice_index octets 1 ≡ 84) × (slice_index octets 2 ≡ 80) × (slice_index octets 3 ≡ 83)
  major : slice_index octets 4 ≡ 2

is_header : (octets : List ℕ) → header_spec.header_fault octets ≡ None → IsHeader octets
unfolding header_spec.header_fault
is_header octets good =
    let are = rows (nat_lt (length octets) 20) (not (slice_index octets 0 == 82) || not (slice_index octets 1 == 84) || not (slice_index octets 2 == 80) || not (slice_index octets 3 == 83)) (not (slice_index octets 4 == 2)) WireFault.Short WireFault.NotRtps WireFault.BadVersion good in
    record { long = at_least (length octets) 20 are.0; name = begins _ _ _ _ are.1; major = two (slice_index octets 4) are.2 }
  where
    two : (n : ℕ) → not (n == 2) ≡ false → n ≡ 2
    two n same = grind (arith, nat_tests)

header_stands : (octets : List ℕ) → header_spec.header_fault octets ≡ None → octets ≡ written.header_octets (header_spec.header_of octets) ++ drop 20 octets
unfolding header_spec.header_of
header_stands octets good =
    let is = is_header octets good in
    let long = is.long in
    let vendor = take 2 (drop 6 octets) in
    let prefix = take 12 (drop 8 octets) in
    octet_stands octets 0 1 refl (omega arith)
    ∙ (ap (λ xs. slice_index octets 0 ∷ xs) (octet_stands octets 1 2 refl (omega arith)
    ∙ ap (λ xs. slice_index octets 1 ∷ xs) (octet_stands octets 2 3 refl (omega arith)
    ∙ ap (λ xs. slice_index octets 2 ∷ xs) (octet_stands octets 3 4 refl (omega arith)
    ∙ ap (λ xs. slice_index octets 3 ∷ xs) (octet_stands octets 4 5 refl (omega arith)
    ∙ ap (λ xs. slice_index octets 4 ∷ xs) (octet_stands octets 5 6 refl (omega arith)
    ∙ ap (λ xs. slice_index octets 5 ∷ xs) (field_stands octets 6 2 8 refl
    ∙ (ap (λ xs. vendor ++ xs) (field_stands octets 8 12 20 refl) ∙ sym (append_assoc vendor prefix (drop 20 octets)))))))))
    ∙ first_four _ _ _ _ _ is.name)

major_is : (octets : List ℕ) → header_spec.header_fault octets ≡ None → (header_spec.header_of octets).version.major ≡ 2
unfolding header_spec.header_of
major_is octets good = (is_header octets good).major

-- ---- a message

-- what is read of a message that has a clean end
record IsRead (header : Header) (message : List ℕ) (found : message_spec.Reading) : Type 0 where
  fine : header_spec.header_fault message ≡ None
  header_is : header ≡ header_spec.header_of message
  behind : message_spec.ReadsFrom (drop 20 message) 20 found.items None

is_read_of : (header : Header) (items : List values.ItemValue) (message : List ℕ) → spelling.IsReadAs header items (reading.reading_of message) → IsRead header message (reading.reading_of message)
is_read_of header items message read = by (header_spec.header_fault message) refl (has_reading message)
  where
    found : message_spec.Reading
    found = reading.reading_of message

    by : (fault : Option WireFault) → header_spec.header_fault message ≡ fault → message_spec.ReadsWith (header_spec.header_fault message) message found → IsRead header message (reading.reading_of message)
    by (Some fault) is reads =
        let bad = rw is at reads in
        let none : Some header ≡ None = sym read.header_is ∙ bad.0 in
        cc
    by None is reads =
        let fine = rw is at reads in
        let header_is : Some header ≡ Some (header_spec.header_of message) = sym read.header_is ∙ fine.0 in
        let same : header ≡ header_spec.header_of message = cc in
        record { fine = is; header_is = same; behind = subst (λ e. message_spec.ReadsFrom (drop 20 message) 20 found.items e) read.clean fine.1 }

pub read_spelled : (header : Header) (items : List values.ItemValue) (message : List ℕ) → AreOctets message → spelling.IsReadAs header items (reading.reading_of message) → spelling.Spells header items message
read_spelled header items message small read =
    let is = is_read_of header items message read in
    record {
      rest = drop 20 message;
      version = ap (λ (h : Header). h.version.major) is.header_is ∙ major_is message is.fine;
      parts = rw is.header_is (header_stands message is.fine);
      spelled = items_spelled (reading.reading_of message).items items (drop 20 message) 20 (octets-drop message 20 small) is.behind read.items_are;
    }

pub read_sized : (header : Header) (items : List values.ItemValue) (message : List ℕ) → AreOctets message → spelling.IsReadAs header items (reading.reading_of message) → AreSized items
read_sized header items message small read =
    let is = is_read_of header items message read in
    items_sized (reading.reading_of message).items items (drop 20 message) 20 (octets-drop message 20 small) is.behind read.items_are
