-- A body that is read is spelled by the octets from which it was read.
use Rattle.std.proofs.Common.{◌≡◌, ◌≤◌, ◌+◌, ◌-◌, ℕ, zero, suc, ℤ, pos, negsuc, List, ◌∷◌, ◌++◌, Bool, true, false, Option, None, Some, length, take, drop, slice_index, refl, ap, sym, ◌∙◌, arith}
use Rattle.std.specs.Prelude.{◌==◌, ◌&&◌, ◌||◌, ◌-ℤ◌, bit_and, int_le, int_lt, nat_lt, if◌then◌else◌, ⊤}
use Rattle.std.specs.Int.RustNames.{unsigned_abs}
use Rattle.std.proofs.lemmas.Bool.Decides.{nat_tests}
use Rattle.std.proofs.lemmas.Int.{ints}
use Rattle.std.proofs.lemmas.List.{drop-drop, length-drop, length-take-le, take-append-drop}
use Rattle.rtps_ids.specs.NumberSet as number_set
use Rattle.rtps_ids.specs.Octets as octets_spec
use Rattle.rtps_ids.specs.declared.order.Order.{Order}
use Rattle.rtps_params.specs.Lists as lists
use Rattle.rtps_wire.proofs.Offered.{AreOctets, octets-drop}
use Rattle.rtps_wire.specs.AckNack as ack_nack
use Rattle.rtps_wire.specs.Data as data_spec
use Rattle.rtps_wire.specs.Gap as gap
use Rattle.rtps_wire.specs.Values as values
use Rattle.rtps_wire.specs.Heartbeat as heartbeat
use Rattle.rtps_wire.specs.Info as info
use Rattle.rtps_wire.specs.declared.fault.WireFault.{WireFault}
use Rattle.rtps_write.proofs.SpelledFields.{field_stands, half_below, half_stands, number_stands, octet_stands, pos-unsigned_abs, word_stands}
use Rattle.rtps_write.proofs.SpelledSets.{IsFit, held_fits, set_fits, set_stands}
use Rattle.rtps_write.specs.WrittenBodies as written_bodies
use Rattle.rtps_write.specs.Held as held
use Rattle.rtps_write.specs.Spelling as spelling

-- where there is no fault, no row of the table holds
pub no_row : (fault : WireFault) (bad : Bool) (later : Option WireFault) → (if bad then Some fault else later) ≡ None → (bad ≡ false) × (later ≡ None)
no_row fault true later none = cc
no_row fault false later none = (refl, none)

neither : (a b : Bool) → (a || b) ≡ false → (a ≡ false) × (b ≡ false)
neither false b none = (refl, none)
neither true b none = cc

pub at_least : (a b : ℕ) → nat_lt a b ≡ false → b ≤ a
at_least a b not_below = grind (arith, nat_tests)

not_low : (value : ℤ) → int_le value (pos 0) ≡ false → int_le (pos 0) value ≡ true
not_low value above = grind (arith, ints, nat_tests)

not_negative : (value : ℤ) → int_lt value (pos 0) ≡ false → int_le (pos 0) value ≡ true
not_negative value above = grind (arith, ints, nat_tests)

-- ---- HEARTBEAT

range_again : (first last : ℤ) (n : ℕ) → pos n ≡ first → int_lt last (pos 0) ≡ false → int_lt last (first -ℤ pos 1) ≡ false
    → (int_lt last (pos 0) || int_lt last (pos n -ℤ pos 1)) ≡ false
range_again first last n same low range = both _ _ low (ap (λ v. int_lt last (v -ℤ pos 1)) same ∙ range)
  where
    both : (a b : Bool) → a ≡ false → b ≡ false → (a || b) ≡ false
    both a b p q = rw (p, q) refl

pub heartbeat_spelled : (order : Order) (flags : ℕ) (octets : List ℕ) → AreOctets octets → heartbeat.heartbeat_fault order octets ≡ None
    → spelling.SpellsHeartbeat order (heartbeat.heartbeat_of order flags octets) octets
heartbeat_spelled order flags octets small good =
    let sized = no_row _ _ _ good in
    let numbers = no_row _ _ _ sized.1 in
    let signs = neither _ _ numbers.0 in
    let long = at_least (length octets) 28 sized.0 in
    let first_low = not_low (heartbeat.first_number order octets) signs.0 in
    let first_is = pos-unsigned_abs (heartbeat.first_number order octets) first_low in
    let r = take 4 octets in
    let w = take 4 (drop 4 octets) in
    let f = octets_spec.sequence_number_octets order (pos (unsigned_abs (heartbeat.first_number order octets))) in
    let l = octets_spec.sequence_number_octets order (heartbeat.last_number order octets) in
    record {
      ignored = drop 28 octets;
      parts = field_stands octets 0 4 4 refl
          ∙ ap (λ xs. r ++ xs) (field_stands octets 4 4 8 refl
          ∙ ap (λ xs. w ++ xs) (number_stands order octets 8 16 _ refl (omega arith) small (sym first_is) (ap (int_le (pos 0)) first_is ∙ first_low)
          ∙ ap (λ xs. f ++ xs) (number_stands order octets 16 24 _ refl (omega arith) small refl (not_negative (heartbeat.last_number order octets) signs.1)
          ∙ ap (λ xs. l ++ xs) (word_stands order octets 24 28 refl (omega arith) small))));
      range = range_again (heartbeat.first_number order octets) (heartbeat.last_number order octets) _ first_is signs.1 (no_row _ _ _ numbers.1).0;
    }

-- ---- ACKNACK

pub ack_nack_spelled : (order : Order) (flags : ℕ) (octets : List ℕ) → AreOctets octets → ack_nack.ack_nack_fault order octets ≡ None
    → spelling.SpellsAckNack order (ack_nack.ack_nack_of order flags octets) octets
ack_nack_spelled order flags octets small good =
    let sized = no_row _ _ _ good in
    let set_good = no_row _ _ _ sized.1 in
    let whole = no_row _ _ _ set_good.1 in
    let long = at_least (length octets) 24 sized.0 in
    let enough = at_least (length octets) (ack_nack.count_place order octets + 4) whole.0 in
    let size = number_set.octets_of_count (number_set.spelled_count order (drop 8 octets)) in
    let set = set_stands order (drop 8 octets) set_good.0 (omega (arith, length-drop 8 octets)) (octets-drop octets 8 small) in
    record {
      set = set.set;
      ignored = drop (8 + size + 4) octets;
      parts = field_stands octets 0 4 4 refl
          ∙ ap (λ xs. take 4 octets ++ xs) (field_stands octets 4 4 8 refl
          ∙ ap (λ xs. take 4 (drop 4 octets) ++ xs) (set.stands
          ∙ ap (λ xs. set.set ++ xs) (drop-drop size 8 octets ∙ word_stands order octets (8 + size) (8 + size + 4) refl (omega arith) small)));
      spelled = set.spelled;
    }

-- ---- GAP

above_zero : (base : ℤ) → int_le base (pos 0) ≡ false → (unsigned_abs base == 0) ≡ false
above_zero (pos zero) above = absurd (grind (arith, nat_tests))
above_zero (pos (suc n)) above = grind (arith, nat_tests)
above_zero (negsuc n) above = absurd (grind (arith, nat_tests))

gap_rows : (order : Order) (octets : List ℕ) → gap.gap_fault order octets ≡ None
    → (nat_lt (length octets) 28 ≡ false) × (int_le (gap.start_number order octets) (pos 0) ≡ false)
    × ((number_set.is_bad (number_set.spelled_base order (drop 16 octets)) (number_set.spelled_count order (drop 16 octets)) || int_le (number_set.spelled_base order (drop 16 octets)) (pos 0)) ≡ false)
    × (nat_lt (length octets) (16 + number_set.octets_of_count (number_set.spelled_count order (drop 16 octets))) ≡ false)
gap_rows order octets good =
    let p = no_row _ _ _ good in
    let q = no_row _ _ _ p.1 in
    let r = no_row _ _ _ q.1 in
    let s = no_row _ _ _ r.1 in
    (p.0, q.0, r.0, s.0)

pub gap_spelled : (order : Order) (octets : List ℕ) → AreOctets octets → gap.gap_fault order octets ≡ None → spelling.SpellsGap order (gap.gap_of order octets) octets
gap_spelled order octets small good =
    let are = gap_rows order octets good in
    let long = at_least (length octets) 28 are.0 in
    let size = number_set.octets_of_count (number_set.spelled_count order (drop 16 octets)) in
    let enough = at_least (length octets) (16 + size) are.3 in
    let start_low = not_low (gap.start_number order octets) are.1 in
    let start_is = pos-unsigned_abs (gap.start_number order octets) start_low in
    let s = octets_spec.sequence_number_octets order (pos (unsigned_abs (gap.start_number order octets))) in
    let list = set_stands order (drop 16 octets) (neither _ _ are.2).0 (omega (arith, length-drop 16 octets)) (octets-drop octets 16 small) in
    record {
      list = list.set;
      ignored = drop size (drop 16 octets);
      parts = field_stands octets 0 4 4 refl
          ∙ ap (λ xs. take 4 octets ++ xs) (field_stands octets 4 4 8 refl
          ∙ ap (λ xs. take 4 (drop 4 octets) ++ xs) (number_stands order octets 8 16 _ refl (omega arith) small (sym start_is) (ap (int_le (pos 0)) start_is ∙ start_low)
          ∙ ap (λ xs. s ++ xs) list.stands));
      spelled = list.spelled;
      positive = above_zero (number_set.spelled_base order (drop 16 octets)) (neither _ _ are.2).1;
    }

-- ---- INFO_TS, INFO_DST and INFO_SRC

pub time_spelled : (order : Order) (flags : ℕ) (octets : List ℕ) → AreOctets octets → info.info_ts_fault flags octets ≡ None → spelling.SpellsTime order (info.info_ts_of order flags octets) octets
time_spelled order flags octets small good = by (bit_and flags 2 == 0) refl
  where
    by : (b : Bool) → (bit_and flags 2 == 0) ≡ b → spelling.SpellsTime order (info.info_ts_of order flags octets) octets
    by false is = rw is tt
    by true is =
        let row : nat_lt (length octets) 8 ≡ false = (no_row _ _ _ (rw is at good)).0 in
        let long = at_least (length octets) 8 row in
        rw is (drop 8 octets, word_stands order octets 0 4 refl (omega arith) small ∙ ap (λ xs. octets_spec.octets_of order 4 (octets_spec.number_of order 4 octets) ++ xs) (word_stands order octets 4 8 refl (omega arith) small))

pub destination_spelled : (octets : List ℕ) → info.info_dst_fault octets ≡ None → spelling.SpellsDestination (info.info_dst_of octets) octets
destination_spelled octets good = (drop 12 octets, field_stands octets 0 12 12 refl)

pub source_spelled : (octets : List ℕ) → info.info_src_fault octets ≡ None → spelling.SpellsSource (info.info_src_of octets).version (info.info_src_of octets).vendor (info.info_src_of octets).prefix octets
source_spelled octets good =
    let sized = no_row _ _ _ good in
    let long = at_least (length octets) 20 sized.0 in
    record {
      unused = take 4 octets;
      ignored = drop 20 octets;
      four = length-take-le 4 octets (omega arith);
      parts = field_stands octets 0 4 4 refl
          ∙ ap (λ xs. take 4 octets ++ xs) (octet_stands octets 4 5 refl (omega arith)
          ∙ ap (λ xs. slice_index octets 4 ∷ xs) (octet_stands octets 5 6 refl (omega arith)
          ∙ ap (λ xs. slice_index octets 5 ∷ xs) (field_stands octets 6 2 8 refl
          ∙ ap (λ xs. take 2 (drop 6 octets) ++ xs) (field_stands octets 8 12 20 refl))));
    }

-- ---- DATA

own_order : (order : Order) → lists.is_same_order order order ≡ true
own_order Order.Big = refl
own_order Order.Little = refl

qos_order : (order : Order) (flags : ℕ) (octets : List ℕ) → written_bodies.is_other_order order (data_spec.qos_of order flags octets) ≡ false
qos_order order flags octets = by (data_spec.has_qos flags) refl
  where
    by : (b : Bool) → data_spec.has_qos flags ≡ b → written_bodies.is_other_order order (data_spec.qos_of order flags octets) ≡ false
    by true is = rw (is, own_order order) refl
    by false is = rw is refl

qos_stands : (order : Order) (flags : ℕ) (octets : List ℕ) → octets ≡ data_spec.qos_octets (data_spec.qos_of order flags octets) ++ data_spec.behind_qos order flags octets
qos_stands order flags octets = by (data_spec.has_qos flags) refl
  where
    by : (b : Bool) → data_spec.has_qos flags ≡ b → octets ≡ data_spec.qos_octets (data_spec.qos_of order flags octets) ++ data_spec.behind_qos order flags octets
    by true is = rw is (sym (take-append-drop _ octets))
    by false is = rw is refl

payload_spelled : (flags : ℕ) (octets : List ℕ) → spelling.SpellsPayload (data_spec.payload_of flags octets) octets
payload_spelled flags octets = by (data_spec.has_data flags) (data_spec.has_key flags) refl refl
  where
    by : (d k : Bool) → data_spec.has_data flags ≡ d → data_spec.has_key flags ≡ k → spelling.SpellsPayload (data_spec.payload_of flags octets) octets
    by true k p q = rw p refl
    by false true p q = rw (p, q) refl
    by false false p q = rw (p, q) tt

five_rows : (a b c d e : Bool) (f g h i j : WireFault) → (if a then Some f else if b then Some g else if c then Some h else if d then Some i else if e then Some j else None) ≡ None
    → (a ≡ false) × (b ≡ false) × (c ≡ false) × (d ≡ false)
five_rows a b c d e f g h i j none =
    let p = no_row f a _ none in
    let q = no_row g b _ p.1 in
    let r = no_row h c _ q.1 in
    let s = no_row i d _ r.1 in
    (p.0, q.0, r.0, s.0)

data_rows : (order : Order) (flags : ℕ) (octets : List ℕ) → data_spec.data_fault order flags octets ≡ None
    → (nat_lt (length octets) 20 ≡ false) × ((data_spec.has_data flags && data_spec.has_key flags) ≡ false)
    × ((nat_lt (4 + data_spec.octets_to_inline_qos order octets) 20 || nat_lt (length octets) (4 + data_spec.octets_to_inline_qos order octets)) ≡ false)
    × (int_le (data_spec.data_number order octets) (pos 0) ≡ false)
data_rows order flags octets good = five_rows _ _ _ _ _ _ _ _ _ _ good

pub data_spelled : (order : Order) (flags : ℕ) (octets : List ℕ) → AreOctets octets → data_spec.data_fault order flags octets ≡ None
    → spelling.SpellsData order (data_spec.data_of order flags octets) octets
data_spelled order flags octets small good =
    let are = data_rows order flags octets good in
    let long = at_least (length octets) 20 are.0 in
    let offset = data_spec.octets_to_inline_qos order octets in
    let bounds = neither (nat_lt (4 + offset) 20) (nat_lt (length octets) (4 + offset)) are.2 in
    let above = at_least (4 + offset) 20 bounds.0 in
    let within = at_least (length octets) (4 + offset) bounds.1 in
    let skipped = take (offset - 16) (drop 20 octets) in
    let skipped_long : length skipped ≡ offset - 16 = length-take-le (offset - 16) (drop 20 octets) (omega (arith, length-drop 20 octets)) in
    let offset_is : 16 + length skipped ≡ offset = omega arith in
    let number_low = not_low (data_spec.data_number order octets) are.3 in
    let number_is = pos-unsigned_abs (data_spec.data_number order octets) number_low in
    let n = octets_spec.sequence_number_octets order (pos (unsigned_abs (data_spec.data_number order octets))) in
    let behind = data_spec.behind_fields order octets in
    record {
      extra_flags = take 2 octets;
      skipped = skipped;
      payload = data_spec.behind_qos order flags behind;
      two = length-take-le 2 octets (omega arith);
      near = rw offset_is (half_below order (drop 2 octets) (omega (arith, length-drop 2 octets)) (octets-drop octets 2 small));
      parts = field_stands octets 0 2 2 refl
          ∙ ap (λ xs. take 2 octets ++ xs) (half_stands order octets 2 4 refl (omega arith) small
          ∙ (ap (λ k. octets_spec.octets_of order 2 k ++ drop 4 octets) (sym offset_is)
          ∙ ap (λ xs. octets_spec.octets_of order 2 (16 + length skipped) ++ xs) (field_stands octets 4 4 8 refl
          ∙ ap (λ xs. take 4 (drop 4 octets) ++ xs) (field_stands octets 8 4 12 refl
          ∙ ap (λ xs. take 4 (drop 8 octets) ++ xs) (number_stands order octets 12 20 _ refl (omega arith) small (sym number_is) (ap (int_le (pos 0)) number_is ∙ number_low)
          ∙ ap (λ xs. n ++ xs) (field_stands octets 20 (offset - 16) (4 + offset) (omega arith)
          ∙ ap (λ xs. skipped ++ xs) (qos_stands order flags behind)))))));
      same_order = qos_order order flags behind;
      spelled = payload_spelled flags (data_spec.behind_qos order flags behind);
    }

pub one_kind : (order : Order) (flags : ℕ) (octets : List ℕ) → data_spec.data_fault order flags octets ≡ None → (data_spec.has_data flags && data_spec.has_key flags) ≡ false
one_kind order flags octets good = (data_rows order flags octets good).1

-- ---- what every body has that is read or held: sets that are fit, and a first field of its size

abbrev pub IsSized : values.BodyValue → Type 0
IsSized (values.BodyValue.Heartbeat body) = length body.reader.0 ≡ 4
IsSized (values.BodyValue.AckNack body) = (length body.reader.0 ≡ 4) × IsFit body.set
IsSized (values.BodyValue.Gap body) = (length body.reader.0 ≡ 4) × IsFit body.list
IsSized (values.BodyValue.InfoDst prefix) = length prefix.0 ≡ 12
IsSized _ = ⊤

pub held_sized : (value : values.BodyValue) → held.IsHeldBody value → IsSized value
held_sized (values.BodyValue.Data body) held = tt
held_sized (values.BodyValue.Heartbeat body) held = held.reader
held_sized (values.BodyValue.AckNack body) held = (held.reader, held_fits body.set held.set)
held_sized (values.BodyValue.Gap body) held = (held.reader, held_fits body.list held.list)
held_sized (values.BodyValue.InfoTs time) held = tt
held_sized (values.BodyValue.InfoDst prefix) held = held
held_sized (values.BodyValue.InfoSrc version vendor prefix) held = tt
held_sized (values.BodyValue.Skipped id) held = tt

pub heartbeat_sized : (order : Order) (octets : List ℕ) → heartbeat.heartbeat_fault order octets ≡ None → length (take 4 octets) ≡ 4
heartbeat_sized order octets good =
    let sized = no_row _ _ _ good in
    let long = at_least (length octets) 28 sized.0 in
    length-take-le 4 octets (omega arith)

pub ack_nack_sized : (order : Order) (flags : ℕ) (octets : List ℕ) → AreOctets octets → ack_nack.ack_nack_fault order octets ≡ None → IsSized (values.BodyValue.AckNack (ack_nack.ack_nack_of order flags octets))
ack_nack_sized order flags octets small good =
    let sized = no_row _ _ _ good in
    let set_good = no_row _ _ _ sized.1 in
    let whole = no_row _ _ _ set_good.1 in
    let long = at_least (length octets) 24 sized.0 in
    let enough = at_least (length octets) (ack_nack.count_place order octets + 4) whole.0 in
    (length-take-le 4 octets (omega arith), set_fits order (drop 8 octets) set_good.0 (omega (arith, length-drop 8 octets)) (octets-drop octets 8 small))

pub gap_sized : (order : Order) (octets : List ℕ) → AreOctets octets → gap.gap_fault order octets ≡ None → IsSized (values.BodyValue.Gap (gap.gap_of order octets))
gap_sized order octets small good =
    let are = gap_rows order octets good in
    let long = at_least (length octets) 28 are.0 in
    let enough = at_least (length octets) (16 + number_set.octets_of_count (number_set.spelled_count order (drop 16 octets))) are.3 in
    (length-take-le 4 octets (omega arith), set_fits order (drop 16 octets) (neither _ _ are.2).0 (omega (arith, length-drop 16 octets)) (octets-drop octets 16 small))

pub destination_sized : (octets : List ℕ) → info.info_dst_fault octets ≡ None → length (take 12 octets) ≡ 12
destination_sized octets good =
    let sized = no_row _ _ _ good in
    let long = at_least (length octets) 12 sized.0 in
    length-take-le 12 octets (omega arith)
