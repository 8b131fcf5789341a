-- What the reader of a submessage has taken apart is what the definitions name.
use Rattle.std.proofs.Common.{◌≡◌, ◌<◌, ◌≤◌, ℕ, Bool, true, false, List, Option, None, Some, length, drop, take, ap, arith, refl, sym, ◌∙◌}
use Rattle.std.specs.Prelude.{◌==◌, ◌&&◌, is_none, nat_lt}
use Rattle.std.proofs.lemmas.Bool.Decides.{nat_tests}
use Rattle.rtps_ids.specs.declared.order.Order.{Order}
use Rattle.rtps_wire.specs.Message as message
use Rattle.rtps_wire.specs.Skipped as skipped
use Rattle.rtps_wire.specs.Values as values
use Rattle.rtps_wire.specs.declared.fault.WireFault.{WireFault}
use Rattle.rtps_wire.proofs.Readings.{fault_at-body}
use Rattle.rtps_wire.proofs.Skips.{without_fault}

pub record IsTakenApart (rest body : List ℕ) (taken : ℕ) : Type 0 where
  pub size : taken ≡ message.body_length rest
  pub octets : body ≡ message.body_octets rest
  pub fault : message.fault_at rest ≡ message.body_fault (message.id_of rest) (message.flags_of rest) body

pub taken_apart : (rest behind octets : List ℕ) (declared size : ℕ) → 4 ≤ length rest → behind ≡ drop 4 rest → declared ≡ message.octets_to_next_header rest
    → declared ≤ length behind → size ≡ message.extent_of (message.id_of rest) declared (length behind) → octets ≡ take size behind → IsTakenApart rest octets size
taken_apart rest behind octets declared size whole behind_is declared_is within size_is octets_is =
    let enough : message.octets_to_next_header rest ≤ length (drop 4 rest) = rw (← declared_is, ← behind_is) within in
    let same_size : size ≡ message.body_length rest = rw (← declared_is, ← behind_is) size_is in
    let same_octets : octets ≡ message.body_octets rest = rw (← same_size, ← behind_is) octets_is in
    record {
      size = same_size;
      octets = same_octets;
      fault = fault_at-body rest whole enough ∙ ap (message.body_fault (message.id_of rest) (message.flags_of rest)) (sym same_octets);
    }

-- the item of these parts
pub item_of_parts : (rest octets : List ℕ) (at : ℕ) (order : Order) (body : values.BodyValue) → order ≡ message.order_of (message.flags_of rest) → octets ≡ message.body_octets rest
    → body ≡ message.body_of (message.id_of rest) (message.flags_of rest) octets → ◌≡◌ {A = values.ItemValue} (record { at = at; order = order; body = body }) (message.item_at rest at)
unfolding message.item_at
item_of_parts rest octets at order body order_is octets_is body_is =
    let same : body ≡ message.body_of (message.id_of rest) (message.flags_of rest) (message.body_octets rest) = body_is ∙ ap (message.body_of (message.id_of rest) (message.flags_of rest)) octets_is in
    let with_order : Order → values.ItemValue = λ o. record { at = at; order = o; body = body } in
    let with_body : values.BodyValue → values.ItemValue = λ b. record { at = at; order = message.order_of (message.flags_of rest); body = b } in
    ap with_order order_is ∙ ap with_body same

-- ---- a submessage of one id

-- it is another one
pub other_id : (id : ℕ) (rest : List ℕ) → (message.id_of rest ≡ id → ⊥) → skipped.begins_with id rest ≡ false
other_id id rest other = by (message.id_of rest == id) refl
  where
    by : (b : Bool) → (message.id_of rest == id) ≡ b → (b && is_none (message.fault_at rest)) ≡ false
    by true e = absurd (other (grind (arith, nat_tests)))
    by false e = refl

with_fault : (id : ℕ) (rest : List ℕ) (fault : WireFault) → message.fault_at rest ≡ Some fault → skipped.begins_with id rest ≡ false
with_fault id rest fault is = by (message.id_of rest == id) (message.fault_at rest) is
  where
    by : (b : Bool) (found : Option WireFault) → found ≡ Some fault → (b && is_none found) ≡ false
    by true found is = rw is refl
    by false found is = refl

-- it is cut, and it overruns
pub whole_not_cut : (id : ℕ) (rest : List ℕ) → length rest < 4 → skipped.begins_with id rest ≡ false
unfolding message.fault_at
whole_not_cut id rest short =
    let cut : nat_lt (length rest) 4 ≡ true = grind (arith, nat_tests) in
    let fault : message.fault_at rest ≡ Some WireFault.CutHeader = rw cut refl in
    with_fault id rest WireFault.CutHeader fault

pub whole_not_overrun : (id : ℕ) (rest : List ℕ) → 4 ≤ length rest → length (drop 4 rest) < message.octets_to_next_header rest → skipped.begins_with id rest ≡ false
unfolding message.fault_at
whole_not_overrun id rest whole beyond =
    let not_cut : nat_lt (length rest) 4 ≡ false = grind (arith, nat_tests) in
    let over : nat_lt (length (drop 4 rest)) (message.octets_to_next_header rest) ≡ true = grind (arith, nat_tests) in
    let fault : message.fault_at rest ≡ Some WireFault.Overrun = rw (not_cut, over) refl in
    with_fault id rest WireFault.Overrun fault

-- it is taken apart, and its id is not read
pub whole_parts : (id : ℕ) (rest body : List ℕ) (size : ℕ) → skipped.is_read id ≡ false → message.id_of rest ≡ id → IsTakenApart rest body size → skipped.begins_with id rest ≡ true
whole_parts id rest body size skipped is parts =
    let good : message.fault_at rest ≡ None = parts.fault ∙ ap (λ id. message.body_fault id (message.flags_of rest) body) is ∙ without_fault id (message.flags_of rest) body skipped in
    rw (is, good) (by id)
  where
    by : (n : ℕ) → (n == n && true) ≡ true
    by n = grind (arith, nat_tests)
