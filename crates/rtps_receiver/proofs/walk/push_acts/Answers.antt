use Rattle.std.proofs.Common.{◌≡◌, ◌≤◌, ◌+◌, ◌∷◌, [], ◌++◌, ℕ, Bool, true, false, List, Ok, ap, append_assoc, arith, cond, length, map, sym, ◌∙◌}
use Rattle.std.specs.Prelude.{◌||◌, is_some}
use Rattle.std.proofs.lemmas.List.{map-append}
use Rattle.std.proofs.lemmas.List.Sums.{sum_by-cons}
use Rattle.rtps_wire.proofs.Offered.{not_counted, skipped_first}
use Rattle.rtps_wire.specs.Reading as reading
use Rattle.rtps_wire.specs.Skipped as skipped
use Rattle.rtps_wire.specs.Tally as tally
use Rattle.rtps_wire.specs.Values as wire_values
use Rattle.rtps_receiver.specs.Acts as acts
use Rattle.rtps_receiver.specs.Values as values
use Rattle.rtps_receiver.proofs.ActSteps.{acts_behind-act, acts_behind-other, acts_behind-skipped}
use Rattle.rtps_receiver.proofs.walk.push_acts.Goals as goal
use Rattle.rtps_receiver.proofs.walk.push_acts.Goals.{In-Some-Ok}

-- what is left is one item more than this later part, of which so much is skipped and so much a fragment
record IsOneMore (left later : List reading.Outcome) (skipped fragments : ℕ) : Type 0 where
  fewer : 1 + length later ≡ length left
  skips : tally.skipped_in (reading.items_among left) ≡ skipped + tally.skipped_in (reading.items_among later)
  fragmented : tally.fragments_in (reading.items_among left) ≡ fragments + tally.fragments_in (reading.items_among later)
  refused : reading.refusal_among left ≡ reading.refusal_among later
  few_skipped : skipped ≤ 1
  few_fragments : fragments ≤ 1

one_more : (item : wire_values.ItemValue) (left later : List reading.Outcome) → left ≡ Ok item ∷ later
    → IsOneMore left later (cond (tally.is_skipped item.body) 1 0) (cond (tally.is_fragment item.body) 1 0)
one_more item left later next =
    record {
      fewer = omega (arith, ap length next);
      skips = ap (λ (o : List reading.Outcome). tally.skipped_in (reading.items_among o)) next ∙ sum_by-cons (λ (i : wire_values.ItemValue). cond (tally.is_skipped i.body) 1 0) item (reading.items_among later);
      fragmented = ap (λ (o : List reading.Outcome). tally.fragments_in (reading.items_among o)) next ∙ sum_by-cons (λ (i : wire_values.ItemValue). cond (tally.is_fragment i.body) 1 0) item (reading.items_among later);
      refused = ap reading.refusal_among next;
      few_skipped = small (tally.is_skipped item.body);
      few_fragments = small (tally.is_fragment item.body);
    }
  where
    small : (b : Bool) → cond b 1 0 ≤ 1
    small true = omega arith
    small false = omega arith

-- the item that is read, and that it is not counted
next_is : (c : In-Some-Ok) → reading.outcomes_left c.items.items ≡ Ok (wire_values.item_value c.in-Some-Ok.item) ∷ reading.outcomes_left c.next.new.self
next_is c =
    ap reading.outcomes_left (sym c.in_default.ensures.left) ∙ c.in-Some-Ok.ensures.steps ∙ ap (λ o. reading.outcome_value o ∷ reading.outcomes_left c.next.new.self) c.in-Some-Ok.field-0-is

more_read : (c : In-Some-Ok) → IsOneMore (reading.outcomes_left c.items.items) (reading.outcomes_left c.next.new.self) 0 0
more_read c =
    let item = wire_values.item_value c.in-Some-Ok.item in
    let apart = not_counted item.body (c.in_default.ensures.id ∙ ap skipped.skipped_next (next_is c)) in
    rw (apart.0, apart.1) at (one_more item (reading.outcomes_left c.items.items) (reading.outcomes_left c.next.new.self) (next_is c))

pub items-preserved-in-Some : goal.items-preserved-in-Some
items-preserved-in-Some c =
    let old = c.items.invariant in
    let left = reading.outcomes_left c.items.items in
    let later = reading.outcomes_left c.take_skipped.new.self in
    let first = skipped_first left c.in-Some.id c.in-Some.ensures.id in
    let item = first.0 in
    let next : left ≡ Ok item ∷ later = first.2 ∙ ap (λ l. Ok item ∷ l) (sym c.in-Some.ensures.left) in
    let more = one_more item left later next in
    let skips : c.one_if.result ≡ cond (tally.is_skipped item.body) 1 0 = c.one_if.ensures ∙ ap (λ b. cond b 1 0) (c.is_skipped.ensures ∙ sym (ap tally.is_skipped first.1)) in
    let fragments : c.one_if-in-Some.result ≡ cond (tally.is_fragment item.body) 1 0 = c.one_if-in-Some.ensures ∙ ap (λ b. cond b 1 0) (c.is_fragment.ensures ∙ sym (ap tally.is_fragment first.1)) in
    let step = ap (λ (o : List reading.Outcome). acts.acts_behind c.items.state [] (reading.items_among o)) next ∙ acts_behind-skipped c.items.state item (reading.items_among later) c.in-Some.id first.1 in (
      old.0,
      omega (arith, old.1, more.fewer, more.few_skipped, skips),
      omega (arith, old.2, more.fewer, more.few_fragments, fragments),
      omega (arith, old.3, more.skips, skips),
      omega (arith, old.4, more.fragmented, fragments),
      ap (λ r. c.items.tally.refused || is_some r) (sym more.refused) ∙ old.5,
      ap (λ l. map values.spoken_value c.items.acts.items ++ l) (sym step) ∙ old.6,
    )

pub items-preserved-in-Continue-1 : goal.items-preserved-in-Continue-1
items-preserved-in-Continue-1 c =
    let read = (goal.at.items-preserved-in-Continue-1 c).In-Some-Ok in
    let old = c.items.invariant in
    let state = c.items.state in
    let item = wire_values.item_value c.in-Some-Ok.item in
    let later = reading.outcomes_left c.next.new.self in
    let more = more_read read in
    let is = c.in-Some-spoken.ensures in
    let before = map values.spoken_value c.items.acts.items in
    let step = ap (λ (o : List reading.Outcome). acts.acts_behind state [] (reading.items_among o)) (next_is read) ∙ acts_behind-act state item (reading.items_among later) is.0 is.1 in (
      old.0,
      omega (arith, old.1, more.fewer),
      omega (arith, old.2, more.fewer),
      omega (arith, old.3, more.skips),
      omega (arith, old.4, more.fragmented),
      ap (λ r. c.items.tally.refused || is_some r) (sym more.refused) ∙ old.5,
      ap (λ l. l ++ acts.acts_behind state [] (reading.items_among later)) (ap (map values.spoken_value) c.in_ok-extend_from_slice-in-Some-Ok.ensures.items ∙ map-append values.spoken_value c.items.acts.items _ ∙ ap (λ l. before ++ map values.spoken_value l) c.from_ref.ensures.value)
          ∙ append_assoc before (values.spoken_value c.in-Some-spoken.act ∷ []) (acts.acts_behind state [] (reading.items_among later))
          ∙ ap (λ a. before ++ a ∷ acts.acts_behind state [] (reading.items_among later)) is.2
          ∙ ap (λ l. before ++ l) (sym step) ∙ old.6,
    )

pub items-preserved-in_default-spoken : goal.items-preserved-in_default-spoken
items-preserved-in_default-spoken c =
    let read = (goal.at.items-preserved-in_default-spoken c).In-Some-Ok in
    let old = c.items.invariant in
    let state = c.items.state in
    let item = wire_values.item_value c.in-Some-Ok.item in
    let later = reading.outcomes_left c.next.new.self in
    let more = more_read read in
    let before = map values.spoken_value c.items.acts.items in
    let step = ap (λ (o : List reading.Outcome). acts.acts_behind state [] (reading.items_among o)) (next_is read) ∙ acts_behind-other state item (reading.items_among later) c.in_default-spoken.ensures in (
      old.0,
      omega (arith, old.1, more.fewer),
      omega (arith, old.2, more.fewer),
      omega (arith, old.3, more.skips),
      omega (arith, old.4, more.fragmented),
      ap (λ r. c.items.tally.refused || is_some r) (sym more.refused) ∙ old.5,
      ap (λ s. before ++ acts.acts_behind s [] (reading.items_among later)) c.interpret.ensures ∙ ap (λ l. before ++ l) (sym step) ∙ old.6,
    )
