use Rattle.std.proofs.Common.{◌≡◌, ◌∷◌, [], ◌++◌, true, false, List, Ok, Some, ap, append_assoc, map, refl, subst, sym, ◌∙◌}
use Rattle.std.proofs.lemmas.List.{map-append}
use Rattle.rtps_wire.proofs.Offered.{dataless_first}
use Rattle.rtps_wire.specs.Reading as reading
use Rattle.rtps_wire.specs.Values as wire_values
use Rattle.rtps_wire.specs.declared.body.DataBody.{DataBody}
use Rattle.rtps_wire.specs.declared.body.Body.{Body}
use Rattle.rtps_receiver.specs.Acts as acts
use Rattle.rtps_receiver.specs.Values as values
use Rattle.rtps_receiver.proofs.ActSteps.{data_behind-data, data_behind-other, data_behind-dataless, is_data_item}
use Rattle.rtps_receiver.proofs.walk.push_data.Goals as goal
use Rattle.rtps_receiver.proofs.walk.push_data.Goals.{In-Some-Ok}

pub items-preserved-then-take_dataless : goal.items-preserved-then-take_dataless
items-preserved-then-take_dataless c =
    let left = reading.outcomes_left c.items.items in
    let later = reading.outcomes_left c.take_dataless.new.self in
    let first = dataless_first left c.if-take_dataless.ensures.taken in
    let item = first.0 in
    let next : left ≡ Ok item ∷ later = first.2 ∙ ap (λ l. Ok item ∷ l) (sym c.if-take_dataless.ensures.left) in
    let step = ap (λ (o : List reading.Outcome). acts.data_among (acts.acts_behind c.items.state [] (reading.items_among o))) next ∙ data_behind-dataless c.items.state item (reading.items_among later) first.1 in
    ap (λ l. map values.spoken_value c.items.acts.items ++ l) (sym step) ∙ c.items.invariant

-- the item that is read
next_is : (c : In-Some-Ok) → reading.outcomes_left c.items.items ≡ Ok (wire_values.item_value c.in-Some-Ok.item) ∷ reading.outcomes_left c.next.new.self
next_is c =
    ap reading.outcomes_left (sym c.if-take_dataless.ensures.left) ∙ c.in-Some-Ok.ensures.steps ∙ ap (λ o. reading.outcome_value o ∷ reading.outcomes_left c.next.new.self) c.in-Some-Ok.field-0-is

-- what a DATA says
data_said : (body : Body) (data' : DataBody) (said : values.ActBodyValue) → body ≡ Body.Data data' → acts.act_body (wire_values.body_value body) ≡ Some said → acts.is_data said ≡ true
data_said body data' said is what = subst (λ b. acts.act_body (wire_values.body_value b) ≡ Some said → acts.is_data said ≡ true) (sym is) (λ e. cc) what

other_body : (body : Body) → ((data' : DataBody) → body ≡ Body.Data data' → ⊥) → is_data_item (wire_values.body_value body) ≡ false
other_body (Body.Data value) not = absurd (not value refl)
other_body (Body.Heartbeat value) not = refl
other_body (Body.AckNack value) not = refl
other_body (Body.Gap value) not = refl
other_body (Body.InfoTs time) not = refl
other_body (Body.InfoDst prefix) not = refl
other_body (Body.InfoSrc version vendor prefix) not = refl
other_body (Body.Skipped id) not = refl

pub items-preserved-in-Continue-1 : goal.items-preserved-in-Continue-1
items-preserved-in-Continue-1 c =
    let read = (goal.at.items-preserved-in-Continue-1 c).In-Some-Ok in
    let state = c.items.state in
    let item = wire_values.item_value c.in-Some-Ok.item in
    let later = reading.outcomes_left c.next.new.self in
    let is = c.in-Some.ensures in
    let before = map values.spoken_value c.items.acts.items in
    let data' = data_said c.in-Some-Ok.item.body c.in-Data.field-0 is.0 c.in-Data.is is.1 in
    let step = ap (λ (o : List reading.Outcome). acts.data_among (acts.acts_behind state [] (reading.items_among o))) (next_is read) ∙ data_behind-data state item (reading.items_among later) is.0 is.1 data' in
    ap (λ l. l ++ acts.data_among (acts.acts_behind state [] (reading.items_among later)))
    (ap (map values.spoken_value) c.in_ok-extend_from_slice-in-Data.ensures.items ∙ map-append values.spoken_value c.items.acts.items _ ∙ ap (λ l. before ++ map values.spoken_value l) c.from_ref.ensures.value)
    ∙ append_assoc before (values.spoken_value c.in-Some.act ∷ []) (acts.data_among (acts.acts_behind state [] (reading.items_among later)))
    ∙ ap (λ a. before ++ a ∷ acts.data_among (acts.acts_behind state [] (reading.items_among later))) is.2
    ∙ ap (λ l. before ++ l) (sym step) ∙ c.items.invariant

pub items-preserved-in_default : goal.items-preserved-in_default
items-preserved-in_default c =
    let read = (goal.at.items-preserved-in_default c).In-Some-Ok in
    let state = c.items.state in
    let item = wire_values.item_value c.in-Some-Ok.item in
    let later = reading.outcomes_left c.next.new.self in
    let before = map values.spoken_value c.items.acts.items in
    let step = ap (λ (o : List reading.Outcome). acts.data_among (acts.acts_behind state [] (reading.items_among o))) (next_is read)
    ∙ data_behind-other state item (reading.items_among later) (other_body c.in-Some-Ok.item.body c.in_default.not-Data) in
    ap (λ s. before ++ acts.data_among (acts.acts_behind s [] (reading.items_among later))) c.interpret.ensures ∙ ap (λ l. before ++ l) (sym step) ∙ c.items.invariant
