-- The state at a place, and the acts of a message, by its items.
use Rattle.std.proofs.Common.{◌≡◌, inl, inr, List, [], ◌∷◌, ◌++◌, Contains, Option, Some, None, refl, sym, ◌∙◌, ap, subst, append_assoc, arith, unwrap_or}
use Rattle.std.proofs.lemmas.List.{append-nil}
use Rattle.std.proofs.lemmas.List.Elements.{All-cons, All-nil, Contains-append_cases, Contains-append_left, Contains-append_right, Contains-push, Contains-push_cases}
use Rattle.std.specs.Prelude.{◌↔◌}
use Rattle.rtps_wire.specs.Message as message
use Rattle.rtps_wire.specs.Values as wire_values
use Rattle.rtps_wire.specs.declared.header.Header.{Header}
use Rattle.rtps_receiver.specs.Acts as acts
use Rattle.rtps_receiver.specs.Laws as laws
use Rattle.rtps_receiver.specs.Values as values
use Rattle.rtps_receiver.specs.declared.state.State.{State}

-- ---- what was said last

abbrev LastIs : {X : Type 0} → (wire_values.BodyValue → Option X) → List wire_values.ItemValue → Option X → Type 0
LastIs says items None = laws.IsSilent says items
LastIs says items (Some x) = laws.IsLastSaid says items x

one_before : {X : Type 0} (says : wire_values.BodyValue → Option X) (item : wire_values.ItemValue) (items : List wire_values.ItemValue) (last here : Option X)
    → LastIs says items last → says item.body ≡ here → LastIs says (item ∷ items) (acts.later last here)
one_before says item items (Some x) here it is =
    record { before = item ∷ it.before; item = it.item; behind = it.behind; split = ap (λ all. item ∷ all) it.split; said = it.said; silent = it.silent }
one_before says item items None (Some x) silent is = record { before = []; item = item; behind = items; split = refl; said = is; silent = silent }
one_before says item items None None silent is = All-cons (λ other. says other.body ≡ None) item items is silent

last_is : {X : Type 0} (says : wire_values.BodyValue → Option X) (items : List wire_values.ItemValue) → LastIs says items (acts.last_said says items)
last_is says [] = All-nil (λ other. says other.body ≡ None)
last_is says (item ∷ items) = one_before says item items (acts.last_said says items) (says item.body) (last_is says items) refl

stands : {X : Type 0} (says : wire_values.BodyValue → Option X) (items : List wire_values.ItemValue) (start : X) (last : Option X) → LastIs says items last → laws.Stands says items start (unwrap_or last start)
stands says items start (Some x) it = inl it
stands says items start None silent = inr (silent, refl)

pub state_stands : (start : State) (items : List wire_values.ItemValue) → laws.StandsBehind start items (acts.state_behind start items)
state_stands start items =
    record {
      source = stands acts.says_source items start.source (acts.last_said acts.says_source items) (last_is acts.says_source items);
      destination = stands acts.says_destination items start.dest (acts.last_said acts.says_destination items) (last_is acts.says_destination items);
      time = stands acts.says_time items start.stamp (acts.last_said acts.says_time items) (last_is acts.says_time items);
    }

-- ---- the acts of items

-- an act of one of the items, with the state behind `before` and all items before it
record IsActBehind (start : State) (before items : List wire_values.ItemValue) (act : values.ActValue) : Type 0 where
  between : List wire_values.ItemValue
  item : wire_values.ItemValue
  behind : List wire_values.ItemValue
  split : items ≡ between ++ item ∷ behind
  body : values.ActBodyValue
  is_act : acts.act_body item.body ≡ Some body
  value : act ≡ acts.act_at (acts.state_behind start (before ++ between)) item.at item.order body

none_in_nil : {X : Type 0} (x : X) → Contains [] x → ⊥
none_in_nil x there = omega (arith, there.1)

only_one : {X : Type 0} (x y : X) → Contains (x ∷ []) y → y ≡ x
only_one x y there = elim (Contains-push_cases [] x y there) [ inl none ↦ absurd (none_in_nil y none) | inr same ↦ sym same ]

here : (start : State) (before : List wire_values.ItemValue) (item : wire_values.ItemValue) (items : List wire_values.ItemValue) (act : values.ActValue) (body : Option values.ActBodyValue) → acts.act_body item.body ≡ body
    → Contains (acts.acts_of_item (acts.state_behind start before) item body) act → IsActBehind start before (item ∷ items) act
here start before item items act None is there = absurd (none_in_nil act there)
here start before item items act (Some body) is there =
    record {
      between = [];
      item = item;
      behind = items;
      split = refl;
      body = body;
      is_act = is;
      value = only_one _ act there ∙ ap (λ all. acts.act_at (acts.state_behind start all) item.at item.order body) (sym (append-nil before));
    }

one_further : (start : State) (before : List wire_values.ItemValue) (item : wire_values.ItemValue) (items : List wire_values.ItemValue) (act : values.ActValue)
    → IsActBehind start (before ++ item ∷ []) items act → IsActBehind start before (item ∷ items) act
one_further start before item items act it =
    record {
      between = item ∷ it.between;
      item = it.item;
      behind = it.behind;
      split = ap (λ all. item ∷ all) it.split;
      body = it.body;
      is_act = it.is_act;
      value = it.value ∙ ap (λ all. acts.act_at (acts.state_behind start all) it.item.at it.item.order it.body) (append_assoc before (item ∷ []) it.between);
    }

to_item : (start : State) (before items : List wire_values.ItemValue) (act : values.ActValue) → Contains (acts.acts_behind start before items) act → IsActBehind start before items act
to_item start before [] act there = absurd (none_in_nil act there)
to_item start before (item ∷ items) act there =
    elim (Contains-append_cases (acts.acts_of_item (acts.state_behind start before) item (acts.act_body item.body)) (acts.acts_behind start (before ++ item ∷ []) items) act there) [
      | inl first ↦ here start before item items act (acts.act_body item.body) refl first
      | inr later ↦ one_further start before item items act (to_item start (before ++ item ∷ []) items act later)
    ]

made : (state : State) (item : wire_values.ItemValue) (body : values.ActBodyValue) (act : values.ActValue) → acts.act_body item.body ≡ Some body → act ≡ acts.act_at state item.at item.order body
    → Contains (acts.acts_of_item state item (acts.act_body item.body)) act
made state item body act is value =
    subst (λ b. Contains (acts.acts_of_item state item b) act) (sym is)
    (subst (λ a. Contains (acts.act_at state item.at item.order body ∷ []) a) (sym value) (Contains-push [] (acts.act_at state item.at item.order body)))

from_item : (start : State) (before between : List wire_values.ItemValue) (item : wire_values.ItemValue) (behind : List wire_values.ItemValue) (act : values.ActValue)
    → Contains (acts.acts_of_item (acts.state_behind start (before ++ between)) item (acts.act_body item.body)) act → Contains (acts.acts_behind start before (between ++ item ∷ behind)) act
from_item start before [] item behind act there =
    Contains-append_left _ _ act (subst (λ all. Contains (acts.acts_of_item (acts.state_behind start all) item (acts.act_body item.body)) act) (append-nil before) there)
from_item start before (other ∷ between) item behind act there =
    Contains-append_right _ _ act (from_item start (before ++ other ∷ []) between item behind act
    (subst (λ all. Contains (acts.acts_of_item (acts.state_behind start all) item (acts.act_body item.body)) act) (sym (append_assoc before (other ∷ []) between)) there))

pub acts_are_of_items : (reading : message.Reading) (header : Header) (act : values.ActValue) → reading.header ≡ Some header → Contains (acts.acts_of reading) act ↔ laws.IsActOf header reading.items act
unfolding acts.acts_of
acts_are_of_items reading header act is = (to, from)
  where
    to : Contains (acts.acts_with reading.header reading.items) act → laws.IsActOf header reading.items act
    to there =
        let it = to_item (acts.state_at_start header) [] reading.items act (subst (λ h. Contains (acts.acts_with h reading.items) act) is there) in
        record { before = it.between; item = it.item; behind = it.behind; split = it.split; body = it.body; is_act = it.is_act; value = it.value }

    from : laws.IsActOf header reading.items act → Contains (acts.acts_with reading.header reading.items) act
    from it =
        subst (λ h. Contains (acts.acts_with h reading.items) act) (sym is)
        (subst (λ items. Contains (acts.acts_behind (acts.state_at_start header) [] items) act) (sym it.split)
        (from_item (acts.state_at_start header) [] it.before it.item it.behind act (made _ it.item it.body act it.is_act it.value)))
