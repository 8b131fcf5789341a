-- The acts that are left, one item at a time.
use Rattle.std.proofs.Common.{◌≡◌, ℕ, Bool, true, false, List, [], ◌∷◌, ◌++◌, Option, Some, None, Ok, Err, length, ◌+◌, ◌≤◌, arith, refl, ap, sym, ◌∙◌, append_assoc, option_to_list, unwrap_or}
use Rattle.std.proofs.lemmas.List.{length-append}
use Rattle.rtps_wire.proofs.Offered.{refusal_is_last}
use Rattle.rtps_wire.specs.Reading as reading_spec
use Rattle.rtps_wire.specs.Dataless as dataless
use Rattle.rtps_wire.specs.Message as message
use Rattle.rtps_wire.specs.Values as wire_values
use Rattle.rtps_wire.specs.declared.fault.Refusal.{Refusal}
use Rattle.rtps_wire.specs.declared.fault.WireFault.{WireFault}
use Rattle.rtps_wire.specs.declared.header.Header.{Header}
use Rattle.rtps_ids.specs.declared.identity.GuidPrefix.{GuidPrefix}
use Rattle.rtps_ids.specs.declared.identity.Stamp.{Stamp}
use Rattle.rtps_receiver.specs.Acts as acts_spec
use Rattle.rtps_receiver.specs.Values as values
use Rattle.rtps_receiver.specs.declared.state.State.{State}

later-assoc : {X : Type 0} (x y z : Option X) → acts_spec.later x (acts_spec.later y z) ≡ acts_spec.later (acts_spec.later x y) z
later-assoc (Some x) y z = refl
later-assoc None y z = refl

later-none : {X : Type 0} (x : Option X) → acts_spec.later x None ≡ x
later-none (Some x) = refl
later-none None = refl

unwrap_or-later : {X : Type 0} (x y : Option X) (d : X) → unwrap_or (acts_spec.later x y) d ≡ unwrap_or x (unwrap_or y d)
unwrap_or-later (Some x) y d = refl
unwrap_or-later None y d = refl

last_said-append : {X : Type 0} (says : wire_values.BodyValue → Option X) (before items : List wire_values.ItemValue) → acts_spec.last_said says (before ++ items) ≡ acts_spec.later (acts_spec.last_said says items) (acts_spec.last_said says before)
last_said-append says [] items = sym (later-none (acts_spec.last_said says items))
last_said-append says (item ∷ before) items =
    ap (λ said. acts_spec.later said (says item.body)) (last_said-append says before items) ∙ sym (later-assoc (acts_spec.last_said says items) (acts_spec.last_said says before) (says item.body))

said_behind : {X : Type 0} (says : wire_values.BodyValue → Option X) (before items : List wire_values.ItemValue) (start : X)
    → unwrap_or (acts_spec.last_said says (before ++ items)) start ≡ unwrap_or (acts_spec.last_said says items) (unwrap_or (acts_spec.last_said says before) start)
said_behind says before items start =
    ap (λ said. unwrap_or said start) (last_said-append says before items) ∙ unwrap_or-later (acts_spec.last_said says items) (acts_spec.last_said says before) start

state_is : (source source' : Header) (dest dest' : Option GuidPrefix) (stamp stamp' : Option Stamp) → source ≡ source' → dest ≡ dest' → stamp ≡ stamp'
    → ◌≡◌ {A = State} (record { source = source; dest = dest; stamp = stamp }) (record { source = source'; dest = dest'; stamp = stamp' })
state_is source source' dest dest' stamp stamp' p q r =
    let with_source : Header → State = λ s. record { source = s; dest = dest; stamp = stamp } in
    let with_dest : Option GuidPrefix → State = λ d. record { source = source'; dest = d; stamp = stamp } in
    let with_stamp : Option Stamp → State = λ t. record { source = source'; dest = dest'; stamp = t } in
    ap with_source p ∙ (ap with_dest q ∙ ap with_stamp r)

-- the state behind items is the state behind the later of them, from the state behind the earlier on
state_behind-append : (start : State) (before items : List wire_values.ItemValue) → acts_spec.state_behind start (before ++ items) ≡ acts_spec.state_behind (acts_spec.state_behind start before) items
state_behind-append start before items =
    state_is _ _ _ _ _ _ (said_behind acts_spec.says_source before items start.source) (said_behind acts_spec.says_destination before items start.dest) (said_behind acts_spec.says_time before items start.stamp)

-- what stands before counts by the state behind it alone
gathered-append : {X : Type 0} (gives : State → wire_values.ItemValue → List X) (start : State) (before middle items : List wire_values.ItemValue)
    → acts_spec.gathered gives start (before ++ middle) items ≡ acts_spec.gathered gives (acts_spec.state_behind start before) middle items
gathered-append gives start before middle [] = refl
gathered-append gives start before middle (item ∷ items) =
    let rest : acts_spec.gathered gives start ((before ++ middle) ++ item ∷ []) items ≡ acts_spec.gathered gives (acts_spec.state_behind start before) (middle ++ item ∷ []) items =
    ap (λ all. acts_spec.gathered gives start all items) (append_assoc before middle (item ∷ [])) ∙ gathered-append gives start before (middle ++ item ∷ []) items in
    ap (λ state. gives state item ++ acts_spec.gathered gives start ((before ++ middle) ++ item ∷ []) items) (state_behind-append start before middle)
    ∙ ap (λ more. gives (acts_spec.state_behind (acts_spec.state_behind start before) middle) item ++ more) rest

-- what is gathered behind one item is gathered from the state behind it on
pub gathered-behind : {X : Type 0} (gives : State → wire_values.ItemValue → List X) (state : State) (item : wire_values.ItemValue) (items : List wire_values.ItemValue)
    → acts_spec.gathered gives state (item ∷ []) items ≡ acts_spec.gathered gives (acts_spec.state_behind state (item ∷ [])) [] items
gathered-behind gives state item items = gathered-append gives state (item ∷ []) [] items

-- the acts behind one item
acts_behind-one : (state : State) (item : wire_values.ItemValue) (items : List wire_values.ItemValue) → acts_spec.acts_behind state (item ∷ []) items ≡ acts_spec.acts_behind (acts_spec.state_behind state (item ∷ [])) [] items
acts_behind-one state item items = gathered-behind (λ s i. acts_spec.acts_of_item s i (acts_spec.act_body i.body)) state item items

-- an act leaves the state as it is
act_says_nothing : (state : State) (item : wire_values.ItemValue) (body : wire_values.BodyValue) (act : values.ActBodyValue) → item.body ≡ body → acts_spec.act_body body ≡ Some act → acts_spec.state_behind state (item ∷ []) ≡ state
act_says_nothing state item (wire_values.BodyValue.Data value) act is said = rw is refl
act_says_nothing state item (wire_values.BodyValue.Heartbeat value) act is said = rw is refl
act_says_nothing state item (wire_values.BodyValue.AckNack value) act is said = rw is refl
act_says_nothing state item (wire_values.BodyValue.Gap value) act is said = rw is refl
act_says_nothing state item (wire_values.BodyValue.InfoTs time) act is said = cc
act_says_nothing state item (wire_values.BodyValue.InfoDst prefix) act is said = cc
act_says_nothing state item (wire_values.BodyValue.InfoSrc version vendor prefix) act is said = cc
act_says_nothing state item (wire_values.BodyValue.Skipped id) act is said = cc

-- the acts of items, by the first of them
pub acts_behind-act : (state : State) (item : wire_values.ItemValue) (items : List wire_values.ItemValue) (body : values.ActBodyValue) → acts_spec.act_body item.body ≡ Some body
    → acts_spec.acts_behind state [] (item ∷ items) ≡ acts_spec.act_at state item.at item.order body ∷ acts_spec.acts_behind state [] items
acts_behind-act state item items body is =
    ap (λ b. acts_spec.acts_of_item state item b ++ acts_spec.acts_behind state (item ∷ []) items) is
    ∙ ap (λ acts. acts_spec.act_at state item.at item.order body ∷ acts)
    (acts_behind-one state item items ∙ ap (λ s. acts_spec.acts_behind s [] items) (act_says_nothing state item item.body body refl is))

pub acts_behind-other : (state : State) (item : wire_values.ItemValue) (items : List wire_values.ItemValue) → acts_spec.act_body item.body ≡ None
    → acts_spec.acts_behind state [] (item ∷ items) ≡ acts_spec.acts_behind (acts_spec.state_behind state (item ∷ [])) [] items
acts_behind-other state item items none =
    ap (λ b. acts_spec.acts_of_item state item b ++ acts_spec.acts_behind state (item ∷ []) items) none ∙ acts_behind-one state item items

-- what is skipped is no act, and leaves the state as it is
pub acts_behind-skipped : (state : State) (item : wire_values.ItemValue) (items : List wire_values.ItemValue) (id : ℕ) → item.body ≡ wire_values.BodyValue.Skipped id
    → acts_spec.acts_behind state [] (item ∷ items) ≡ acts_spec.acts_behind state [] items
acts_behind-skipped state item items id is =
    let same : acts_spec.state_behind state (item ∷ []) ≡ state = rw is refl in
    acts_behind-other state item items (ap acts_spec.act_body is) ∙ ap (λ s. acts_spec.acts_behind s [] items) same

-- ---- what is left, by what is read next

abbrev awaited : State → reading_spec.Unread → acts_spec.Awaited
awaited state unread = record { state = state; unread = unread }

-- what is left of these outcomes
abbrev left_of : State → List reading_spec.Outcome → List acts_spec.ActOutcome
left_of state results = acts_spec.acts_then (acts_spec.acts_behind state [] (reading_spec.items_among results)) (reading_spec.refusal_among results)

pub acts_left-done : (state : State) (unread : reading_spec.Unread) → reading_spec.outcomes_left unread ≡ [] → acts_spec.acts_left (awaited state unread) ≡ []
unfolding acts_spec.acts_left
acts_left-done state unread done = ap (left_of state) done

-- an item that is no act
pub acts_left-heard : (state : State) (old new : reading_spec.Unread) (item : wire_values.ItemValue) → reading_spec.outcomes_left old ≡ Ok item ∷ reading_spec.outcomes_left new → acts_spec.act_body item.body ≡ None
    → acts_spec.acts_left (awaited state old) ≡ acts_spec.acts_left (awaited (acts_spec.state_behind state (item ∷ [])) new)
unfolding acts_spec.acts_left
acts_left-heard state old new item next none =
    ap (left_of state) next ∙ ap (λ acts. acts_spec.acts_then acts (reading_spec.refusal_among (reading_spec.outcomes_left new))) (acts_behind-other state item (reading_spec.items_among (reading_spec.outcomes_left new)) none)

-- an act
pub acts_left-act : (state : State) (old new : reading_spec.Unread) (item : wire_values.ItemValue) (body : values.ActBodyValue) → reading_spec.outcomes_left old ≡ Ok item ∷ reading_spec.outcomes_left new → acts_spec.act_body item.body ≡ Some body
    → acts_spec.acts_left (awaited state old) ≡ Ok (acts_spec.act_at state item.at item.order body) ∷ acts_spec.acts_left (awaited state new)
unfolding acts_spec.acts_left
acts_left-act state old new item body next is =
    ap (left_of state) next ∙ ap (λ acts. acts_spec.acts_then acts (reading_spec.refusal_among (reading_spec.outcomes_left new))) (acts_behind-act state item (reading_spec.items_among (reading_spec.outcomes_left new)) body is)

-- a refusal
pub acts_left-refused : (state : State) (old new : reading_spec.Unread) (refusal : Refusal) → reading_spec.outcomes_left old ≡ Err refusal ∷ reading_spec.outcomes_left new
    → acts_spec.acts_left (awaited state old) ≡ Err refusal ∷ acts_spec.acts_left (awaited state new)
unfolding acts_spec.acts_left
acts_left-refused state old new refusal next =
    let done : reading_spec.outcomes_left new ≡ [] = refusal_is_last old refusal (reading_spec.outcomes_left new) next in
    ap (left_of state) next ∙ (ap (λ results. left_of state (Err refusal ∷ results)) done ∙ ap (λ results. Err refusal ∷ left_of state results) (sym done))

-- what is left behind the header is all
pub acts_left-opened : (reading : message.Reading) (header : Header) (state : State) (unread : reading_spec.Unread) → reading ≡ reading_spec.read_as header (reading_spec.outcomes_left unread) → state ≡ acts_spec.state_at_start header
    → acts_spec.acts_left (awaited state unread) ≡ acts_spec.acts_then (acts_spec.acts_of reading) reading.ending
unfolding acts_spec.acts_left acts_spec.acts_of
acts_left-opened reading header state unread is state_is = rw (is, state_is) refl

pub acts_of-read : (reading : message.Reading) (header : Header) (state : State) (unread : reading_spec.Unread) → reading ≡ reading_spec.read_as header (reading_spec.outcomes_left unread) → state ≡ acts_spec.state_at_start header
    → acts_spec.acts_of reading ≡ acts_spec.acts_behind state [] (reading_spec.items_among (reading_spec.outcomes_left unread))
unfolding acts_spec.acts_of
acts_of-read reading header state unread is state_is = rw (is, state_is) refl

pub acts_of-refused : (reading : message.Reading) (fault : WireFault) → reading ≡ reading_spec.refused_with fault → acts_spec.acts_of reading ≡ []
unfolding acts_spec.acts_of
acts_of-refused reading fault is = rw is refl

pub acts_among-then : (acts : List values.ActValue) (ending : Option Refusal) → acts_spec.acts_among (acts_spec.acts_then acts ending) ≡ acts
acts_among-then [] None = refl
acts_among-then [] (Some refusal) = refl
acts_among-then (act ∷ acts) ending = ap (λ more. act ∷ more) (acts_among-then acts ending)

-- ---- how many there are: an item is one act at most

one_act : (state : State) (item : wire_values.ItemValue) (body : Option values.ActBodyValue) → length (acts_spec.acts_of_item state item body) ≤ 1
one_act state item None = omega arith
one_act state item (Some body) = omega arith

few_behind : (start : State) (before items : List wire_values.ItemValue) → length (acts_spec.acts_behind start before items) ≤ length items
few_behind start before [] = omega arith
few_behind start before (item ∷ items) =
    omega (
      arith,
      length-append (acts_spec.acts_of_item (acts_spec.state_behind start before) item (acts_spec.act_body item.body)) (acts_spec.acts_behind start (before ++ item ∷ []) items),
      one_act (acts_spec.state_behind start before) item (acts_spec.act_body item.body),
      few_behind start (before ++ item ∷ []) items,
    )

items_and_refusal : (results : List reading_spec.Outcome) → length (reading_spec.items_among results) + length (option_to_list (reading_spec.refusal_among results)) ≤ length results
items_and_refusal [] = omega arith
items_and_refusal (Ok item ∷ results) = omega (arith, items_and_refusal results)
items_and_refusal (Err refusal ∷ results) = omega (arith, items_and_refusal results)

length-then : (acts : List values.ActValue) (ending : Option Refusal) → length (acts_spec.acts_then acts ending) ≡ length acts + length (option_to_list ending)
length-then [] None = refl
length-then [] (Some refusal) = refl
length-then (act ∷ acts) ending = omega (arith, length-then acts ending)

pub few_left : (state : State) (unread : reading_spec.Unread) → length (acts_spec.acts_left (awaited state unread)) ≤ length (reading_spec.outcomes_left unread)
unfolding acts_spec.acts_left
few_left state unread =
    omega (
      arith,
      length-then (acts_spec.acts_behind state [] (reading_spec.items_among (reading_spec.outcomes_left unread))) (reading_spec.refusal_among (reading_spec.outcomes_left unread)),
      few_behind state [] (reading_spec.items_among (reading_spec.outcomes_left unread)),
      items_and_refusal (reading_spec.outcomes_left unread),
    )

-- ---- the DATA among acts

abbrev pub is_data_item : wire_values.BodyValue → Bool
is_data_item (wire_values.BodyValue.Data value) = true
is_data_item _ = false

-- a DATA first
pub data_behind-data : (state : State) (item : wire_values.ItemValue) (items : List wire_values.ItemValue) (body : values.ActBodyValue) → acts_spec.act_body item.body ≡ Some body → acts_spec.is_data body ≡ true
    → acts_spec.data_among (acts_spec.acts_behind state [] (item ∷ items)) ≡ acts_spec.act_at state item.at item.order body ∷ acts_spec.data_among (acts_spec.acts_behind state [] items)
data_behind-data state item items body is said = ap acts_spec.data_among (acts_behind-act state item items body is) ∙ rw said refl

-- another item first
pub data_behind-other : (state : State) (item : wire_values.ItemValue) (items : List wire_values.ItemValue) → is_data_item item.body ≡ false
    → acts_spec.data_among (acts_spec.acts_behind state [] (item ∷ items)) ≡ acts_spec.data_among (acts_spec.acts_behind (acts_spec.state_behind state (item ∷ [])) [] items)
data_behind-other state item items other = by_body item.body refl other
  where
    act : (body : wire_values.BodyValue) (said : values.ActBodyValue) → item.body ≡ body → acts_spec.act_body body ≡ Some said → acts_spec.is_data said ≡ false
        → acts_spec.data_among (acts_spec.acts_behind state [] (item ∷ items)) ≡ acts_spec.data_among (acts_spec.acts_behind (acts_spec.state_behind state (item ∷ [])) [] items)
    act body said is what none =
        ap acts_spec.data_among (acts_behind-act state item items said (ap acts_spec.act_body is ∙ what)) ∙ rw none refl
        ∙ ap (λ s. acts_spec.data_among (acts_spec.acts_behind s [] items)) (sym (act_says_nothing state item body said is what))

    by_body : (body : wire_values.BodyValue) → item.body ≡ body → is_data_item body ≡ false
        → acts_spec.data_among (acts_spec.acts_behind state [] (item ∷ items)) ≡ acts_spec.data_among (acts_spec.acts_behind (acts_spec.state_behind state (item ∷ [])) [] items)
    by_body (wire_values.BodyValue.Data value) is not = cc
    by_body (wire_values.BodyValue.Heartbeat value) is not = act (wire_values.BodyValue.Heartbeat value) _ is refl refl
    by_body (wire_values.BodyValue.AckNack value) is not = act (wire_values.BodyValue.AckNack value) _ is refl refl
    by_body (wire_values.BodyValue.Gap value) is not = act (wire_values.BodyValue.Gap value) _ is refl refl
    by_body (wire_values.BodyValue.InfoTs time) is not = ap acts_spec.data_among (acts_behind-other state item items (ap acts_spec.act_body is))
    by_body (wire_values.BodyValue.InfoDst prefix) is not = ap acts_spec.data_among (acts_behind-other state item items (ap acts_spec.act_body is))
    by_body (wire_values.BodyValue.InfoSrc version vendor prefix) is not = ap acts_spec.data_among (acts_behind-other state item items (ap acts_spec.act_body is))
    by_body (wire_values.BodyValue.Skipped id) is not = ap acts_spec.data_among (acts_behind-other state item items (ap acts_spec.act_body is))

-- an item first that is passed over
pub data_behind-dataless : (state : State) (item : wire_values.ItemValue) (items : List wire_values.ItemValue) → dataless.is_dataless item.body ≡ true
    → acts_spec.data_among (acts_spec.acts_behind state [] (item ∷ items)) ≡ acts_spec.data_among (acts_spec.acts_behind state [] items)
data_behind-dataless state item items is = by_body item.body refl is
  where
    said : (body : wire_values.BodyValue) (act : values.ActBodyValue) → item.body ≡ body → acts_spec.act_body body ≡ Some act → is_data_item body ≡ false
        → acts_spec.data_among (acts_spec.acts_behind state [] (item ∷ items)) ≡ acts_spec.data_among (acts_spec.acts_behind state [] items)
    said body act what says none =
        data_behind-other state item items (ap is_data_item what ∙ none)
        ∙ ap (λ s. acts_spec.data_among (acts_spec.acts_behind s [] items)) (act_says_nothing state item body act what says)

    by_body : (body : wire_values.BodyValue) → item.body ≡ body → dataless.is_dataless body ≡ true
        → acts_spec.data_among (acts_spec.acts_behind state [] (item ∷ items)) ≡ acts_spec.data_among (acts_spec.acts_behind state [] items)
    by_body (wire_values.BodyValue.Data value) what is = cc
    by_body (wire_values.BodyValue.InfoTs time) what is = cc
    by_body (wire_values.BodyValue.InfoDst prefix) what is = cc
    by_body (wire_values.BodyValue.InfoSrc version vendor prefix) what is = cc
    by_body (wire_values.BodyValue.Heartbeat value) what is = said (wire_values.BodyValue.Heartbeat value) _ what refl refl
    by_body (wire_values.BodyValue.AckNack value) what is = said (wire_values.BodyValue.AckNack value) _ what refl refl
    by_body (wire_values.BodyValue.Gap value) what is = said (wire_values.BodyValue.Gap value) _ what refl refl
    by_body (wire_values.BodyValue.Skipped id) what is = ap acts_spec.data_among (acts_behind-skipped state item items id what)
