-- The order of acts by their places.
use Rattle.std.proofs.Common.{◌≡◌, ◌∙◌, ℕ, zero, suc, ◌+◌, ◌<◌, ◌≤◌, ◌==◌, ◌&&◌, ◌||◌, ◌⊎◌, Bool, true, false, nat_lt, length, map, List, [], ◌∷◌, ◌++◌, Option, Some, None, refl, sym, subst, arith, inl, inr}
use Rattle.std.proofs.lemmas.Bool.{and_parts, ltb-true, eqb-true, or_cases}
use Rattle.std.proofs.lemmas.Bool.Decides.{nat_tests}
use Rattle.rtps_wire.specs.Header as header
use Rattle.rtps_wire.specs.Message as message
use Rattle.rtps_wire.specs.Reading as reading
use Rattle.rtps_wire.specs.Values as wire_values
use Rattle.rtps_wire.specs.declared.fault.WireFault.{WireFault}
use Rattle.rtps_receiver.specs.Acts as acts
use Rattle.rtps_receiver.specs.Values as receiver_values
use Rattle.rtps_receiver.specs.declared.state.State.{State}
use Rattle.rtps_audit.specs.Placed as placed
use Rattle.rtps_audit.specs.Said as said
use Rattle.rtps_audit.specs.Speech as speech
use Rattle.rtps_evidence.specs.Locations as locations
use Rattle.rtps_evidence.specs.UnansweredLaw as unanswered_law
use Rattle.rtps_evidence.specs.declared.location.Location.{Location}

-- ---- places

-- one place stands before another
abbrev pub precedes : Location → Location → Bool
precedes one other = nat_lt one.datagram other.datagram || ((one.datagram == other.datagram) && nat_lt one.at other.at)

abbrev pub Before : Location → Location → Type 0
Before one other = (one.datagram < other.datagram) ⊎ ((one.datagram ≡ other.datagram) × (one.at < other.at))

-- it does, or it is the same
abbrev pub NotAfter : Location → Location → Type 0
NotAfter one other = (one.datagram < other.datagram) ⊎ ((one.datagram ≡ other.datagram) × (one.at ≤ other.at))

pub is_before : (one other : Location) → Before one other → precedes one other ≡ true
is_before one other h = grind (arith, nat_tests)

pub is_not_before : (one other : Location) → NotAfter one other → precedes other one ≡ false
is_not_before one other h = grind (arith, nat_tests)

before_is : (one other : Location) → precedes one other ≡ true → Before one other
before_is one other is = elim (or_cases _ _ is) [
  | inl lt ↦ inl (ltb-true one.datagram other.datagram lt)
  | inr at ↦ let parts = and_parts (one.datagram == other.datagram) (nat_lt one.at other.at) at in inr (eqb-true one.datagram other.datagram parts.0, ltb-true one.at other.at parts.1)
]

pub same_place : (one : Location) → NotAfter one one
same_place one = inr (refl, omega arith)

weaker : (one other : Location) → Before one other → NotAfter one other
weaker one other (inl lt) = inl lt
weaker one other (inr (same, lt)) = inr (same, omega arith)

not_after : (one other third : Location) → NotAfter one other → NotAfter other third → NotAfter one third
not_after one other third (inl a) (inl b) = inl (omega arith)
not_after one other third (inl a) (inr (same, b)) = inl (omega arith)
not_after one other third (inr (same, a)) (inl b) = inl (omega arith)
not_after one other third (inr (same, a)) (inr (again, b)) = inr (same ∙ again, omega arith)

before_then : (one other third : Location) → Before one other → NotAfter other third → Before one third
before_then one other third (inl a) (inl b) = inl (omega arith)
before_then one other third (inl a) (inr (same, b)) = inl (omega arith)
before_then one other third (inr (same, a)) (inl b) = inl (omega arith)
before_then one other third (inr (same, a)) (inr (again, b)) = inr (same ∙ again, omega arith)

then_before : (one other third : Location) → NotAfter one other → Before other third → Before one third
then_before one other third (inl a) (inl b) = inl (omega arith)
then_before one other third (inl a) (inr (same, b)) = inl (omega arith)
then_before one other third (inr (same, a)) (inl b) = inl (omega arith)
then_before one other third (inr (same, a)) (inr (again, b)) = inr (same ∙ again, omega arith)

-- ---- acts in order

-- each of these has it
abbrev pub Each : {X : Type 0} → (X → Type 0) → List X → Type 0
Each P [] = Unit {0}
Each P (x ∷ xs) = P x × Each P xs

pub each_weaker : {X : Type 0} (P Q : X → Type 0) → ((x : X) → P x → Q x) → (xs : List X) → Each P xs → Each Q xs
each_weaker P Q h [] all = tt
each_weaker P Q h (x ∷ xs) (here, rest) = (h x here, each_weaker P Q h xs rest)

-- an act, where there is one, stands in order before this one
abbrev pub After : Option placed.PlacedValue → placed.PlacedValue → Type 0
After None placed = Unit {0}
After (Some one) placed = unanswered_law.stands_next one placed ≡ true

abbrev pub From : Option placed.PlacedValue → List placed.PlacedValue → Type 0
From one [] = Unit {0}
From one (x ∷ xs) = After one x × From (Some x) xs

pub from_first : (x : placed.PlacedValue) (xs : List placed.PlacedValue) → unanswered_law.AreInOrder (x ∷ xs) → From (Some x) xs
from_first x [] order = tt
from_first x (y ∷ ys) (next, rest) = (next, from_first y ys rest)

order_behind : (x : placed.PlacedValue) (xs : List placed.PlacedValue) → From (Some x) xs → unanswered_law.AreInOrder (x ∷ xs)
order_behind x [] from = tt
order_behind x (y ∷ ys) (next, rest) = (next, order_behind y ys rest)

pub order_from : (one : Option placed.PlacedValue) (xs : List placed.PlacedValue) → From one xs → unanswered_law.AreInOrder xs
order_from one [] from = tt
order_from one (x ∷ xs) (next, rest) = order_behind x xs rest

pub order_rest : (x : placed.PlacedValue) (xs : List placed.PlacedValue) → unanswered_law.AreInOrder (x ∷ xs) → unanswered_law.AreInOrder xs
order_rest x xs h = grind (arith, nat_tests)

pub order_left : (xs ys : List placed.PlacedValue) → unanswered_law.AreInOrder (xs ++ ys) → unanswered_law.AreInOrder xs
order_left [] ys order = tt
order_left (x ∷ []) ys order = tt
order_left (x ∷ z ∷ xs) ys (next, rest) = (next, order_left (z ∷ xs) ys rest)

pub order_right : (xs ys : List placed.PlacedValue) → unanswered_law.AreInOrder (xs ++ ys) → unanswered_law.AreInOrder ys
order_right [] ys order = order
order_right (x ∷ xs) ys order = order_right xs ys (order_rest x (xs ++ ys) order)

at_it : (one other : placed.PlacedValue) → (((one.datagram == other.datagram) && (one.act.at == other.act.at)) && (unanswered_law.is_data_frag one.act.body && unanswered_law.is_data_frag other.act.body)) ≡ true
    → (one.datagram ≡ other.datagram) × (one.act.at ≡ other.act.at) × (unanswered_law.is_data_frag one.act.body ≡ true) × (unanswered_law.is_data_frag other.act.body ≡ true)
at_it one other is = grind (arith, nat_tests)

next_after : (one other : placed.PlacedValue) → unanswered_law.stands_next one other ≡ true → NotAfter (locations.location_of one) (locations.location_of other)
next_after one other is = elim (or_cases _ _ is) [
  | inl behind ↦ weaker (locations.location_of one) (locations.location_of other) (before_is (locations.location_of one) (locations.location_of other) behind)
  | inr at ↦ let same = at_it one other at in inr (same.0, (let e = same.1 in omega arith))
]

-- one that is no DATA_FRAG stands before what is next
next_behind : (one other : placed.PlacedValue) → unanswered_law.is_data_frag one.act.body ≡ false → unanswered_law.stands_next one other ≡ true → Before (locations.location_of one) (locations.location_of other)
next_behind one other out is = elim (or_cases _ _ is) [
  | inl behind ↦ before_is (locations.location_of one) (locations.location_of other) behind
  | inr at ↦ absurd (let same = at_it one other at in let no : false ≡ true = sym out ∙ same.2 in cc)
]

-- and what is next stands behind, if it is none
next_apart : (one other : placed.PlacedValue) → unanswered_law.is_data_frag other.act.body ≡ false → unanswered_law.stands_next one other ≡ true → Before (locations.location_of one) (locations.location_of other)
next_apart one other out is = elim (or_cases _ _ is) [
  | inl behind ↦ before_is (locations.location_of one) (locations.location_of other) behind
  | inr at ↦ absurd (let same = at_it one other at in let no : false ≡ true = sym out ∙ same.3 in cc)
]

weakly : (place : Location) (x : placed.PlacedValue) (xs : List placed.PlacedValue) → NotAfter place (locations.location_of x) → From (Some x) xs → Each (λ (y : placed.PlacedValue). NotAfter place (locations.location_of y)) xs
weakly place x [] le from = tt
weakly place x (y ∷ ys) le (next, rest) = let more = not_after place (locations.location_of x) (locations.location_of y) le (next_after x y next) in (more, weakly place y ys more rest)

strictly : (place : Location) (x : placed.PlacedValue) (xs : List placed.PlacedValue) → Before place (locations.location_of x) → From (Some x) xs → Each (λ (y : placed.PlacedValue). Before place (locations.location_of y)) xs
strictly place x [] lt from = tt
strictly place x (y ∷ ys) lt (next, rest) = let more = before_then place (locations.location_of x) (locations.location_of y) lt (next_after x y next) in (more, strictly place y ys more rest)

-- what stands behind the first in a list stands at no place before it
pub none_earlier : (x : placed.PlacedValue) (xs : List placed.PlacedValue) → unanswered_law.AreInOrder (x ∷ xs) → Each (λ (y : placed.PlacedValue). NotAfter (locations.location_of x) (locations.location_of y)) xs
none_earlier x xs order = weakly (locations.location_of x) x xs (same_place (locations.location_of x)) (from_first x xs order)

pub all_later : (x : placed.PlacedValue) (xs : List placed.PlacedValue) → unanswered_law.AreInOrder (x ∷ xs) → unanswered_law.is_data_frag x.act.body ≡ false → Each (λ (y : placed.PlacedValue). Before (locations.location_of x) (locations.location_of y)) xs
all_later x [] order out = tt
all_later x (y ∷ ys) (next, rest) out = let lt = next_behind x y out next in (lt, strictly (locations.location_of x) y ys lt (from_first y ys rest))

last_later : (x : placed.PlacedValue) (xs : List placed.PlacedValue) (g : placed.PlacedValue) (rest : List placed.PlacedValue) → unanswered_law.is_data_frag g.act.body ≡ false → unanswered_law.AreInOrder (x ∷ (xs ++ g ∷ rest)) → Before (locations.location_of x) (locations.location_of g)
last_later x [] g rest out (next, more) = next_apart x g out next
last_later x (y ∷ ys) g rest out (next, more) = then_before (locations.location_of x) (locations.location_of y) (locations.location_of g) (next_after x y next) (last_later y ys g rest out more)

pub all_earlier : (xs : List placed.PlacedValue) (g : placed.PlacedValue) (rest : List placed.PlacedValue) → unanswered_law.is_data_frag g.act.body ≡ false → unanswered_law.AreInOrder (xs ++ g ∷ rest) → Each (λ (y : placed.PlacedValue). Before (locations.location_of y) (locations.location_of g)) xs
all_earlier [] g rest out order = tt
all_earlier (x ∷ xs) g rest out order = (last_later x xs g rest out order, all_earlier xs g rest out (order_rest x (xs ++ g ∷ rest) order))

-- ---- the acts of a recording

-- these numbers rise from this one on
abbrev pub Rise : ℕ → List ℕ → Type 0
Rise low [] = Unit {0}
Rise low (x ∷ xs) = (low ≤ x) × Rise (x + 1) xs

pub rise_later : (low high : ℕ) (xs : List ℕ) → low ≤ high → Rise high xs → Rise low xs
rise_later low high [] le rise = tt
rise_later low high (x ∷ xs) le (first, rest) = (omega arith, rest)

abbrev pub item_places : List wire_values.ItemValue → List ℕ
item_places items = map (λ (item : wire_values.ItemValue). item.at) items

abbrev act_places : List receiver_values.ActValue → List ℕ
act_places acts = map (λ (act : receiver_values.ActValue). act.at) acts

with_rise : (more : List ℕ → ℕ → List reading.Outcome) → ((rest : List ℕ) (at : ℕ) → Rise at (item_places (reading.items_among (more rest at)))) → (fault : Option WireFault) (rest : List ℕ) (at : ℕ)
    → Rise at (item_places (reading.items_among (reading.outcomes_with more fault rest at)))
unfolding message.item_at
with_rise more behind (Some fault) rest at = tt
with_rise more behind None rest at = (omega arith, rise_later (at + 1) _ _ (omega arith) (behind (message.next_rest rest) _))

within_rise : (k : ℕ) (rest : List ℕ) (at : ℕ) → Rise at (item_places (reading.items_among (reading.outcomes_within k rest at)))
unfolding reading.outcomes_within
within_rise zero rest at = tt
within_rise (suc k) [] at = tt
within_rise (suc k) (octet ∷ octets) at = with_rise (reading.outcomes_within k) (λ rest at. within_rise k rest at) (message.fault_at (octet ∷ octets)) (octet ∷ octets) at

pub items_rise : (rest : List ℕ) (at : ℕ) → Rise at (item_places (reading.items_among (reading.outcomes rest at)))
unfolding reading.outcomes
items_rise rest at = within_rise (length rest) rest at

acts_rise : (start : State) (before items : List wire_values.ItemValue) (low : ℕ) → Rise low (item_places items) → Rise low (act_places (acts.acts_behind start before items))
acts_rise start before [] low rise = tt
acts_rise start before (item ∷ items) low (first, rest) = by (acts.act_body item.body) (acts_rise start (before ++ item ∷ []) items (item.at + 1) rest)
  where
    by : (body : Option receiver_values.ActBodyValue) → Rise (item.at + 1) (act_places (acts.acts_behind start (before ++ item ∷ []) items))
        → Rise low (act_places (acts.acts_of_item (acts.state_behind start before) item body ++ acts.acts_behind start (before ++ item ∷ []) items))
    by (Some body) more = (first, more)
    by None more = rise_later low (item.at + 1) (act_places (acts.acts_behind start (before ++ item ∷ []) items)) (omega arith) more

read_from : (start : State) (rest : List ℕ) (at : ℕ) → Rise 0 (act_places (acts.acts_behind start [] (reading.items_among (reading.outcomes rest at))))
read_from start rest at =
    acts_rise start [] (reading.items_among (reading.outcomes rest at)) 0 (rise_later 0 at (item_places (reading.items_among (reading.outcomes rest at))) (omega arith) (items_rise rest at))

read_rise : (fault : Option WireFault) (datagram : List ℕ) → Rise 0 (act_places (acts.acts_with (reading.reading_with fault datagram).header (reading.reading_with fault datagram).items))
read_rise (Some fault) datagram = tt
read_rise None datagram = read_from _ _ _

datagram_rise : (datagram : List ℕ) → Rise 0 (act_places (acts.acts_of (reading.reading_of datagram)))
unfolding acts.acts_of reading.reading_of
datagram_rise datagram = read_rise (header.header_fault datagram) datagram

pub later_next : (one other : placed.PlacedValue) → one.datagram < other.datagram → unanswered_law.stands_next one other ≡ true
later_next one other lt = grind (arith, nat_tests)

pub behind_next : (one other : placed.PlacedValue) → one.datagram ≡ other.datagram → one.act.at < other.act.at → unanswered_law.stands_next one other ≡ true
behind_next one other same lt = grind (arith, nat_tests)

datagram_from : (d : ℕ) (acts : List receiver_values.ActValue) (low : ℕ) (one : Option placed.PlacedValue) (behind : List placed.PlacedValue) → Rise low (act_places acts)
    → ((y : placed.PlacedValue) → y.datagram ≡ d → low ≤ y.act.at → After one y) → ((y : placed.PlacedValue) → d < y.datagram → After one y)
    → ((other : Option placed.PlacedValue) → ((y : placed.PlacedValue) → d < y.datagram → After other y) → From other behind) → From one (placed.placed_at d acts ++ behind)
datagram_from d [] low one behind rise here past rest = rest one past
datagram_from d (act ∷ acts) low one behind (first, rise) here past rest =
    let x : placed.PlacedValue = record { datagram = d; act = act } in (
      here x refl first,
      datagram_from d acts (act.at + 1) (Some x) behind rise (λ y same le. behind_next x y (sym same) (omega arith)) (λ y lt. later_next x y lt) rest,
    )

recording_from : (before : ℕ) (recording : List (List receiver_values.ActValue)) (one : Option placed.PlacedValue) → Each (λ (acts : List receiver_values.ActValue). Rise 0 (act_places acts)) recording → ((y : placed.PlacedValue) → before < y.datagram → After one y)
    → From one (placed.placed_behind before recording)
recording_from before [] one rise past = tt
recording_from before (acts ∷ datagrams) one (first, rest) past =
    datagram_from (before + 1) acts 0 one (placed.placed_behind (before + 1) datagrams) first (λ y same le. past y (omega arith)) (λ y lt. past y (omega arith))
    (λ other later. recording_from (before + 1) datagrams other rest later)

each_rises : (recording : List (List ℕ)) → Each (λ (acts : List receiver_values.ActValue). Rise 0 (act_places acts)) (speech.acts_by_datagram recording)
each_rises [] = tt
each_rises (datagram ∷ datagrams) = (datagram_rise datagram, each_rises datagrams)

octets_in_order : (recording : List (List ℕ)) → unanswered_law.AreInOrder (placed.placed_in (speech.acts_by_datagram recording))
octets_in_order recording = order_from None (placed.placed_in (speech.acts_by_datagram recording)) (recording_from 0 (speech.acts_by_datagram recording) None (each_rises recording) (λ y lt. tt))

pub recordings_are_in_order : said.FirstDatagramsSayTheSame → unanswered_law.RecordingsAreInOrder
recordings_are_in_order same = λ until recording. subst (λ acts. unanswered_law.AreInOrder (placed.placed_in acts)) (same until recording) (octets_in_order (said.datagrams_until until recording))
