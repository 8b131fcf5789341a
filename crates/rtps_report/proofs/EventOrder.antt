-- Events in their order: what a stable sort gives is what the definition says.
use Rattle.std.proofs.Common.{◌≡◌, ◌∙◌, ℕ, suc, ◌+◌, ◌<◌, ◌≤◌, Bool, true, false, cond, List, [], ◌∷◌, ap, arith, filter, get_or, is_lt, length, max, nat_cmp, nat_lt, refl, sym, zero}
use Rattle.std.specs.Cmp.{IsStrictWeakOrder, nat_cmp_total}
use Rattle.std.specs.List.Sorted.{IsSortedBy, ties}
use Rattle.std.specs.Prelude.{⊤}
use Rattle.std.proofs.lemmas.List.Sorted.{IsStrictWeakOrder-flip, ranks_by}
use Rattle.rtps_report.specs.Events as events_spec
use Rattle.rtps_report.proofs.OrderLemmas.{one_order}

-- one has more numbers than another
abbrev pub is_worse : events_spec.EventValue → events_spec.EventValue → Bool
is_worse one other = is_lt (nat_cmp other.numbers one.numbers)

pub less_is : (m n : ℕ) → is_lt (nat_cmp m n) ≡ nat_lt m n
less_is m n = grind arith

-- ---- numbers do not rise

abbrev pub FallFrom : ℕ → List events_spec.EventValue → Type 0
FallFrom most [] = ⊤
FallFrom most (event ∷ events) = (event.numbers ≤ most) × FallFrom event.numbers events

by_placing : (b : Bool) (most : ℕ) (event other : events_spec.EventValue) (others : List events_spec.EventValue) → nat_lt event.numbers other.numbers ≡ b → event.numbers ≤ most
    → FallFrom most (other ∷ others) → (event.numbers ≤ other.numbers → FallFrom other.numbers (events_spec.placed event others))
    → FallFrom most (cond b (other ∷ events_spec.placed event others) (event ∷ other ∷ others))
by_placing true most event other others less within fall behind =
    let up : event.numbers ≤ other.numbers = grind (arith, less) in (fall.0, behind up)
by_placing false most event other others less within fall behind =
    let up : other.numbers ≤ event.numbers = grind (arith, less) in (within, (up, fall.1))

placed_falls : (most : ℕ) (event : events_spec.EventValue) (events : List events_spec.EventValue) → event.numbers ≤ most → FallFrom most events → FallFrom most (events_spec.placed event events)
placed_falls most event [] within fall = (within, tt)
placed_falls most event (other ∷ others) within fall =
    by_placing (nat_lt event.numbers other.numbers) most event other others refl within fall (λ up. placed_falls other.numbers event others up fall.1)

abbrev pub AreUpTo : ℕ → List events_spec.EventValue → Type 0
AreUpTo most [] = ⊤
AreUpTo most (event ∷ events) = (event.numbers ≤ most) × AreUpTo most events

most_of : List events_spec.EventValue → ℕ
most_of [] = 0
most_of (event ∷ events) = max event.numbers (most_of events)

up_to_more : (most more : ℕ) (events : List events_spec.EventValue) → most ≤ more → AreUpTo most events → AreUpTo more events
up_to_more most more [] up within = tt
up_to_more most more (event ∷ events) up within = (let far : event.numbers ≤ more = omega (arith, up, within.0) in far, up_to_more most more events up within.1)

up_to_most : (events : List events_spec.EventValue) → AreUpTo (most_of events) events
unfolding most_of
up_to_most [] = tt
up_to_most (event ∷ events) =
    let within : event.numbers ≤ max event.numbers (most_of events) = omega arith in
    let up : most_of events ≤ max event.numbers (most_of events) = omega arith in
    (within, up_to_more (most_of events) (max event.numbers (most_of events)) events up (up_to_most events))

worst_falls : (most : ℕ) (events : List events_spec.EventValue) → AreUpTo most events → FallFrom most (events_spec.worst_first events)
worst_falls most [] within = tt
worst_falls most (event ∷ events) within = placed_falls most event (events_spec.worst_first events) within.0 (worst_falls most events within.1)

first_falls : (event : events_spec.EventValue) (next : List events_spec.EventValue) (d : events_spec.EventValue) → FallFrom event.numbers next → 0 < length next → is_worse (get_or next 0 d) event ≡ false
first_falls event [] d falls some = absurd (omega arith)
first_falls event (other ∷ others) d falls some = let up : other.numbers ≤ event.numbers = falls.0 in less_is event.numbers other.numbers ∙ grind (arith, up)

by_place : (event : events_spec.EventValue) (events : List events_spec.EventValue) (k : ℕ) (d : events_spec.EventValue) → FallFrom event.numbers events → IsSortedBy is_worse events → k + 1 < length (event ∷ events)
    → is_worse (get_or (event ∷ events) (k + 1) d) (get_or (event ∷ events) k d) ≡ false
by_place event events zero d falls sorted within = first_falls event events d falls (omega arith)
by_place event events (suc k) d falls sorted within =
    let at : suc k + 1 ≡ suc (k + 1) = omega arith in rw at (sorted k d (omega arith) (omega arith))

sorted_from : (most : ℕ) (events : List events_spec.EventValue) → FallFrom most events → IsSortedBy is_worse events
sorted_from most [] fall = λ k d low within. absurd (omega arith)
sorted_from most (event ∷ events) fall = λ k d low within. by_place event events k d fall.1 (sorted_from event.numbers events fall.1) within

-- ---- those with as many stand as before

-- what has fewer numbers than another ties with none that this one ties with
apart : (w event other : events_spec.EventValue) → nat_lt event.numbers other.numbers ≡ true → ties is_worse w event ≡ true → ties is_worse w other ≡ true → ⊥
apart w event other less one two = grind (arith, less, one, two, less_is)

turned : (w event other : events_spec.EventValue) (kept : List events_spec.EventValue) (a b : Bool) → ties is_worse w event ≡ a → ties is_worse w other ≡ b → nat_lt event.numbers other.numbers ≡ true
    → cond b (other ∷ cond a (event ∷ kept) kept) (cond a (event ∷ kept) kept) ≡ cond a (event ∷ cond b (other ∷ kept) kept) (cond b (other ∷ kept) kept)
turned w event other kept true true one two less = absurd (apart w event other less one two)
turned w event other kept true false one two less = refl
turned w event other kept false true one two less = refl
turned w event other kept false false one two less = refl

by_ties : (b : Bool) (w event other : events_spec.EventValue) (others : List events_spec.EventValue) → nat_lt event.numbers other.numbers ≡ b
    → filter (ties is_worse w) (events_spec.placed event others) ≡ filter (ties is_worse w) (event ∷ others)
    → filter (ties is_worse w) (cond b (other ∷ events_spec.placed event others) (event ∷ other ∷ others)) ≡ filter (ties is_worse w) (event ∷ other ∷ others)
by_ties true w event other others less behind =
    ap (λ (kept : List events_spec.EventValue). cond (ties is_worse w other) (other ∷ kept) kept) behind
    ∙ turned w event other (filter (ties is_worse w) others) (ties is_worse w event) (ties is_worse w other) refl refl less
by_ties false w event other others less behind = refl

placed_ties : (w event : events_spec.EventValue) (events : List events_spec.EventValue) → filter (ties is_worse w) (events_spec.placed event events) ≡ filter (ties is_worse w) (event ∷ events)
placed_ties w event [] = refl
placed_ties w event (other ∷ others) = by_ties (nat_lt event.numbers other.numbers) w event other others refl (placed_ties w event others)

worst_ties : (w : events_spec.EventValue) (events : List events_spec.EventValue) → filter (ties is_worse w) (events_spec.worst_first events) ≡ filter (ties is_worse w) events
worst_ties w [] = refl
worst_ties w (event ∷ events) =
    placed_ties w event (events_spec.worst_first events) ∙ ap (λ kept. cond (ties is_worse w event) (event ∷ kept) kept) (worst_ties w events)

-- they do not rise
pub worst_sorted : (found : List events_spec.EventValue) → IsSortedBy is_worse (events_spec.worst_first found)
worst_sorted found = sorted_from (most_of found) (events_spec.worst_first found) (worst_falls (most_of found) found (up_to_most found))

worse_ranks : IsStrictWeakOrder is_worse
worse_ranks = IsStrictWeakOrder-flip (λ (one other : events_spec.EventValue). is_lt (nat_cmp one.numbers other.numbers)) (ranks_by nat_cmp_total (λ (event : events_spec.EventValue). event.numbers))

-- what is sorted stably is the worst first
pub sorted_worst : (found sorted : List events_spec.EventValue) → IsSortedBy is_worse sorted
    → ((w : events_spec.EventValue) → filter (ties is_worse w) sorted ≡ filter (ties is_worse w) found) → sorted ≡ events_spec.worst_first found
sorted_worst found sorted falls stands =
    one_order is_worse worse_ranks sorted (events_spec.worst_first found) falls (worst_sorted found)
    (λ w. stands w ∙ sym (worst_ties w found))
