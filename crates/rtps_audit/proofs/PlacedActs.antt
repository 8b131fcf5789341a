-- The acts of a recording with their datagrams: one datagram more, in what order they stand, and where.
use Rattle.std.proofs.Common.{◌≡◌, ℕ, ◌+◌, ◌<◌, List, [], ◌∷◌, ◌++◌, length, map, take, get_or, Bor, sym, ◌∙◌, ap, zero, suc, ◌≤◌, Bool, true, false, cond, filter, Option, Some, None, slice_get, ◌⊎◌, inl, inr, refl, subst, arith, append_assoc, append-nil}
use Rattle.std.proofs.lemmas.List.{map-append, take_more, get_or-map, length-map, length-take-le}
use Rattle.std.proofs.lemmas.Grind.{flat_map-append}
use Rattle.std.specs.Prelude.{Contains, ⊤, unwrap_or}
use Rattle.std.specs.List.{All, cons_option, filter_map}
use Rattle.std.specs.List.Sorted.{IsNonDecreasingBy}
use Rattle.std.proofs.lemmas.List.Elements.{All-append, All-contains, All-contains_itself, All-cons, All-filter, All-head, All-nil, All-tail, All-weaker, Contains-append_cases, Contains-append_left, Contains-append_right, Contains-push}
use Rattle.rtps_receiver.specs.Values as values
use Rattle.rtps_discovery.specs.declared.matching.Pair.{Pair}
use Rattle.rtps_audit.specs.Intake as intake
use Rattle.rtps_audit.specs.Placed as placed_spec
use Rattle.rtps_audit.specs.Speech as speech
use Rattle.rtps_audit.specs.declared.answer.Answer.{Answer}
use Rattle.rtps_audit.specs.declared.placed.Placed.{Placed}

-- ---- one datagram more

behind_append : (before : ℕ) (xs : List (List values.ActValue)) (acts : List values.ActValue) → placed_spec.placed_behind before (xs ++ acts ∷ []) ≡ placed_spec.placed_behind before xs ++ placed_spec.placed_at (before + length xs + 1) acts
behind_append before [] acts = append-nil _ ∙ ap (λ n. placed_spec.placed_at n acts) at
  where
    at : before + 1 ≡ before + 0 + 1
    at = omega arith
behind_append before (x ∷ xs) acts =
    ap (λ l. placed_spec.placed_at (before + 1) x ++ l) (behind_append (before + 1) xs acts ∙ ap (λ n. placed_spec.placed_behind (before + 1) xs ++ placed_spec.placed_at n acts) at)
    ∙ sym (append_assoc (placed_spec.placed_at (before + 1) x) (placed_spec.placed_behind (before + 1) xs) _)
  where
    at : before + 1 + length xs + 1 ≡ before + length (x ∷ xs) + 1
    at = omega arith

-- the acts of the next datagram stand behind those of the datagrams so far
pub placed_push : (recording : List (List values.ActValue)) (acts : List values.ActValue) (place : ℕ) → place ≡ length recording → placed_spec.placed_in recording ++ placed_spec.placed_at (place + 1) acts ≡ placed_spec.placed_in (recording ++ acts ∷ [])
placed_push recording acts place at = ap (λ n. placed_spec.placed_in recording ++ placed_spec.placed_at n acts) number ∙ sym (behind_append 0 recording acts)
  where
    number : place + 1 ≡ 0 + length recording + 1
    number = omega arith

-- and together with them
pub together_push : (recording : List (List values.ActValue)) (acts : List values.ActValue) → intake.acts_together (recording ++ acts ∷ []) ≡ intake.acts_together recording ++ acts
together_push recording acts = flat_map-append (λ acts. acts) recording (acts ∷ []) ∙ ap (λ l. intake.acts_together recording ++ l) (append-nil acts)

-- what a function makes of one element more
pub map_next : {X Y : Type 0} (f : X → Y) (xs : List X) (i : ℕ) (d : X) → i < length xs → map f (take (i + 1) xs) ≡ map f (take i xs) ++ f (get_or xs i d) ∷ []
map_next f xs i d lt = ap (map f) (take_more xs i d lt) ∙ map-append f (take i xs) (get_or xs i d ∷ [])

-- the octets of datagrams
abbrev pub octets_of : List (Bor (List ℕ)) → List (List ℕ)
octets_of xs = map (λ datagram. datagram.now) xs

-- what is read of them, one datagram more
pub read_next : {Y : Type 0} (f : List ℕ → Y) (xs : List (Bor (List ℕ))) (i : ℕ) (d : Bor (List ℕ)) → i < length xs → map f (octets_of (take (i + 1) xs)) ≡ map f (octets_of (take i xs)) ++ f (get_or xs i d).now ∷ []
read_next f xs i d lt = ap (map f) (map_next (λ datagram. datagram.now) xs i d lt) ∙ map-append f (octets_of (take i xs)) ((get_or xs i d).now ∷ [])

-- so many are read
pub read_count : {Y : Type 0} (f : List ℕ → Y) (xs : List (Bor (List ℕ))) (i : ℕ) → i ≤ length xs → length (map f (octets_of (take i xs))) ≡ i
read_count f xs i le = omega (arith, length-map (octets_of (take i xs)) f, length-map (take i xs) (λ (datagram : Bor (List ℕ)). datagram.now), length-take-le i xs le)

-- ---- their order

-- no number falls along the list, by recursion
Rising : {X : Type 0} → (X → ℕ) → List X → Type 0
Rising n [] = ⊤
Rising n (x ∷ xs) = All (λ y. n x ≤ n y) xs × Rising n xs

rising_append : {X : Type 0} (n : X → ℕ) (xs ys : List X) (m : ℕ) → All (λ x. n x ≤ m) xs → All (λ y. m ≤ n y) ys → Rising n xs → Rising n ys → Rising n (xs ++ ys)
unfolding Rising
rising_append n [] ys m low high one two = two
rising_append n (x ∷ xs) ys m low high one two =
    let first = All-head (λ x. n x ≤ m) x xs low in
    (All-append (λ y. n x ≤ n y) xs ys one.0 (All-weaker (λ y. m ≤ n y) (λ y. n x ≤ n y) (λ y h. omega arith) ys high), rising_append n xs ys m (All-tail (λ x. n x ≤ m) x xs low) high one.1 two)

rising_filter : {X : Type 0} (n : X → ℕ) (test : X → Bool) (xs : List X) → Rising n xs → Rising n (filter test xs)
unfolding Rising
rising_filter n test [] h = tt
rising_filter n test (x ∷ xs) h = by_test (test x) (rising_filter n test xs h.1)
  where
    by_test : (b : Bool) → Rising n (filter test xs) → Rising n (cond b (x ∷ filter test xs) (filter test xs))
    by_test true rest = (All-filter test (λ y. n x ≤ n y) xs h.0, rest)
    by_test false rest = rest

falls_nowhere : {X : Type 0} (n : X → ℕ) (xs : List X) → Rising n xs → IsNonDecreasingBy n xs
unfolding Rising
falls_nowhere n [] h i j d le lt = absurd (omega arith)
falls_nowhere n (x ∷ xs) h zero zero d le lt = omega arith
falls_nowhere n (x ∷ xs) h zero (suc j) d le lt = h.0 j d (omega arith)
falls_nowhere n (x ∷ xs) h (suc i) zero d le lt = absurd (omega arith)
falls_nowhere n (x ∷ xs) h (suc i) (suc j) d le lt = falls_nowhere n xs h.1 i j d (omega arith) (omega arith)

at_one : (datagram : ℕ) (acts : List values.ActValue) → All (λ (placed : placed_spec.PlacedValue). placed.datagram ≤ datagram) (placed_spec.placed_at datagram acts) × Rising (λ (placed : placed_spec.PlacedValue). placed.datagram) (placed_spec.placed_at datagram acts)
unfolding Rising
at_one datagram [] = (All-nil _, tt)
at_one datagram (act ∷ acts) = let rest = at_one datagram acts in (All-cons (λ (placed : placed_spec.PlacedValue). placed.datagram ≤ datagram) _ _ (omega arith) rest.0, (same acts, rest.1))
  where
    same : (acts : List values.ActValue) → All (λ (placed : placed_spec.PlacedValue). datagram ≤ placed.datagram) (placed_spec.placed_at datagram acts)
    same [] = All-nil _
    same (act ∷ acts) = All-cons (λ (placed : placed_spec.PlacedValue). datagram ≤ placed.datagram) _ _ (omega arith) (same acts)

from_one : (datagram : ℕ) (acts : List values.ActValue) → All (λ (placed : placed_spec.PlacedValue). datagram ≤ placed.datagram) (placed_spec.placed_at datagram acts)
from_one datagram [] = All-nil _
from_one datagram (act ∷ acts) = All-cons (λ (placed : placed_spec.PlacedValue). datagram ≤ placed.datagram) _ _ (omega arith) (from_one datagram acts)

rising_behind : (before : ℕ) (recording : List (List values.ActValue)) → All (λ (placed : placed_spec.PlacedValue). before + 1 ≤ placed.datagram) (placed_spec.placed_behind before recording) × Rising (λ (placed : placed_spec.PlacedValue). placed.datagram) (placed_spec.placed_behind before recording)
unfolding Rising
rising_behind before [] = (All-nil _, tt)
rising_behind before (datagram ∷ recording) =
    let acts = datagram in
    let here = at_one (before + 1) acts in
    let rest = rising_behind (before + 1) recording in
    let later = All-weaker (λ (placed : placed_spec.PlacedValue). before + 1 + 1 ≤ placed.datagram) (λ (placed : placed_spec.PlacedValue). before + 1 ≤ placed.datagram) (λ placed h. omega arith) (placed_spec.placed_behind (before + 1) recording) rest.0 in
    (All-append (λ (placed : placed_spec.PlacedValue). before + 1 ≤ placed.datagram) (placed_spec.placed_at (before + 1) acts) _ (from_one (before + 1) acts) later, rising_append (λ (placed : placed_spec.PlacedValue). placed.datagram) (placed_spec.placed_at (before + 1) acts) (placed_spec.placed_behind (before + 1) recording) (before + 1) here.0 later here.1 rest.1)

-- what is kept of the acts of a recording is in order
pub kept_in_order : (recording : List (List values.ActValue)) (test : placed_spec.PlacedValue → Bool) (kept : List Placed) → map placed_spec.placed_value kept ≡ filter test (placed_spec.placed_in recording) → IsNonDecreasingBy (λ (placed : Placed). placed.datagram) kept
kept_in_order recording test kept same i j d le lt =
    let rises = falls_nowhere (λ (placed : placed_spec.PlacedValue). placed.datagram) (filter test (placed_spec.placed_in recording)) (rising_filter _ test (placed_spec.placed_in recording) (rising_behind 0 recording).1) in
    let also = subst (IsNonDecreasingBy (λ (placed : placed_spec.PlacedValue). placed.datagram)) (sym same) rises in
    let here = also i j (placed_spec.placed_value d) le (omega (arith, length-map kept placed_spec.placed_value)) in
    let one = ap (λ (placed : placed_spec.PlacedValue). placed.datagram) (get_or-map placed_spec.placed_value kept i d (placed_spec.placed_value d) (omega arith)) in
    let two = ap (λ (placed : placed_spec.PlacedValue). placed.datagram) (get_or-map placed_spec.placed_value kept j d (placed_spec.placed_value d) lt) in
    omega arith

-- ---- where they stand

pub record StandsIn (before : ℕ) (recording : List (List values.ActValue)) (placed : placed_spec.PlacedValue) : Type 0 where
  pub place : ℕ
  pub datagram : List values.ActValue
  pub stands : slice_get recording place ≡ Some datagram
  pub at : placed.datagram ≡ before + place + 1
  pub among : Contains datagram placed.act

pub contains_head : {X : Type 0} (x : X) (xs : List X) → Contains (x ∷ xs) x
contains_head x xs = Contains-append_left (x ∷ []) xs x (Contains-push [] x)

pub contains_tail : {X : Type 0} (y : X) (xs : List X) (x : X) → Contains xs x → Contains (y ∷ xs) x
contains_tail y xs x among = Contains-append_right (y ∷ []) xs x among

pub contains_cases : {X : Type 0} (y : X) (xs : List X) (x : X) → Contains (y ∷ xs) x → (y ≡ x) ⊎ Contains xs x
contains_cases y xs x (zero, lt, is) = inl is
contains_cases y xs x (suc k, lt, is) = inr (k, omega arith, is)

pub contains_none : {X : Type 0} (x : X) → Contains [] x → ⊥
contains_none x (k, lt, is) = omega arith

contains_at : (datagram : ℕ) (acts : List values.ActValue) (placed : placed_spec.PlacedValue) → Contains (placed_spec.placed_at datagram acts) placed → (placed.datagram ≡ datagram) × Contains acts placed.act
contains_at datagram [] placed among = absurd (contains_none placed among)
contains_at datagram (act ∷ acts) placed among = elim (contains_cases _ _ placed among) [
  | inl here ↦ (sym (ap (λ (p : placed_spec.PlacedValue). p.datagram) here), subst (Contains (act ∷ acts)) (ap (λ (p : placed_spec.PlacedValue). p.act) here) (contains_head act acts))
  | inr there ↦ let rest = contains_at datagram acts placed there in (rest.0, contains_tail act acts placed.act rest.1)
]

at_contains : (datagram : ℕ) (acts : List values.ActValue) (act : values.ActValue) → Contains acts act → Contains (placed_spec.placed_at datagram acts) (record { datagram = datagram; act = act })
at_contains datagram [] act among = absurd (contains_none act among)
at_contains datagram (first ∷ acts) act among = elim (contains_cases first acts act among) [
  | inl here ↦ subst (λ a. Contains (placed_spec.placed_at datagram (first ∷ acts)) (record { datagram = datagram; act = a })) here (contains_head _ _)
  | inr there ↦ contains_tail _ _ _ (at_contains datagram acts act there)
]

pub stands_where : (before : ℕ) (recording : List (List values.ActValue)) (placed : placed_spec.PlacedValue) → Contains (placed_spec.placed_behind before recording) placed → StandsIn before recording placed
stands_where before [] placed among = absurd (contains_none placed among)
stands_where before (datagram ∷ recording) placed among = elim (Contains-append_cases (placed_spec.placed_at (before + 1) datagram) (placed_spec.placed_behind (before + 1) recording) placed among) [
  | inl here ↦
      let is = contains_at (before + 1) datagram placed here in
      let at = is.0 in
      record { place = 0; datagram = datagram; stands = refl; at = omega arith; among = is.1 }
  | inr there ↦
      let rest = stands_where (before + 1) recording placed there in
      let at = rest.at in
      record { place = suc rest.place; datagram = rest.datagram; stands = rest.stands; at = omega arith; among = rest.among }
]

pub stands_there : (before place : ℕ) (recording : List (List values.ActValue)) (datagram : List values.ActValue) (act : values.ActValue) → slice_get recording place ≡ Some datagram → Contains datagram act
    → Contains (placed_spec.placed_behind before recording) (record { datagram = before + place + 1; act = act })
stands_there before place [] datagram act stands among = cc
stands_there before zero (first ∷ recording) datagram act stands among =
    let same : datagram ≡ first = (let h = stands in cc) in
    let here = at_contains (before + 1) (first) act (subst (λ o. Contains (o) act) same among) in
    let at : before + 1 ≡ before + 0 + 1 = omega arith in
    subst (λ n. Contains (placed_spec.placed_behind before (first ∷ recording)) (record { datagram = n; act = act })) at (Contains-append_left (placed_spec.placed_at (before + 1) (first)) (placed_spec.placed_behind (before + 1) recording) _ here)
stands_there before (suc place) (first ∷ recording) datagram act stands among =
    let rest = stands_there (before + 1) place recording datagram act stands among in
    let at : before + 1 + place + 1 ≡ before + suc place + 1 = omega arith in
    subst (λ n. Contains (placed_spec.placed_behind before (first ∷ recording)) (record { datagram = n; act = act })) at (Contains-append_right (placed_spec.placed_at (before + 1) (first)) (placed_spec.placed_behind (before + 1) recording) _ rest)

-- ---- what a filter keeps

pub kept_is_there : {X : Type 0} (test : X → Bool) (xs : List X) (x : X) → Contains (filter test xs) x → Contains xs x
kept_is_there test xs x among = All-contains (Contains xs) (filter test xs) x (All-filter test (Contains xs) xs (All-contains_itself xs)) among

pub kept_if_passed : {X : Type 0} (test : X → Bool) (xs : List X) (x : X) → Contains xs x → test x ≡ true → Contains (filter test xs) x
kept_if_passed test [] x among passes = absurd (contains_none x among)
kept_if_passed test (y ∷ xs) x among passes = elim (contains_cases y xs x among) [
  | inl here ↦ subst (Contains (filter test (y ∷ xs))) here (rw (ap test here ∙ passes) (contains_head y (filter test xs)))
  | inr there ↦ later (test y) (kept_if_passed test xs x there passes)
]
  where
    later : (b : Bool) → Contains (filter test xs) x → Contains (cond b (y ∷ filter test xs) (filter test xs)) x
    later true there = contains_tail y (filter test xs) x there
    later false there = there

pub made_from : {X Y : Type 0} (h : X → Option Y) (xs : List X) (y : Y) → Contains (filter_map h xs) y → (x : X) × Contains xs x × (h x ≡ Some y)
made_from h [] y among = absurd (contains_none y among)
made_from {X} {Y} h (x ∷ xs) y among = by_value (h x) refl among (λ there. made_from h xs y there)
  where
    by_value : (o : Option Y) → h x ≡ o → Contains (cons_option o (filter_map h xs)) y → (Contains (filter_map h xs) y → (z : X) × Contains xs z × (h z ≡ Some y)) → (z : X) × Contains (x ∷ xs) z × (h z ≡ Some y)
    by_value None e there rest = let found = rest there in (found.0, contains_tail x xs found.0 found.1, found.2)
    by_value (Some z) e there rest = elim (contains_cases z (filter_map h xs) y there) [
      | inl here ↦ (x, contains_head x xs, e ∙ ap Some here)
      | inr later ↦ let found = rest later in (found.0, contains_tail x xs found.0 found.1, found.2)
    ]

pub makes : {X Y : Type 0} (h : X → Option Y) (xs : List X) (x : X) (y : Y) → Contains xs x → h x ≡ Some y → Contains (filter_map h xs) y
makes h [] x y among is = absurd (contains_none x among)
makes {X} {Y} h (z ∷ xs) x y among is = elim (contains_cases z xs x among) [
  | inl here ↦ rw (ap h here ∙ is) (contains_head y (filter_map h xs))
  | inr there ↦ later (h z) (makes h xs x y there is)
]
  where
    later : (o : Option Y) → Contains (filter_map h xs) y → Contains (cons_option o (filter_map h xs)) y
    later None there = there
    later (Some w) there = contains_tail w (filter_map h xs) y there

-- ---- the order of what is made of acts

rising_made : {X Y : Type 0} (n : X → ℕ) (m : Y → ℕ) (h : X → Option Y) → ((x : X) (y : Y) → h x ≡ Some y → m y ≡ n x) → (xs : List X) → Rising n xs → Rising m (filter_map h xs)
unfolding Rising
rising_made n m h keeps [] rises = tt
rising_made {X} {Y} n m h keeps (x ∷ xs) rises = by_value (h x) refl (rising_made n m h keeps xs rises.1)
  where
    by_value : (o : Option Y) → h x ≡ o → Rising m (filter_map h xs) → Rising m (cons_option o (filter_map h xs))
    by_value None e rest = rest
    by_value (Some y) e rest = (All-weaker (Contains (filter_map h xs)) (λ z. m y ≤ m z) (λ z among. let from = made_from h xs z among in let le = All-contains (λ w. n x ≤ n w) xs from.0 rises.0 from.1 in omega (arith, keeps x y e, keeps from.0 z from.2)) (filter_map h xs) (All-contains_itself (filter_map h xs)), rest)

-- the answers of a pair are in the order of their datagrams
pub answers_in_order : (pair : Pair) (recording : List (List values.ActValue)) → IsNonDecreasingBy (λ (answer : Answer). answer.datagram) (placed_spec.answers_among pair (placed_spec.placed_in recording))
answers_in_order pair recording = falls_nowhere (λ (answer : Answer). answer.datagram) (placed_spec.answers_among pair (placed_spec.placed_in recording)) (rising_made (λ (placed : placed_spec.PlacedValue). placed.datagram) (λ (answer : Answer). answer.datagram) (placed_spec.answer_of pair) (λ placed answer e. stands (speech.base_for pair.writer pair.reader placed.act) placed.datagram placed.act.at answer e) (placed_spec.placed_in recording) (rising_behind 0 recording).1)
  where
    stands : (base : Option ℕ) (datagram at : ℕ) (answer : Answer) → placed_spec.answer_at datagram at base ≡ Some answer → answer.datagram ≡ datagram
    stands None datagram at answer e = cc
    stands (Some base) datagram at answer e = sym (ap (λ (o : Option Answer). let none : Answer = answer in (unwrap_or o none).datagram) e)
