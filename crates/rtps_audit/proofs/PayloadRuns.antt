-- Runs of one number among a writer's payloads, which are in the order of numbers.
use Rattle.std.proofs.Common.{ℕ, None, ◌≡◌, ◌≤◌, ◌<◌, ◌+◌, ◌-◌, List, [], ◌∷◌, ◌++◌, length, take, drop, get_or, append-nil, append_assoc, refl, sym, ◌∙◌, ap, subst, inl, inr, arith}
use Rattle.std.specs.Prelude.{◌≢◌, Contains}
use Rattle.std.specs.List.{All, AllWithin, HoldsAt, slice_range}
use Rattle.std.specs.List.Sorted.{IsNonDecreasingBy}
use Rattle.std.proofs.Math.Seq.{take-add}
use Rattle.std.proofs.lemmas.Bool.{cases_lt}
use Rattle.std.proofs.lemmas.List.{get_or_default, get_or-drop, get_or-take, length-drop, length-take}
use Rattle.std.proofs.lemmas.List.Elements.{All-contains, All-get_or, All-head, All-nil, All-push, All-tail, All-weaker, Contains-append_cases, Contains-append_left, Contains-append_right, Contains-get_or}
use Rattle.std.proofs.lemmas.List.Sorted.{IsNonDecreasingBy-push, IsNonDecreasingBy-short}
use Rattle.rtps_wire.specs.Values as values
use Rattle.rtps_wire.specs.declared.body.Payload.{Payload}
use Rattle.rtps_audit.specs.PayloadConflict as payload_conflict
use Rattle.rtps_audit.specs.declared.payload_conflict.AddressedPayload.{AddressedPayload}
use Rattle.rtps_audit.proofs.PlacedLemmas.{all_between, all_with_first}

-- what a list of entries has at a place past its end
abbrev pub no_entry : AddressedPayload
no_entry = record { number = 0; dest = record { ref_ptr = (0, 0); now = None }; reader = record { 0 = [] }; payload = record { ref_ptr = (0, 0); now = Payload.Absent } }

-- the place of an entry among the first ones
below_taken : (xs : List AddressedPayload) (place k : ℕ) → k < length (take place xs) → k < place
below_taken xs place k lt = omega (arith, lt, length-take place xs)

within_taken : (xs : List AddressedPayload) (place k : ℕ) → k < length (take place xs) → k < length xs
within_taken xs place k lt = omega (arith, lt, length-take place xs)

-- what is among the first entries is among them all
pub taken : (xs : List AddressedPayload) (place : ℕ) (e : AddressedPayload) → Contains (take place xs) e → Contains xs e
taken xs place e among = (among.0, within_taken xs place among.0 among.1, sym (get_or-take place xs among.0 e (below_taken xs place among.0 among.1)) ∙ among.2)

-- what is before a place has no greater number than what is there
pub none_greater : (xs : List AddressedPayload) (place : ℕ) (d e : AddressedPayload) → IsNonDecreasingBy payload_conflict.number_in xs → place < length xs → Contains (take place xs) e → payload_conflict.number_in e ≤ payload_conflict.number_in (get_or xs place d)
none_greater xs place d e sorted within among =
    let before = below_taken xs place among.0 among.1 in
    let up = sorted among.0 place d (omega arith) within in
    let is : get_or xs among.0 d ≡ e = get_or_default xs among.0 d e (within_taken xs place among.0 among.1) ∙ sym (get_or-take place xs among.0 e before) ∙ among.2 in
    let same : payload_conflict.number_in (get_or xs among.0 d) ≡ payload_conflict.number_in e = ap payload_conflict.number_in is in
    omega arith

-- what has a lesser number than what is at a place is before it
pub lesser_before : (xs : List AddressedPayload) (place : ℕ) (d e : AddressedPayload) → IsNonDecreasingBy payload_conflict.number_in xs → place < length xs → Contains xs e → payload_conflict.number_in e < payload_conflict.number_in (get_or xs place d) → Contains (take place xs) e
lesser_before xs place d e sorted within among less = elim (cases_lt among.0 place) [
  | inl before ↦ (among.0, omega (arith, length-take place xs, among.1), get_or-take place xs among.0 e before ∙ among.2)
  | inr past ↦
      let up = sorted place among.0 d past among.1 in
      let same : payload_conflict.number_in (get_or xs among.0 d) ≡ payload_conflict.number_in e = ap payload_conflict.number_in (get_or_default xs among.0 d e among.1 ∙ among.2) in
      absurd (omega arith)
]

-- all before the end of a run have lesser numbers than what is there
pub run_below : (xs : List AddressedPayload) (start end n : ℕ) → IsNonDecreasingBy payload_conflict.number_in xs → start < end → end < length xs → AllWithin (λ e. payload_conflict.number_in e ≡ n) xs start end → HoldsAt (λ e. payload_conflict.number_in e ≢ n) xs end
    → (d : AddressedPayload) → All (λ e. payload_conflict.number_in e < payload_conflict.number_in (get_or xs end d)) (take end xs)
run_below xs start end n sorted onward within run other d k f lt =
    let before = below_taken xs end k lt in
    let up = sorted k (end - 1) d (omega arith) (omega arith) in
    let on = sorted (end - 1) end d (omega arith) within in
    let last : payload_conflict.number_in (get_or xs (end - 1) d) ≡ n = run (end - 1) d (omega arith) (omega arith) in
    let unlike : payload_conflict.number_in (get_or xs end d) ≢ n = other d in
    let same : payload_conflict.number_in (get_or (take end xs) k f) ≡ payload_conflict.number_in (get_or xs k d) = ap payload_conflict.number_in (get_or-take end xs k f before ∙ get_or_default xs k f d (omega arith)) in
    omega arith

-- ---- a run more, behind entries of lesser numbers

in_done : (done run : List AddressedPayload) (n : ℕ) (e : AddressedPayload) → All (λ e. payload_conflict.number_in e ≡ n) run → payload_conflict.number_in e < n → Contains (done ++ run) e → Contains done e
in_done done run n e are less among = elim (Contains-append_cases done run e among) [
  | inl there ↦ there
  | inr here ↦ let is = All-contains (λ e. payload_conflict.number_in e ≡ n) run e are here in absurd (omega arith)
]

in_run : (done run : List AddressedPayload) (n : ℕ) (e : AddressedPayload) → All (λ e. payload_conflict.number_in e < n) done → payload_conflict.number_in e ≡ n → Contains (done ++ run) e → Contains run e
in_run done run n e below is among = elim (Contains-append_cases done run e among) [
  | inl there ↦ let less = All-contains (λ e. payload_conflict.number_in e < n) done e below there in absurd (omega arith)
  | inr here ↦ here
]

two_more : (done run : List AddressedPayload) (m : ℕ) → payload_conflict.HasTwo (Contains done) m → payload_conflict.HasTwo (Contains (done ++ run)) m
two_more done run m two = record {
  one = two.one;
  other = two.other;
  one_among = Contains-append_left done run two.one two.one_among;
  other_among = Contains-append_left done run two.other two.other_among;
  one_number = two.one_number;
  other_number = two.other_number;
  differ = two.differ;
}

two_done : (done run : List AddressedPayload) (n m : ℕ) → All (λ e. payload_conflict.number_in e ≡ n) run → m < n → payload_conflict.HasTwo (Contains (done ++ run)) m → payload_conflict.HasTwo (Contains done) m
two_done done run n m are less two = record {
  one = two.one;
  other = two.other;
  one_among = in_done done run n two.one are (omega (arith, two.one_number)) two.one_among;
  other_among = in_done done run n two.other are (omega (arith, two.other_number)) two.other_among;
  one_number = two.one_number;
  other_number = two.other_number;
  differ = two.differ;
}

-- a run of one payload has no conflict
pub run_same : (done run kept : List AddressedPayload) (n : ℕ) (p : values.PayloadValue) → All (λ e. payload_conflict.number_in e < n) done → All (λ e. payload_conflict.number_in e ≡ n) run → All (λ e. values.payload_value e.payload.now ≡ p) run
    → payload_conflict.AreConflictsAmong done kept → payload_conflict.AreConflictsAmong (done ++ run) kept
run_same done run kept n p below are same known e = (
  λ among. let was = (known e).0 among in (Contains-append_left done run e was.0, two_more done run (payload_conflict.number_in e) was.1),
  λ both. elim (Contains-append_cases done run e both.0) [
    | inl there ↦ (known e).1 (there, two_done done run n (payload_conflict.number_in e) are (All-contains (λ e. payload_conflict.number_in e < n) done e below there) both.1)
    | inr here ↦
        let is = All-contains (λ e. payload_conflict.number_in e ≡ n) run e are here in
        let two = both.1 in
        let one = All-contains (λ (e : AddressedPayload). values.payload_value e.payload.now ≡ p) run two.one same (in_run done run n two.one below (two.one_number ∙ is) two.one_among) in
        let other = All-contains (λ (e : AddressedPayload). values.payload_value e.payload.now ≡ p) run two.other same (in_run done run n two.other below (two.other_number ∙ is) two.other_among) in
        absurd (two.differ (one ∙ sym other))
  ],
)

-- a run of two payloads is one
pub run_differs : (done run kept : List AddressedPayload) (n : ℕ) (one other : AddressedPayload) → All (λ e. payload_conflict.number_in e < n) done → All (λ e. payload_conflict.number_in e ≡ n) run → Contains run one → Contains run other → values.payload_value one.payload.now ≢ values.payload_value other.payload.now
    → payload_conflict.AreConflictsAmong done kept → payload_conflict.AreConflictsAmong (done ++ run) (kept ++ run)
run_differs done run kept n one other below are first second differ known e = (
  λ among. elim (Contains-append_cases kept run e among) [
    | inl there ↦ let was = (known e).0 there in (Contains-append_left done run e was.0, two_more done run (payload_conflict.number_in e) was.1)
    | inr here ↦ (Contains-append_right done run e here, two (All-contains (λ e. payload_conflict.number_in e ≡ n) run e are here))
  ],
  λ both. elim (Contains-append_cases done run e both.0) [
    | inl there ↦ Contains-append_left kept run e ((known e).1 (there, two_done done run n (payload_conflict.number_in e) are (All-contains (λ e. payload_conflict.number_in e < n) done e below there) both.1))
    | inr here ↦ Contains-append_right kept run e here
  ],
)
  where
    two : payload_conflict.number_in e ≡ n → payload_conflict.HasTwo (Contains (done ++ run)) (payload_conflict.number_in e)
    two is = record {
      one = one;
      other = other;
      one_among = Contains-append_right done run one first;
      other_among = Contains-append_right done run other second;
      one_number = All-contains (λ e. payload_conflict.number_in e ≡ n) run one are first ∙ sym is;
      other_number = All-contains (λ e. payload_conflict.number_in e ≡ n) run other are second ∙ sym is;
      differ = differ;
    }

-- what is kept stays in order
pub run_sorted : (kept run : List AddressedPayload) (n : ℕ) → IsNonDecreasingBy payload_conflict.number_in kept → All (λ e. payload_conflict.number_in e ≤ n) kept → All (λ e. payload_conflict.number_in e ≡ n) run → IsNonDecreasingBy payload_conflict.number_in (kept ++ run)
run_sorted kept [] n sorted below are = subst (IsNonDecreasingBy payload_conflict.number_in) (sym (append-nil kept)) sorted
run_sorted kept (y ∷ ys) n sorted below are =
    let here : payload_conflict.number_in y ≡ n = All-head (λ e. payload_conflict.number_in e ≡ n) y ys are in
    let pushed = IsNonDecreasingBy-push payload_conflict.number_in kept y sorted (λ d some. let last = All-get_or (λ e. payload_conflict.number_in e ≤ n) kept (length kept - 1) d (omega arith) below in omega arith) in
    subst (IsNonDecreasingBy payload_conflict.number_in) (append_assoc kept (y ∷ []) ys)
    (run_sorted (kept ++ y ∷ []) ys n pushed (All-push (λ e. payload_conflict.number_in e ≤ n) kept y below (omega arith)) (All-tail (λ e. payload_conflict.number_in e ≡ n) y ys are))

-- what is true of all entries is true of those that are kept
pub kept_all : (P : AddressedPayload → Type 0) (xs kept : List AddressedPayload) → All P xs → payload_conflict.AreConflictsAmong xs kept → All P kept
kept_all P xs kept all known k d lt = All-contains P xs (get_or kept k d) all ((known (get_or kept k d)).0 (Contains-get_or kept k d lt)).0

-- ---- the runs so far

-- from start on and below end stand all entries of the number of the first one
pub record IsRun (xs : List AddressedPayload) (start end : ℕ) (first : AddressedPayload) : Type 0 where
  pub within : start < length xs
  pub onward : start < end
  pub end_within : end ≤ length xs
  pub at : (d : AddressedPayload) → get_or xs start d ≡ first
  pub numbers : All (λ e. payload_conflict.number_in e ≡ payload_conflict.number_in first) (slice_range xs start end)
  pub below : end < length xs → (d : AddressedPayload) → All (λ e. payload_conflict.number_in e < payload_conflict.number_in (get_or xs end d)) (take end xs)

-- what stands first in a run
pub first_of_run : (xs : List AddressedPayload) (start end k : ℕ) (first d : AddressedPayload) → first ≡ get_or xs start first → start < length xs → start + 1 ≤ end → k < length (take 1 (slice_range xs start end)) → get_or (take 1 (slice_range xs start end)) k d ≡ first
first_of_run xs start end k first d at within onward lt =
    let below : k < 1 = omega (arith, lt, length-take 1 (slice_range xs start end)) in
    get_or-take 1 (slice_range xs start end) k d below ∙ get_or-take (end - start) (drop start xs) k d (omega arith) ∙ get_or-drop start xs k d
    ∙ ap (λ i. get_or xs i d) (omega arith) ∙ get_or_default xs start d first within ∙ sym at

pub run_at : (xs : List AddressedPayload) (start end : ℕ) (d : AddressedPayload) → IsNonDecreasingBy payload_conflict.number_in xs → start < length xs → start + 1 ≤ end → end ≤ length xs
    → AllWithin (λ e. payload_conflict.number_in e ≡ payload_conflict.number_in (get_or xs start d)) xs (start + 1) end → (end < length xs → HoldsAt (λ e. payload_conflict.number_in e ≢ payload_conflict.number_in (get_or xs start d)) xs end) → IsRun xs start end (get_or xs start d)
run_at xs start end d sorted within onward end_within others other =
    let n = payload_conflict.number_in (get_or xs start d) in
    let numbers = all_with_first (λ e. payload_conflict.number_in e ≡ n) xs start end (get_or xs start d) (get_or_default xs start d (get_or xs start d) within) within refl others in
    record {
      within = within;
      onward = omega arith;
      end_within = end_within;
      at = λ f. get_or_default xs start f d within;
      numbers = all_between (λ e. payload_conflict.number_in e ≡ n) xs start end numbers;
      below = λ lt. run_below xs start end n sorted (omega arith) lt numbers (other lt);
    }

-- the entries before a run are passed, and their conflicts are kept in order
pub record ArePassed (xs : List AddressedPayload) (start : ℕ) (kept : List AddressedPayload) : Type 0 where
  pub within : start ≤ length xs
  pub below : start < length xs → (d : AddressedPayload) → All (λ e. payload_conflict.number_in e < payload_conflict.number_in (get_or xs start d)) (take start xs)
  pub conflicts : payload_conflict.AreConflictsAmong (take start xs) kept
  pub sorted : IsNonDecreasingBy payload_conflict.number_in kept

pub none_passed : (xs kept : List AddressedPayload) → kept ≡ [] → ArePassed xs 0 kept
none_passed xs kept none = record {
  within = omega arith;
  below = λ lt d. All-nil (λ e. payload_conflict.number_in e < payload_conflict.number_in (get_or xs 0 d));
  conflicts = λ e. (λ among. absurd (nothing e (subst (λ l. Contains l e) none among)), λ both. absurd (nothing e both.0));
  sorted = IsNonDecreasingBy-short payload_conflict.number_in kept (let is = ap length none in omega arith);
}
  where
    nothing : (e : AddressedPayload) → Contains [] e → ⊥
    nothing e among = let lt = among.1 in omega arith

less_before : (xs : List AddressedPayload) (start end : ℕ) (first : AddressedPayload) (kept : List AddressedPayload) → IsRun xs start end first → ArePassed xs start kept → All (λ e. payload_conflict.number_in e < payload_conflict.number_in first) (take start xs)
less_before xs start end first kept run known = subst (λ x. All (λ e. payload_conflict.number_in e < payload_conflict.number_in x) (take start xs)) (run.at first) (known.below run.within first)

joined : (xs : List AddressedPayload) (start end : ℕ) → start < end → take start xs ++ slice_range xs start end ≡ take end xs
joined xs start end onward = let whole : start + (end - start) ≡ end = omega arith in sym (take-add start (end - start) xs) ∙ ap (λ n. take n xs) whole

first_among : (xs : List AddressedPayload) (start end : ℕ) (first : AddressedPayload) → IsRun xs start end first → Contains (slice_range xs start end) first
first_among xs start end first run = (0, omega (arith, run.onward, run.end_within, length-take (end - start) (drop start xs), length-drop start xs), get_or-take (end - start) (drop start xs) 0 first (omega (arith, run.onward)) ∙ get_or-drop start xs 0 first ∙ ap (λ k. get_or xs k first) (omega arith) ∙ run.at first)

-- a run of one payload is passed
pub passed_same : (xs : List AddressedPayload) (start end : ℕ) (first : AddressedPayload) (kept : List AddressedPayload) → IsRun xs start end first → All (λ e. values.payload_value e.payload.now ≡ values.payload_value first.payload.now) (slice_range xs start end) → ArePassed xs start kept → ArePassed xs end kept
passed_same xs start end first kept run same known = record {
  within = run.end_within;
  below = run.below;
  conflicts = subst (λ l. payload_conflict.AreConflictsAmong l kept) (joined xs start end run.onward)
      (run_same (take start xs) (slice_range xs start end) kept (payload_conflict.number_in first) (values.payload_value first.payload.now) (less_before xs start end first kept run known) run.numbers same known.conflicts);
  sorted = known.sorted;
}

-- a run of two payloads is passed and kept
pub passed_differs : (xs : List AddressedPayload) (start end : ℕ) (first other : AddressedPayload) (kept : List AddressedPayload) → IsRun xs start end first → Contains (slice_range xs start end) other → values.payload_value other.payload.now ≢ values.payload_value first.payload.now
    → ArePassed xs start kept → ArePassed xs end (kept ++ slice_range xs start end)
passed_differs xs start end first other kept run among differ known =
    let less = less_before xs start end first kept run known in
    record {
      within = run.end_within;
      below = run.below;
      conflicts = subst (λ l. payload_conflict.AreConflictsAmong l (kept ++ slice_range xs start end)) (joined xs start end run.onward)
          (run_differs (take start xs) (slice_range xs start end) kept (payload_conflict.number_in first) other first less run.numbers among (first_among xs start end first run) differ known.conflicts);
      sorted = run_sorted kept (slice_range xs start end) (payload_conflict.number_in first) known.sorted
          (All-weaker (λ e. payload_conflict.number_in e < payload_conflict.number_in first) (λ e. payload_conflict.number_in e ≤ payload_conflict.number_in first) (λ e lt. omega arith) kept (kept_all (λ e. payload_conflict.number_in e < payload_conflict.number_in first) (take start xs) kept less known.conflicts)) run.numbers;
    }
