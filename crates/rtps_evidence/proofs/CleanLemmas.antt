-- The rule by counts is the rule by numbers.
use Rattle.std.proofs.lemmas.Grind.{common_steps}
use Rattle.std.proofs.Common.{◌≡◌, ◌∙◌, ℕ, ◌+◌, ◌-◌, ◌<◌, ◌≤◌, ◌==◌, ◌&&◌, ◌||◌, ◌⊎◌, Bool, true, false, cond, max, map, nat_le, nat_lt, not, List, [], ◌∷◌, Option, Some, None, refl, sym, ap, subst, arith, inl, inr}
use Rattle.std.specs.Prelude.{if◌then◌else◌, is_some}
use Rattle.std.specs.List.{find}
use Rattle.std.proofs.lemmas.Bool.{and_parts, cases_lt, lt-ltb, ltb-true}
use Rattle.std.proofs.lemmas.Bool.Decides.{nat_tests}
use Rattle.rtps_discovery.specs.declared.matching.Pair.{Pair}
use Rattle.rtps_audit.specs.Delivery as delivery
use Rattle.rtps_audit.specs.Placed as placed
use Rattle.rtps_coverage.specs.Counts as counts
use Rattle.rtps_evidence.specs.Clean as clean
use Rattle.rtps_evidence.specs.Locations as locations
use Rattle.rtps_evidence.specs.Missed as missed
use Rattle.rtps_evidence.specs.Outcomes as outcomes_spec
use Rattle.rtps_evidence.specs.Received as received
use Rattle.rtps_evidence.specs.declared.location.Location.{Location}
use Rattle.rtps_evidence.specs.declared.outcome.Outcome.{Outcome}
use Rattle.rtps_evidence.specs.declared.outcome.Outcomes.{Outcomes}
use Rattle.rtps_evidence.proofs.ClaimedThen.{excused_is_claimed}
use Rattle.rtps_coverage.proofs.Offered.{count_all, count_none, count_same, count_split}

-- where no number has it, each has not
pub none_has : (has : ℕ → Bool) (lo hi n : ℕ) → counts.count_in has lo hi ≡ 0 → lo ≤ n → n < hi → has n ≡ false
none_has has lo hi n none le lt = by (has n) refl
  where
    same_number : (k m : ℕ) → m ≤ k → k < m + 1 → has m ≡ true → has k ≡ true
    same_number k m a b is = let e : m ≡ k = omega arith in ap has (sym e) ∙ is

    by : (b : Bool) → has n ≡ b → has n ≡ false
    by false is = is
    by true is = absurd (
        let one = count_all has n (n + 1) (λ k a b. same_number k n a b is) in
        let first = count_split has lo n hi le (omega arith) in
        let second = count_split has n (n + 1) hi (omega arith) (omega arith) in
        omega (arith, one, first, second, none))

pub found_where : (said : placed.PlacedValue → ℕ) (n : ℕ) (acts : List placed.PlacedValue) → n < delivery.greatest (map said acts) → is_some (find (λ (at : placed.PlacedValue). nat_lt n (said at)) acts) ≡ true
found_where said n [] lt = absurd (omega arith)
found_where said n (x ∷ xs) lt = elim (cases_lt n (said x)) [
  | inl here ↦ let yes : nat_lt n (said x) ≡ true = grind (arith, nat_tests) in ap (λ b. is_some (cond b (Some x) (find (λ (at : placed.PlacedValue). nat_lt n (said at)) xs))) yes
  | inr past ↦
      let no : nat_lt n (said x) ≡ false = grind (arith, nat_tests) in
      ap (λ b. is_some (cond b (Some x) (find (λ (at : placed.PlacedValue). nat_lt n (said at)) xs))) no ∙ found_where said n xs (omega arith)
]

pub none_where : (said : placed.PlacedValue → ℕ) (n : ℕ) (acts : List placed.PlacedValue) → delivery.greatest (map said acts) ≤ n → find (λ (at : placed.PlacedValue). nat_lt n (said at)) acts ≡ None
none_where said n [] le = refl
none_where said n (x ∷ xs) le =
    let no : nat_lt n (said x) ≡ false = grind (arith, nat_tests) in
    ap (λ b. cond b (Some x) (find (λ (at : placed.PlacedValue). nat_lt n (said at)) xs)) no ∙ none_where said n xs (omega arith)

-- the first that fits
abbrev pub first_of : Bool → Bool → Bool → Bool → Bool → Bool → Bool → Outcome
first_of r t w e b u c = if r then Outcome.Received else if t then Outcome.Arrived else if w then (if e then Outcome.Likely else Outcome.Missed) else if not b then Outcome.Unsent else if u then Outcome.Unanswered else if c then Outcome.Likely else Outcome.Unconfirmed

-- a number is none of what is lost; of a pair that is held, it is not likely, and of another one it is not there
record IsKept (held t : Bool) (outcome : Outcome) : Type 0 where
  pub missed : outcomes_spec.is_outcome Outcome.Missed outcome ≡ false
  pub unsent : outcomes_spec.is_outcome Outcome.Unsent outcome ≡ false
  pub unanswered : outcomes_spec.is_outcome Outcome.Unanswered outcome ≡ false
  pub likely : held ≡ true → outcomes_spec.is_outcome Outcome.Likely outcome ≡ false
  pub nowhere : held ≡ false → t ≡ false

below_base : (held r t w e b u c : Bool) → IsKept held t (first_of r t w e b u c) → c ≡ true → clean.IsBelowBase held (first_of r t w e b u c)
below_base held r t w e b u c h h2 = grind (arith, nat_tests)

past_base : (held r t w e b u c : Bool) → (e ≡ true → c ≡ true) → IsKept held t (first_of r t w e b u c) → r ≡ false → c ≡ false → clean.IsPastBase held (first_of r t w e b u c)
past_base held r t w false b u c h h2 h3 h4 = grind (arith, nat_tests)
past_base held r t w true b u c h h2 h3 h4 = absurd (let yes = h refl in let clash : true ≡ false = sym yes ∙ h4 in cc)

-- what is not lost, not likely and not unconfirmed came
came : (r t w e b u c : Bool) → IsKept true t (first_of r t w e b u c) → outcomes_spec.is_outcome Outcome.Unconfirmed (first_of r t w e b u c) ≡ false → clean.IsBelowBase true (first_of r t w e b u c)
came r t w e b u c h h2 = grind (arith, nat_tests)

zero_of : (n : ℕ) → (n == 0) ≡ true → n ≡ 0
zero_of n is = grind (arith, nat_tests, is)

-- none of three numbers that are tested so is above 0
all_zero : (a b c : ℕ) → ((a == 0) && ((b == 0) && (c == 0))) ≡ true → (a ≡ 0) × (b ≡ 0) × (c ≡ 0)
all_zero a b c is = grind (arith, nat_tests)

-- of a pair that is held, a number that is tested so is not above 0
zero_where : (held : Bool) (n : ℕ) → (not held || (n == 0)) ≡ true → held ≡ true → n ≡ 0
zero_where held n h h2 = grind (arith, nat_tests)

-- ---- the counts of a row that loses nothing, and its numbers

module _ (held : Bool) (there : ℕ → Bool) (from last : ℕ) (times : List (Option ℕ)) (since : Option Location) (pair : Pair) (acts : List placed.PlacedValue) (outcomes : Outcomes) (nowhere : held ≡ false → (n : ℕ) → there n ≡ false) (are : outcomes_spec.AreOutcomes there from last times since pair acts outcomes) where
  abbrev outcome : ℕ → Outcome
  outcome n = outcomes_spec.outcome_of there times since pair acts n

  none_counted : (kind : Outcome) (count n : ℕ) → count ≡ outcomes_spec.count_of kind (outcomes_spec.outcome_of there times since pair acts) from (last + 1) → count ≡ 0 → from ≤ n → n ≤ last → outcomes_spec.is_outcome kind (outcome n) ≡ false
  none_counted kind count n is none low high = none_has (λ m. outcomes_spec.is_outcome kind (outcomes_spec.outcome_of there times since pair acts m)) from (last + 1) n (sym is ∙ none) low (omega arith)

  is_kept : clean.loses_none held outcomes ≡ true → (n : ℕ) → from ≤ n → n ≤ last → IsKept held (there n) (outcome n)
  is_kept none n low high =
      let parts = and_parts (clean.has_all outcomes) (not held || (outcomes.likely == 0)) none in
      let zeros = all_zero outcomes.missed outcomes.unsent outcomes.unanswered parts.0 in
      record {
        missed = none_counted Outcome.Missed outcomes.missed n are.missed zeros.0 low high;
        unsent = none_counted Outcome.Unsent outcomes.unsent n are.unsent zeros.1 low high;
        unanswered = none_counted Outcome.Unanswered outcomes.unanswered n are.unanswered zeros.2 low high;
        likely = λ held_is. none_counted Outcome.Likely outcomes.likely n are.likely (zero_where held outcomes.likely parts.1 held_is) low high;
        nowhere = λ alone. nowhere alone n;
      }

  tail_said : clean.loses_none held outcomes ≡ true → 1 < locations.greatest_base pair.writer pair.reader acts → from ≤ locations.greatest_base pair.writer pair.reader acts → clean.IsTail held there from last times since pair acts
  unfolding outcomes_spec.outcome_of
  tail_said none above onward =
      let said = locations.base_said pair.writer pair.reader in
      record {
        acknowledged = above;
        onward = onward;
        below = λ n a b lt. below_base held (received.is_received pair.writer pair.reader acts n) (there n) (missed.is_wanting since pair.writer pair.reader acts n) (missed.is_excused pair.writer pair.reader acts n) (outcomes_spec.is_brought since pair acts n) (outcomes_spec.is_unanswered times since pair acts n)
            (is_some (received.first_claiming pair.writer pair.reader n acts)) (is_kept none n a b) (found_where said n acts lt);
        others = λ n a b le.
            let unclaimed = none_where said n acts le in
            past_base held (received.is_received pair.writer pair.reader acts n) (there n) (missed.is_wanting since pair.writer pair.reader acts n) (missed.is_excused pair.writer pair.reader acts n) (outcomes_spec.is_brought since pair acts n) (outcomes_spec.is_unanswered times since pair acts n)
            (is_some (received.first_claiming pair.writer pair.reader n acts)) (excused_is_claimed pair acts n) (is_kept none n a b) (ap (received.is_certain_by pair.writer pair.reader n acts) unclaimed) (ap is_some unclaimed);
      }

  whole_said : held ≡ true → clean.loses_none held outcomes ≡ true → outcomes.unconfirmed ≡ 0 → (n : ℕ) → from ≤ n → n ≤ last → clean.IsBelowBase true (outcome n)
  unfolding outcomes_spec.outcome_of
  whole_said held_is none all n low high =
      came (received.is_received pair.writer pair.reader acts n) (there n) (missed.is_wanting since pair.writer pair.reader acts n) (missed.is_excused pair.writer pair.reader acts n) (outcomes_spec.is_brought since pair acts n) (outcomes_spec.is_unanswered times since pair acts n)
      (is_some (received.first_claiming pair.writer pair.reader n acts)) (subst (λ h. IsKept h (there n) (outcome n)) held_is (is_kept none n low high)) (none_counted Outcome.Unconfirmed outcomes.unconfirmed n are.unconfirmed all low high)

-- ---- the other way round

-- what a number of a tail is
abbrev IsAsTail : Bool → Outcome → Type 0
IsAsTail held outcome = clean.IsBelowBase held outcome ⊎ clean.IsPastBase held outcome

-- what such a number is beside received and unconfirmed
abbrev also_came : Bool → Outcome
also_came true = Outcome.Arrived
also_came false = Outcome.Likely

is_other : (held : Bool) (kind outcome : Outcome) → outcomes_spec.is_outcome kind Outcome.Received ≡ false → outcomes_spec.is_outcome kind (also_came held) ≡ false → outcomes_spec.is_outcome kind Outcome.Unconfirmed ≡ false → IsAsTail held outcome → outcomes_spec.is_outcome kind outcome ≡ false
is_other held kind outcome h h2 h3 h4 = grind (arith, nat_tests)

is_zero : (n : ℕ) → n ≡ 0 → (n == 0) ≡ true
is_zero n is = grind (arith, nat_tests, is)

as_tail : (held : Bool) (there : ℕ → Bool) (from last : ℕ) (times : List (Option ℕ)) (since : Option Location) (pair : Pair) (acts : List placed.PlacedValue) → clean.IsTail held there from last times since pair acts
    → (n : ℕ) → from ≤ n → n < last + 1 → IsAsTail held (outcomes_spec.outcome_of there times since pair acts n)
as_tail held there from last times since pair acts tail n low high = grind (arith, nat_tests)

none_of : (held : Bool) (there : ℕ → Bool) (kind : Outcome) (from last : ℕ) (times : List (Option ℕ)) (since : Option Location) (pair : Pair) (acts : List placed.PlacedValue) → outcomes_spec.is_outcome kind Outcome.Received ≡ false → outcomes_spec.is_outcome kind (also_came held) ≡ false → outcomes_spec.is_outcome kind Outcome.Unconfirmed ≡ false
    → ((n : ℕ) → from ≤ n → n < last + 1 → IsAsTail held (outcomes_spec.outcome_of there times since pair acts n)) → outcomes_spec.count_of kind (outcomes_spec.outcome_of there times since pair acts) from (last + 1) ≡ 0
none_of held there kind from last times since pair acts r l u tail = grind (arith, nat_tests, common_steps, count_none, is_other)

tail_meant : (held : Bool) (there : ℕ → Bool) (from last : ℕ) (times : List (Option ℕ)) (since : Option Location) (pair : Pair) (acts : List placed.PlacedValue) (outcomes : Outcomes) → outcomes_spec.AreOutcomes there from last times since pair acts outcomes
    → ((n : ℕ) → from ≤ n → n < last + 1 → IsAsTail held (outcomes_spec.outcome_of there times since pair acts n)) → clean.loses_none held outcomes ≡ true
tail_meant true there from last times since pair acts outcomes are tail =
    let missed = is_zero outcomes.missed (are.missed ∙ none_of true there Outcome.Missed from last times since pair acts refl refl refl tail) in
    let unsent = is_zero outcomes.unsent (are.unsent ∙ none_of true there Outcome.Unsent from last times since pair acts refl refl refl tail) in
    let unanswered = is_zero outcomes.unanswered (are.unanswered ∙ none_of true there Outcome.Unanswered from last times since pair acts refl refl refl tail) in
    let likely = is_zero outcomes.likely (are.likely ∙ none_of true there Outcome.Likely from last times since pair acts refl refl refl tail) in
    rw (missed, unsent, unanswered, likely) refl
tail_meant false there from last times since pair acts outcomes are tail =
    let missed = is_zero outcomes.missed (are.missed ∙ none_of false there Outcome.Missed from last times since pair acts refl refl refl tail) in
    let unsent = is_zero outcomes.unsent (are.unsent ∙ none_of false there Outcome.Unsent from last times since pair acts refl refl refl tail) in
    let unanswered = is_zero outcomes.unanswered (are.unanswered ∙ none_of false there Outcome.Unanswered from last times since pair acts refl refl refl tail) in
    rw (missed, unsent, unanswered) refl

-- where each number came, none is unconfirmed
whole_meant : (there : ℕ → Bool) (from last : ℕ) (times : List (Option ℕ)) (since : Option Location) (pair : Pair) (acts : List placed.PlacedValue) (outcomes : Outcomes) → outcomes_spec.AreOutcomes there from last times since pair acts outcomes
    → ((n : ℕ) → from ≤ n → n ≤ last → clean.IsBelowBase true (outcomes_spec.outcome_of there times since pair acts n)) → outcomes.unconfirmed ≡ 0
whole_meant there from last times since pair acts outcomes are all = grind (arith, nat_tests, common_steps, count_none)

-- of a tail, the unconfirmed numbers are those from the greatest base on that have this
unconfirmed_past : (from last base : ℕ) (outcome : ℕ → Outcome) (has : ℕ → Bool) → ((n : ℕ) → from ≤ n → n ≤ last → n < base → outcomes_spec.is_outcome Outcome.Unconfirmed (outcome n) ≡ false)
    → ((n : ℕ) → from ≤ n → n ≤ last → base ≤ n → outcomes_spec.is_outcome Outcome.Unconfirmed (outcome n) ≡ has n) → outcomes_spec.count_of Outcome.Unconfirmed outcome from (last + 1) ≡ counts.count_in has (max from base) (last + 1)
unconfirmed_past from last base outcome has below others = elim (cases_lt (last + 1) (max from base)) [
  | inl past ↦
      let none = count_none (λ n. outcomes_spec.is_outcome Outcome.Unconfirmed (outcome n)) from (last + 1) (λ n low high. below n low (omega arith) (omega arith)) in
      let no_more = count_none has (max from base) (last + 1) (λ n low high. absurd (omega arith)) in
      none ∙ sym no_more
  | inr within ↦
      let split = count_split (λ n. outcomes_spec.is_outcome Outcome.Unconfirmed (outcome n)) from (max from base) (last + 1) (omega arith) within in
      let none = count_none (λ n. outcomes_spec.is_outcome Outcome.Unconfirmed (outcome n)) from (max from base) (λ n low high. below n low (omega arith) (omega arith)) in
      let rest = count_same (λ n. outcomes_spec.is_outcome Outcome.Unconfirmed (outcome n)) has (max from base) (last + 1) (λ n low high. others n (omega arith) (omega arith) (omega arith)) in
      omega (arith, split, none, rest)
]

max_onward : (from base : ℕ) → from ≤ base → max from base ≡ base
max_onward from base le = omega arith

tail_counted : (there : ℕ → Bool) (from last : ℕ) (times : List (Option ℕ)) (since : Option Location) (pair : Pair) (acts : List placed.PlacedValue) (outcomes : Outcomes) → outcomes_spec.AreOutcomes there from last times since pair acts outcomes → clean.IsTail false there from last times since pair acts
    → outcomes.unconfirmed ≡ last + 1 - locations.greatest_base pair.writer pair.reader acts
tail_counted there from last times since pair acts outcomes are tail =
    are.unconfirmed
    ∙ unconfirmed_past from last (locations.greatest_base pair.writer pair.reader acts) (outcomes_spec.outcome_of there times since pair acts) (λ n. true) (λ n low high lt. never (outcomes_spec.outcome_of there times since pair acts n) (tail.below n low high lt))
    (λ n low high ge. ap (outcomes_spec.is_outcome Outcome.Unconfirmed) (tail.others n low high ge))
    ∙ count_all (λ n. true) (max from (locations.greatest_base pair.writer pair.reader acts)) (last + 1) (λ n low high. refl)
    ∙ ap (λ m. last + 1 - m) (max_onward from (locations.greatest_base pair.writer pair.reader acts) tail.onward)
  where
    never : (outcome : Outcome) → clean.IsBelowBase false outcome → outcomes_spec.is_outcome Outcome.Unconfirmed outcome ≡ false
    never outcome (inl is) = ap (outcomes_spec.is_outcome Outcome.Unconfirmed) is
    never outcome (inr is) = ap (outcomes_spec.is_outcome Outcome.Unconfirmed) is

-- of a pair that is held, a number of a tail from the greatest base on is unconfirmed where it is not there
not_there : (r t w e b u c : Bool) → clean.IsPastBase true (first_of r t w e b u c) → outcomes_spec.is_outcome Outcome.Unconfirmed (first_of r t w e b u c) ≡ not t
not_there r t w e b u c h = grind (arith, nat_tests)

held_tail_counted : (there : ℕ → Bool) (from last : ℕ) (times : List (Option ℕ)) (since : Option Location) (pair : Pair) (acts : List placed.PlacedValue) (outcomes : Outcomes) → outcomes_spec.AreOutcomes there from last times since pair acts outcomes → clean.IsTail true there from last times since pair acts
    → outcomes.unconfirmed ≡ counts.count_in (λ n. not (there n)) (locations.greatest_base pair.writer pair.reader acts) (last + 1)
unfolding outcomes_spec.outcome_of
held_tail_counted there from last times since pair acts outcomes are tail =
    are.unconfirmed
    ∙ unconfirmed_past from last (locations.greatest_base pair.writer pair.reader acts) (outcomes_spec.outcome_of there times since pair acts) (λ n. not (there n)) (λ n low high lt. never (outcomes_spec.outcome_of there times since pair acts n) (tail.below n low high lt))
    (λ n low high ge. not_there (received.is_received pair.writer pair.reader acts n) (there n) (missed.is_wanting since pair.writer pair.reader acts n) (missed.is_excused pair.writer pair.reader acts n) (outcomes_spec.is_brought since pair acts n) (outcomes_spec.is_unanswered times since pair acts n)
    (is_some (received.first_claiming pair.writer pair.reader n acts)) (tail.others n low high ge))
    ∙ ap (λ m. counts.count_in (λ n. not (there n)) m (last + 1)) (max_onward from (locations.greatest_base pair.writer pair.reader acts) tail.onward)
  where
    never : (outcome : Outcome) → clean.IsBelowBase true outcome → outcomes_spec.is_outcome Outcome.Unconfirmed outcome ≡ false
    never outcome (inl is) = ap (outcomes_spec.is_outcome Outcome.Unconfirmed) is
    never outcome (inr is) = ap (outcomes_spec.is_outcome Outcome.Unconfirmed) is

le_of : (a b : ℕ) → nat_le a b ≡ true → a ≤ b
le_of a b h = grind (arith, nat_tests)

of_le : (a b : ℕ) → a ≤ b → nat_le a b ≡ true
of_le a b h = grind (arith, nat_tests)

and_four : (a b c d : Bool) → a ≡ true → b ≡ true → c ≡ true → d ≡ true → (a && (b && (c && d))) ≡ true
and_four a b c d is_a is_b is_c is_d = rw (is_a, is_b, is_c, is_d) refl

pub counts_say_tail : clean.CountsSayTail
counts_say_tail = λ held there from last times since pair acts outcomes nowhere are.
    let base = locations.greatest_base pair.writer pair.reader acts in
    record {
      tail = λ verdict open_it. (
        λ is.
            let parts = and_parts (clean.is_begun from base) (clean.loses_none held outcomes) (and_parts (clean.is_open verdict) (clean.is_begun from base && clean.loses_none held outcomes) is).1 in
            let begun = and_parts (nat_lt 1 base) (nat_le from base) parts.0 in
            tail_said held there from last times since pair acts outcomes nowhere are parts.1 (ltb-true 1 base begun.0) (le_of from base begun.1),
        λ tail.
            let above = lt-ltb 1 base tail.acknowledged in
            let onward = of_le from base tail.onward in
            let all = tail_meant held there from last times since pair acts outcomes are (as_tail held there from last times since pair acts tail) in
            rw (open_it, above, onward, all) refl,
      );
      unconfirmed = λ alone tail. tail_counted there from last times since pair acts outcomes are (subst (λ h. clean.IsTail h there from last times since pair acts) alone tail);
      not_there = λ held_is tail. held_tail_counted there from last times since pair acts outcomes are (subst (λ h. clean.IsTail h there from last times since pair acts) held_is tail);
      whole = λ verdict held_is open_it. (
        λ is.
            let parts = and_parts (clean.is_open verdict) (clean.loses_none held outcomes && (outcomes.unconfirmed == 0)) (and_parts held (clean.is_open verdict && (clean.loses_none held outcomes && (outcomes.unconfirmed == 0))) is).1 in
            let none = and_parts (clean.loses_none held outcomes) (outcomes.unconfirmed == 0) parts.1 in
            whole_said held there from last times since pair acts outcomes nowhere are held_is none.0 (zero_of outcomes.unconfirmed none.1),
        λ all.
            let none = subst (λ h. clean.loses_none h outcomes ≡ true) (sym held_is) (tail_meant true there from last times since pair acts outcomes are (λ n low high. inl (all n low (omega arith)))) in
            let unconfirmed = is_zero outcomes.unconfirmed (whole_meant there from last times since pair acts outcomes are all) in
            and_four held (clean.is_open verdict) (clean.loses_none held outcomes) (outcomes.unconfirmed == 0) held_is open_it none unconfirmed,
      );
    }
