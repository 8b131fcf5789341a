-- Outcomes one after another: how many numbers each has more than those before.
use Rattle.std.proofs.Common.{◌≡◌, ◌∙◌, ℕ, ◌+◌, ◌-◌, ◌<◌, ◌≤◌, ◌&&◌, ◌||◌, Bool, true, false, not, List, Option, nat_lt, refl, sym, ap, arith, inl, inr}
use Rattle.std.specs.Prelude.{is_some}
use Rattle.std.proofs.lemmas.Bool.{and_parts, cases_lt}
use Rattle.std.proofs.lemmas.Bool.Decides.{nat_tests}
use Rattle.rtps_discovery.specs.declared.matching.Pair.{Pair}
use Rattle.rtps_audit.specs.Placed as placed
use Rattle.rtps_coverage.specs.Counts as counts
use Rattle.rtps_evidence.specs.Locations as locations
use Rattle.rtps_evidence.specs.Missed as missed_spec
use Rattle.rtps_evidence.specs.Outcomes as outcomes_spec
use Rattle.rtps_evidence.specs.Received as received_spec
use Rattle.rtps_evidence.specs.declared.location.Location.{Location}
use Rattle.rtps_evidence.specs.declared.outcome.Outcome.{Outcome}
use Rattle.rtps_evidence.specs.declared.outcome.Outcomes.{Outcomes}
use Rattle.rtps_evidence.proofs.CleanLemmas.{first_of, found_where, none_where}
use Rattle.rtps_coverage.proofs.Offered.{count_none, count_others, count_rest, count_same}

-- an answer claims n where the greatest base is above it
pub claimed_below : (pair : Pair) (acts : List placed.PlacedValue) (n : ℕ) → nat_lt n (locations.greatest_base pair.writer pair.reader acts) ≡ is_some (received_spec.first_claiming pair.writer pair.reader n acts)
claimed_below pair acts n = elim (cases_lt n (locations.greatest_base pair.writer pair.reader acts)) [
  | inl lt ↦ let yes : nat_lt n (locations.greatest_base pair.writer pair.reader acts) ≡ true = grind (arith, nat_tests) in yes ∙ sym (found_where (locations.base_said pair.writer pair.reader) n acts lt)
  | inr ge ↦ let no : nat_lt n (locations.greatest_base pair.writer pair.reader acts) ≡ false = grind (arith, nat_tests) in no ∙ sym (ap is_some (none_where (locations.base_said pair.writer pair.reader) n acts ge))
]

-- the numbers that have one of two things that exclude each other
pub count_one_more : (before behind kind : ℕ → Bool) (lo hi : ℕ) → ((n : ℕ) → lo ≤ n → n < hi → behind n ≡ (before n || kind n)) → ((n : ℕ) → lo ≤ n → n < hi → (before n && kind n) ≡ false)
    → counts.count_in behind lo hi ≡ counts.count_in before lo hi + counts.count_in kind lo hi
count_one_more before behind kind lo hi is apart =
    let both = count_rest before (λ n. before n || kind n) lo hi (λ n is_before. ap (λ b. b || kind n) is_before) in
    let all = count_same behind (λ n. before n || kind n) lo hi is in
    let rest = count_same (λ n. (before n || kind n) && not (before n)) kind lo hi (λ n low high. others (before n) (kind n) (apart n low high)) in
    omega (arith, both, all, rest)
  where
    others : (a b : Bool) → (a && b) ≡ false → ((a || b) && not a) ≡ b
    others true true out = cc
    others true false out = refl
    others false true out = refl
    others false false out = refl

-- ---- what each outcome adds

abbrev pub with_arrived : Bool → Bool → Bool
with_arrived r t = r || t

abbrev pub with_missed : Bool → Bool → Bool → Bool → Bool
with_missed r t w e = with_arrived r t || (w && not e)

abbrev pub with_unmet : Bool → Bool → Bool → Bool
with_unmet r t w = with_arrived r t || w

abbrev pub with_unsent : Bool → Bool → Bool → Bool → Bool
with_unsent r t w b = with_unmet r t w || not b

abbrev pub with_unanswered : Bool → Bool → Bool → Bool → Bool → Bool
with_unanswered r t w b u = with_unsent r t w b || u

abbrev pub with_likely : Bool → Bool → Bool → Bool → Bool → Bool → Bool
with_likely r t w b u c = with_unanswered r t w b u || c

is_first : (r t w e b u c : Bool) → outcomes_spec.is_outcome Outcome.Received (first_of r t w e b u c) ≡ r
is_first r t w e b u c = grind (arith, nat_tests)

record Adds (before behind kind : Bool) : Type 0 where
  pub more : behind ≡ (before || kind)
  pub apart : (before && kind) ≡ false

adds_arrived : (r t w e b u c : Bool) → Adds r (with_arrived r t) (outcomes_spec.is_outcome Outcome.Arrived (first_of r t w e b u c))
adds_arrived r t w e b u c = grind (arith, nat_tests)

adds_missed : (r t w e b u c : Bool) → Adds (with_arrived r t) (with_missed r t w e) (outcomes_spec.is_outcome Outcome.Missed (first_of r t w e b u c))
adds_missed r t w e b u c = grind (arith, nat_tests)

adds_unsent : (r t w e b u c : Bool) → Adds (with_unmet r t w) (with_unsent r t w b) (outcomes_spec.is_outcome Outcome.Unsent (first_of r t w e b u c))
adds_unsent r t w e b u c = grind (arith, nat_tests)

adds_unanswered : (r t w e b u c : Bool) → Adds (with_unsent r t w b) (with_unanswered r t w b u) (outcomes_spec.is_outcome Outcome.Unanswered (first_of r t w e b u c))
adds_unanswered r t w e b u c = grind (arith, nat_tests)

-- a number that is likely is so for an answer that lacks, or for a claim
abbrev excused : Bool → Bool → Bool → Bool → Bool
excused r t w e = not (with_arrived r t) && (w && e)

abbrev claimed : Bool → Bool → Bool → Bool → Bool → Bool → Bool
claimed r t w b u c = not (with_unanswered r t w b u) && c

adds_excused : (r t w e : Bool) → Adds (with_missed r t w e) (with_unmet r t w) (excused r t w e)
adds_excused r t w e = grind (arith, nat_tests)

adds_claimed : (r t w b u c : Bool) → Adds (with_unanswered r t w b u) (with_likely r t w b u c) (claimed r t w b u c)
adds_claimed r t w b u c = grind (arith, nat_tests)

adds_likely : (r t w e b u c : Bool) → Adds (excused r t w e) (outcomes_spec.is_outcome Outcome.Likely (first_of r t w e b u c)) (claimed r t w b u c)
adds_likely r t w e b u c = grind (arith, nat_tests)

is_last : (r t w e b u c : Bool) → outcomes_spec.is_outcome Outcome.Unconfirmed (first_of r t w e b u c) ≡ not (with_likely r t w b u c)
is_last r t w e b u c = grind (arith, nat_tests)

-- ---- all together

-- these sets of numbers are those of each outcome and the ones before it, from lo on and below hi
pub record AreCumulated (there : ℕ → Bool) (lo hi : ℕ) (times : List (Option ℕ)) (since : Option Location) (pair : Pair) (acts : List placed.PlacedValue) (received arrived missed unmet unsent unanswered likely : ℕ → Bool) : Type 0 where
  pub of_received : (n : ℕ) → lo ≤ n → n < hi → received n ≡ received_spec.is_received pair.writer pair.reader acts n
  pub of_arrived : (n : ℕ) → lo ≤ n → n < hi → arrived n ≡ with_arrived (received_spec.is_received pair.writer pair.reader acts n) (there n)
  pub of_missed : (n : ℕ) → lo ≤ n → n < hi → missed n ≡ with_missed (received_spec.is_received pair.writer pair.reader acts n) (there n) (missed_spec.is_wanting since pair.writer pair.reader acts n) (missed_spec.is_excused pair.writer pair.reader acts n)
  pub of_unmet : (n : ℕ) → lo ≤ n → n < hi → unmet n ≡ with_unmet (received_spec.is_received pair.writer pair.reader acts n) (there n) (missed_spec.is_wanting since pair.writer pair.reader acts n)
  pub of_unsent : (n : ℕ) → lo ≤ n → n < hi → unsent n ≡ with_unsent (received_spec.is_received pair.writer pair.reader acts n) (there n) (missed_spec.is_wanting since pair.writer pair.reader acts n) (outcomes_spec.is_brought since pair acts n)
  pub of_unanswered : (n : ℕ) → lo ≤ n → n < hi → unanswered n
      ≡ with_unanswered (received_spec.is_received pair.writer pair.reader acts n) (there n) (missed_spec.is_wanting since pair.writer pair.reader acts n) (outcomes_spec.is_brought since pair acts n) (outcomes_spec.is_unanswered times since pair acts n)
  pub of_likely : (n : ℕ) → lo ≤ n → n < hi → likely n
      ≡ with_likely (received_spec.is_received pair.writer pair.reader acts n) (there n) (missed_spec.is_wanting since pair.writer pair.reader acts n) (outcomes_spec.is_brought since pair acts n) (outcomes_spec.is_unanswered times since pair acts n) (is_some (received_spec.first_claiming pair.writer pair.reader n acts))

pub outcomes_counted : (there : ℕ → Bool) (from last : ℕ) (times : List (Option ℕ)) (since : Option Location) (pair : Pair) (acts : List placed.PlacedValue) (received arrived missed unmet unsent unanswered likely : ℕ → Bool)
    → AreCumulated there from (last + 1) times since pair acts received arrived missed unmet unsent unanswered likely
    → outcomes_spec.AreOutcomes there from last times since pair acts (record {
      received = counts.count_in received from (last + 1);
      arrived = counts.count_in arrived from (last + 1) - counts.count_in received from (last + 1);
      missed = counts.count_in missed from (last + 1) - counts.count_in arrived from (last + 1);
      unsent = counts.count_in unsent from (last + 1) - counts.count_in unmet from (last + 1);
      unanswered = counts.count_in unanswered from (last + 1) - counts.count_in unsent from (last + 1);
      likely = counts.count_in likely from (last + 1) - counts.count_in missed from (last + 1) - (counts.count_in unanswered from (last + 1) - counts.count_in unmet from (last + 1));
      unconfirmed = last + 1 - from - counts.count_in likely from (last + 1);
    })
unfolding outcomes_spec.outcome_of
outcomes_counted there from last times since pair acts received arrived missed unmet unsent unanswered likely are =
    let r = received_spec.is_received pair.writer pair.reader acts in
    let w = missed_spec.is_wanting since pair.writer pair.reader acts in
    let e = missed_spec.is_excused pair.writer pair.reader acts in
    let b = outcomes_spec.is_brought since pair acts in
    let u = outcomes_spec.is_unanswered times since pair acts in
    let c : ℕ → Bool = λ n. is_some (received_spec.first_claiming pair.writer pair.reader n acts) in
    let outcome : ℕ → Outcome = λ n. first_of (r n) (there n) (w n) (e n) (b n) (u n) (c n) in
    let one = count_same received (λ n. outcomes_spec.is_outcome Outcome.Received (outcome n)) from (last + 1) (λ n low high. are.of_received n low high ∙ sym (is_first (r n) (there n) (w n) (e n) (b n) (u n) (c n))) in
    let two = count_one_more received arrived (λ n. outcomes_spec.is_outcome Outcome.Arrived (outcome n)) from (last + 1)
    (λ n low high. are.of_arrived n low high ∙ (adds_arrived (r n) (there n) (w n) (e n) (b n) (u n) (c n)).more ∙ ap (λ x. x || outcomes_spec.is_outcome Outcome.Arrived (outcome n)) (sym (are.of_received n low high)))
    (λ n low high. ap (λ x. x && outcomes_spec.is_outcome Outcome.Arrived (outcome n)) (are.of_received n low high) ∙ (adds_arrived (r n) (there n) (w n) (e n) (b n) (u n) (c n)).apart) in
    let three = count_one_more arrived missed (λ n. outcomes_spec.is_outcome Outcome.Missed (outcome n)) from (last + 1)
    (λ n low high. are.of_missed n low high ∙ (adds_missed (r n) (there n) (w n) (e n) (b n) (u n) (c n)).more ∙ ap (λ x. x || outcomes_spec.is_outcome Outcome.Missed (outcome n)) (sym (are.of_arrived n low high)))
    (λ n low high. ap (λ x. x && outcomes_spec.is_outcome Outcome.Missed (outcome n)) (are.of_arrived n low high) ∙ (adds_missed (r n) (there n) (w n) (e n) (b n) (u n) (c n)).apart) in
    let kept = count_one_more missed unmet (λ n. excused (r n) (there n) (w n) (e n)) from (last + 1)
    (λ n low high. are.of_unmet n low high ∙ (adds_excused (r n) (there n) (w n) (e n)).more ∙ ap (λ x. x || excused (r n) (there n) (w n) (e n)) (sym (are.of_missed n low high)))
    (λ n low high. ap (λ x. x && excused (r n) (there n) (w n) (e n)) (are.of_missed n low high) ∙ (adds_excused (r n) (there n) (w n) (e n)).apart) in
    let four = count_one_more unmet unsent (λ n. outcomes_spec.is_outcome Outcome.Unsent (outcome n)) from (last + 1)
    (λ n low high. are.of_unsent n low high ∙ (adds_unsent (r n) (there n) (w n) (e n) (b n) (u n) (c n)).more ∙ ap (λ x. x || outcomes_spec.is_outcome Outcome.Unsent (outcome n)) (sym (are.of_unmet n low high)))
    (λ n low high. ap (λ x. x && outcomes_spec.is_outcome Outcome.Unsent (outcome n)) (are.of_unmet n low high) ∙ (adds_unsent (r n) (there n) (w n) (e n) (b n) (u n) (c n)).apart) in
    let five = count_one_more unsent unanswered (λ n. outcomes_spec.is_outcome Outcome.Unanswered (outcome n)) from (last + 1)
    (λ n low high. are.of_unanswered n low high ∙ (adds_unanswered (r n) (there n) (w n) (e n) (b n) (u n) (c n)).more ∙ ap (λ x. x || outcomes_spec.is_outcome Outcome.Unanswered (outcome n)) (sym (are.of_unsent n low high)))
    (λ n low high. ap (λ x. x && outcomes_spec.is_outcome Outcome.Unanswered (outcome n)) (are.of_unsent n low high) ∙ (adds_unanswered (r n) (there n) (w n) (e n) (b n) (u n) (c n)).apart) in
    let six = count_one_more unanswered likely (λ n. claimed (r n) (there n) (w n) (b n) (u n) (c n)) from (last + 1)
    (λ n low high. are.of_likely n low high ∙ (adds_claimed (r n) (there n) (w n) (b n) (u n) (c n)).more ∙ ap (λ x. x || claimed (r n) (there n) (w n) (b n) (u n) (c n)) (sym (are.of_unanswered n low high)))
    (λ n low high. ap (λ x. x && claimed (r n) (there n) (w n) (b n) (u n) (c n)) (are.of_unanswered n low high) ∙ (adds_claimed (r n) (there n) (w n) (b n) (u n) (c n)).apart) in
    let both = count_one_more (λ n. excused (r n) (there n) (w n) (e n)) (λ n. outcomes_spec.is_outcome Outcome.Likely (outcome n)) (λ n. claimed (r n) (there n) (w n) (b n) (u n) (c n)) from (last + 1)
    (λ n low high. (adds_likely (r n) (there n) (w n) (e n) (b n) (u n) (c n)).more) (λ n low high. (adds_likely (r n) (there n) (w n) (e n) (b n) (u n) (c n)).apart) in
    let seven = count_same (λ n. not (likely n)) (λ n. outcomes_spec.is_outcome Outcome.Unconfirmed (outcome n)) from (last + 1) (λ n low high. ap not (are.of_likely n low high) ∙ sym (is_last (r n) (there n) (w n) (e n) (b n) (u n) (c n))) in
    let all = count_others likely from (last + 1) in
    record {
      received = one;
      arrived = omega (arith, two);
      missed = omega (arith, three);
      unsent = omega (arith, four);
      unanswered = omega (arith, five);
      likely = omega (arith, kept, four, five, six, both);
      unconfirmed = omega (arith, all, seven);
    }

-- ---- each set with the numbers that are put to it

pub missed_put : (before r t w e m x : Bool) → before ≡ with_arrived r t → m ≡ ((not r && w) && not e) → x ≡ (before || m) → x ≡ with_missed r t w e
missed_put before r t w e m x h h2 h3 = grind (arith, nat_tests)

pub unmet_put : (before r t w e v x : Bool) → before ≡ with_missed r t w e → v ≡ (not r && w) → x ≡ (before || v) → x ≡ with_unmet r t w
unmet_put before r t w e v x h h2 h3 = grind (arith, nat_tests)

pub unsent_put : (before r t w b u x : Bool) → before ≡ with_unmet r t w → (r ≡ false → u ≡ not b) → x ≡ (before || u) → x ≡ with_unsent r t w b
unsent_put before r t w b u x h h2 h3 = grind (arith, nat_tests)

pub unanswered_put : (before r t w b s u x : Bool) → before ≡ with_unsent r t w b → (r ≡ false → b ≡ true → s ≡ u) → x ≡ (before || s) → x ≡ with_unanswered r t w b u
unanswered_put before r t w b s u x h h2 h3 = grind (arith, nat_tests)

-- ---- what another recording changes

changed : (there : ℕ → Bool) (times : List (Option ℕ)) (since : Option Location) (pair : Pair) (acts : List placed.PlacedValue) (n : ℕ) → outcomes_spec.IsChangedAlone there times since pair acts n
unfolding outcomes_spec.outcome_of
changed there times since pair acts n =
    let r = received_spec.is_received pair.writer pair.reader acts n in
    let first : Bool → Bool → Outcome = λ one t. first_of one t (missed_spec.is_wanting since pair.writer pair.reader acts n) (missed_spec.is_excused pair.writer pair.reader acts n) (outcomes_spec.is_brought since pair acts n) (outcomes_spec.is_unanswered times since pair acts n) (is_some (received_spec.first_claiming pair.writer pair.reader n acts)) in
    record {
      elsewhere = λ no. ap (first r) no;
      received = λ yes. ap (λ one. first one (there n)) yes ∙ sym (ap (λ one. first one false) yes);
      arrived = λ yes no. ap (λ one. first one (there n)) no ∙ ap (first false) yes;
    }

-- a number that is not there did not arrive
not_arrived : (r t w e b u c : Bool) → t ≡ false → outcomes_spec.is_outcome Outcome.Arrived (first_of r t w e b u c) ≡ false
not_arrived r t w e b u c h = grind (arith, nat_tests)

none_arrived : (there : ℕ → Bool) (from last : ℕ) (times : List (Option ℕ)) (since : Option Location) (pair : Pair) (acts : List placed.PlacedValue) (outcomes : Outcomes) → ((n : ℕ) → there n ≡ false) → outcomes_spec.AreOutcomes there from last times since pair acts outcomes → outcomes.arrived ≡ 0
unfolding outcomes_spec.outcome_of
none_arrived there from last times since pair acts outcomes none are =
    are.arrived
    ∙ count_none (λ n. outcomes_spec.is_outcome Outcome.Arrived (outcomes_spec.outcome_of there times since pair acts n)) from (last + 1) (λ n low high.
    not_arrived (received_spec.is_received pair.writer pair.reader acts n) (there n) (missed_spec.is_wanting since pair.writer pair.reader acts n) (missed_spec.is_excused pair.writer pair.reader acts n) (outcomes_spec.is_brought since pair acts n) (outcomes_spec.is_unanswered times since pair acts n) (is_some (received_spec.first_claiming pair.writer pair.reader n acts)) (none n))

pub arrived_is_all_that_changes : outcomes_spec.ArrivedIsAllThatChanges
arrived_is_all_that_changes = (changed, none_arrived)

-- received numbers that are not there: those that are received, without those that are there and did not arrive
pub absent_counted : (there has : ℕ → Bool) (from last : ℕ) (times : List (Option ℕ)) (since : Option Location) (pair : Pair) (acts : List placed.PlacedValue) (outcomes : Outcomes) (count : ℕ) → outcomes_spec.AreOutcomes there from last times since pair acts outcomes
    → ((n : ℕ) → has n ≡ there n) → count ≡ counts.count_in has from (last + 1)
    → outcomes.received - (count - outcomes.arrived) ≡ counts.count_in (λ n. received_spec.is_received pair.writer pair.reader acts n && not (there n)) from (last + 1)
unfolding outcomes_spec.outcome_of
absent_counted there has from last times since pair acts outcomes count are same counted =
    let r = received_spec.is_received pair.writer pair.reader acts in
    let w = missed_spec.is_wanting since pair.writer pair.reader acts in
    let e = missed_spec.is_excused pair.writer pair.reader acts in
    let b = outcomes_spec.is_brought since pair acts in
    let u = outcomes_spec.is_unanswered times since pair acts in
    let c : ℕ → Bool = λ n. is_some (received_spec.first_claiming pair.writer pair.reader n acts) in
    let both : ℕ → Bool = λ n. r n && there n in
    let here = count_same has there from (last + 1) (λ n low high. same n) in
    let received = count_same (λ n. outcomes_spec.is_outcome Outcome.Received (outcomes_spec.outcome_of there times since pair acts n)) r from (last + 1) (λ n low high. is_first (r n) (there n) (w n) (e n) (b n) (u n) (c n)) in
    let arrived = count_same (λ n. outcomes_spec.is_outcome Outcome.Arrived (outcomes_spec.outcome_of there times since pair acts n)) (λ n. there n && not (both n)) from (last + 1) (λ n low high. is_arrived (r n) (there n) (w n) (e n) (b n) (u n) (c n)) in
    let of_there = count_rest both there from (last + 1) (λ n is. (and_parts (r n) (there n) is).1) in
    let of_received = count_rest both r from (last + 1) (λ n is. (and_parts (r n) (there n) is).0) in
    let absent = count_same (λ n. r n && not (both n)) (λ n. r n && not (there n)) from (last + 1) (λ n low high. is_absent (r n) (there n)) in
    let one = are.received in
    let other = are.arrived in
    omega (arith, here, received, arrived, of_there, of_received, absent, one, other, counted)
  where
    is_absent : (r t : Bool) → (r && not (r && t)) ≡ (r && not t)
    is_absent true t = refl
    is_absent false t = refl

    is_arrived : (r t w e b u c : Bool) → outcomes_spec.is_outcome Outcome.Arrived (first_of r t w e b u c) ≡ (t && not (r && t))
    is_arrived true true w e b u c = refl
    is_arrived true false w e b u c = refl
    is_arrived false true w e b u c = refl
    is_arrived false false true true b u c = refl
    is_arrived false false true false b u c = refl
    is_arrived false false false e false u c = refl
    is_arrived false false false e true true c = refl
    is_arrived false false false e true false true = refl
    is_arrived false false false e true false false = refl
