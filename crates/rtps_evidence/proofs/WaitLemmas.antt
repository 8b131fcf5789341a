-- The first answer behind a place, and the longest of some waits, one after another.
use Rattle.std.proofs.lemmas.Grind.{common_steps}
use Rattle.std.proofs.Common.{◌≡◌, ◌∙◌, ℕ, zero, suc, ◌+◌, ◌<◌, ◌≤◌, ◌==◌, Bool, true, false, cond, nat_lt, List, [], ◌∷◌, ◌++◌, add-one, append-nil, filter, get_or, length, map, max, take, Option, Some, None, refl, sym, ap, arith, inl, inr}
use Rattle.std.specs.Prelude.{slice_get}
use Rattle.std.specs.List.{cons_option, find}
use Rattle.std.specs.Option.{option_or}
use Rattle.std.proofs.lemmas.Bool.{and_parts, cases_lt}
use Rattle.std.proofs.lemmas.Bool.Decides.{nat_tests}
use Rattle.std.proofs.lemmas.List.{map-append}
use Rattle.std.proofs.lemmas.List.Elements.{filter_map-append}
use Rattle.std.proofs.lemmas.List.Folds.{find-append}
use Rattle.rtps_discovery.specs.declared.matching.Pair.{Pair}
use Rattle.rtps_audit.specs.Delivery as delivery
use Rattle.rtps_audit.specs.Placed as placed
use Rattle.rtps_audit.specs.declared.answer.Answer.{Answer}
use Rattle.rtps_audit.proofs.Offered.{greatest-append, speaker_is_origin}
use Rattle.rtps_evidence.specs.Waits as waits_spec
use Rattle.rtps_evidence.specs.declared.location.Location.{Location}
use Rattle.rtps_evidence.specs.declared.waits.Wait.{Wait}
use Rattle.rtps_evidence.proofs.QuestionLemmas.{filter_filter}

-- ---- the first element that passes, where those before it do not

none_then : {X : Type 0} (test : X → Bool) (x : X) (rest : Option X) → cond (test x) (Some x) rest ≡ None → (test x ≡ false) × (rest ≡ None)
none_then {X} test x rest none = by (test x) refl none
  where
    by : (b : Bool) → test x ≡ b → cond b (Some x) rest ≡ None → (test x ≡ false) × (rest ≡ None)
    by true is none = absurd (let no : Some x ≡ None = none in cc)
    by false is none = (is, none)

pub none_first : {X : Type 0} (test : X → Bool) (xs : List X) → find test (take zero xs) ≡ None
none_first test xs = grind (arith, nat_tests)

pub none_past : {X : Type 0} (test : X → Bool) (xs : List X) (k : ℕ) (d : X) → k < length xs → find test (take k xs) ≡ None → test (get_or xs k d) ≡ false → find test (take (k + 1) xs) ≡ None
none_past {X} test xs k d lt none is = rw add-one (by xs k lt none is)
  where
    by : (xs : List X) (k : ℕ) → k < length xs → find test (take k xs) ≡ None → test (get_or xs k d) ≡ false → find test (take (suc k) xs) ≡ None
    by [] k lt none is = absurd (omega arith)
    by (x ∷ xs) zero lt none is = ap (λ b. cond b (Some x) (find test (take zero xs))) is ∙ none_first test xs
    by (x ∷ xs) (suc k) lt none is =
        let parts = none_then test x (find test (take k xs)) none in
        ap (λ b. cond b (Some x) (find test (take (suc k) xs))) parts.0 ∙ by xs k (omega arith) parts.1 is

pub found_next : {X : Type 0} (test : X → Bool) (xs : List X) (k : ℕ) (d : X) → k < length xs → find test (take k xs) ≡ None → test (get_or xs k d) ≡ true → find test xs ≡ slice_get xs k
found_next test [] k d lt none is = absurd (omega arith)
found_next test (x ∷ xs) zero d lt none is = ap (λ b. cond b (Some x) (find test xs)) is
found_next test (x ∷ xs) (suc k) d lt none is =
    let parts = none_then test x (find test (take k xs)) none in
    ap (λ b. cond b (Some x) (find test xs)) parts.0 ∙ found_next test xs k d (omega arith) parts.1 is

pub none_left : {X : Type 0} (test : X → Bool) (xs : List X) (k : ℕ) → length xs ≤ k → find test (take k xs) ≡ None → find test xs ≡ slice_get xs k
none_left test [] k le none = refl
none_left test (x ∷ xs) zero le none = absurd (omega arith)
none_left test (x ∷ xs) (suc k) le none =
    let parts = none_then test x (find test (take k xs)) none in
    ap (λ b. cond b (Some x) (find test xs)) parts.0 ∙ none_left test xs k (omega arith) parts.1

-- ---- answers behind a place

pub none_weaker : {X : Type 0} (one other : X → Bool) → ((x : X) → one x ≡ false → other x ≡ false) → (xs : List X) → find one xs ≡ None → find other xs ≡ None
none_weaker one other h [] none = refl
none_weaker one other h (x ∷ xs) none =
    let parts = none_then one x (find one xs) none in
    ap (λ b. cond b (Some x) (find other xs)) (h x parts.0) ∙ none_weaker one other h xs parts.1

pub passed_none : (answers : List Answer) (place : Location) → waits_spec.HasPassed answers 0 place
passed_none answers place = record { within = omega arith; none = none_first (waits_spec.answers_behind place) answers }

-- what stands behind no place does not stand behind a later one
pub not_behind : (one other place : Location) → waits_spec.precedes other one ≡ false → waits_spec.precedes one place ≡ false → waits_spec.precedes other place ≡ false
not_behind one other place late early = grind (arith, nat_tests)

pub passed_on : (answers : List Answer) (passed : ℕ) (one other : Location) → waits_spec.precedes other one ≡ false → waits_spec.HasPassed answers passed one → waits_spec.HasPassed answers passed other
passed_on answers passed one other late has = grind (arith, nat_tests, common_steps, none_weaker, not_behind)

-- ---- the longest wait, with one more

-- none is so long, where all are shorter
none_longer : (n : ℕ) (waits : List Wait) → delivery.greatest (map waits_spec.length_of waits) < n → find (λ wait. wait.nanoseconds == n) waits ≡ None
none_longer n [] lt = refl
none_longer n (wait ∷ waits) lt =
    let differs : (wait.nanoseconds == n) ≡ false = grind (arith, nat_tests) in
    ap (λ b. cond b (Some wait) (find (λ one. one.nanoseconds == n) waits)) differs ∙ none_longer n waits (omega arith)

-- one is as long as the greatest
some_longest : (wait : Wait) (waits : List Wait) (n : ℕ) → n ≡ max wait.nanoseconds (delivery.greatest (map waits_spec.length_of waits)) → (one : Wait) × (find (λ w. w.nanoseconds == n) (wait ∷ waits) ≡ Some one) × (one.nanoseconds ≡ n)
some_longest wait [] n is =
    let same : (wait.nanoseconds == n) ≡ true = grind (arith, nat_tests) in
    (wait, ap (λ b. cond b (Some wait) None) same, omega arith)
some_longest wait (next ∷ waits) n is = elim (cases_lt wait.nanoseconds (delivery.greatest (map waits_spec.length_of (next ∷ waits)))) [
  | inl lt ↦
      let there = some_longest next waits n (omega arith) in
      let differs : (wait.nanoseconds == n) ≡ false = grind (arith, nat_tests) in
      (there.0, ap (λ b. cond b (Some wait) (find (λ w. w.nanoseconds == n) (next ∷ waits))) differs ∙ there.1, there.2)
  | inr ge ↦
      let same : (wait.nanoseconds == n) ≡ true = grind (arith, nat_tests) in
      (wait, ap (λ b. cond b (Some wait) (find (λ w. w.nanoseconds == n) (next ∷ waits))) same, omega arith)
]

longer_then : (waits : List Wait) (one wait : Wait) (n : ℕ) → n ≡ delivery.greatest (map waits_spec.length_of waits) → find (λ w. w.nanoseconds == n) waits ≡ Some one → one.nanoseconds ≡ n
    → find (λ w. w.nanoseconds == max n wait.nanoseconds) (waits ++ wait ∷ []) ≡ waits_spec.longer_of (Some one) (Some wait)
longer_then waits one wait n is found long =
    find-append (λ w. w.nanoseconds == max n wait.nanoseconds) waits (wait ∷ []) ∙ elim (cases_lt n wait.nanoseconds) [
      | inl lt ↦
          let top : max n wait.nanoseconds ≡ wait.nanoseconds = omega arith in
          let same : (wait.nanoseconds == wait.nanoseconds) ≡ true = grind (arith, nat_tests) in
          let less : nat_lt one.nanoseconds wait.nanoseconds ≡ true = grind (arith, nat_tests) in
          ap (λ m. option_or (find (λ w. w.nanoseconds == m) waits) (find (λ w. w.nanoseconds == m) (wait ∷ []))) top
          ∙ ap (λ o. option_or o (find (λ w. w.nanoseconds == wait.nanoseconds) (wait ∷ []))) (none_longer wait.nanoseconds waits (omega arith))
          ∙ ap (λ b. cond b (Some wait) None) same
          ∙ sym (ap (λ b. cond b (Some wait) (Some one)) less)
      | inr ge ↦
          let top : max n wait.nanoseconds ≡ n = omega arith in
          let no_less : nat_lt one.nanoseconds wait.nanoseconds ≡ false = grind (arith, nat_tests) in
          ap (λ m. option_or (find (λ w. w.nanoseconds == m) waits) (find (λ w. w.nanoseconds == m) (wait ∷ []))) top
          ∙ ap (λ o. option_or o (find (λ w. w.nanoseconds == n) (wait ∷ []))) found
          ∙ sym (ap (λ b. cond b (Some wait) (Some one)) no_less)
    ]

longest_push : (waits : List Wait) (wait : Wait) → waits_spec.longest (waits ++ wait ∷ []) ≡ waits_spec.longer_of (waits_spec.longest waits) (Some wait)
longest_push [] wait = let same : (wait.nanoseconds == max wait.nanoseconds 0) ≡ true = grind (arith, nat_tests) in ap (λ b. cond b (Some wait) None) same
longest_push (one ∷ waits) wait =
    let there = some_longest one waits (delivery.greatest (map waits_spec.length_of (one ∷ waits))) refl in
    let top : delivery.greatest (map waits_spec.length_of ((one ∷ waits) ++ wait ∷ [])) ≡ max (delivery.greatest (map waits_spec.length_of (one ∷ waits))) (max wait.nanoseconds 0) =
    ap delivery.greatest (map-append waits_spec.length_of (one ∷ waits) (wait ∷ [])) ∙ greatest-append (map waits_spec.length_of (one ∷ waits)) (wait.nanoseconds ∷ []) in
    let greater : delivery.greatest (map waits_spec.length_of ((one ∷ waits) ++ wait ∷ [])) ≡ max (delivery.greatest (map waits_spec.length_of (one ∷ waits))) wait.nanoseconds = omega arith in
    ap (λ n. find (λ w. w.nanoseconds == n) ((one ∷ waits) ++ wait ∷ [])) greater
    ∙ longer_then (one ∷ waits) there.0 wait (delivery.greatest (map waits_spec.length_of (one ∷ waits))) refl there.1 there.2
    ∙ sym (ap (λ o. waits_spec.longer_of o (Some wait)) there.1)

pub longest_more : (waits : List Wait) (wait : Option Wait) → waits_spec.longest (waits ++ cons_option wait []) ≡ waits_spec.longer_of (waits_spec.longest waits) wait
longest_more waits wait = grind (arith, nat_tests, common_steps, append-nil, longest_push)

pub waits_more : (times : List (Option ℕ)) (end : Option ℕ) (answers : List Answer) (questions : List placed.PlacedValue) (question : placed.PlacedValue)
    → waits_spec.longest (waits_spec.waits_of times end answers (questions ++ question ∷ [])) ≡ waits_spec.longer_of (waits_spec.longest (waits_spec.waits_of times end answers questions)) (waits_spec.wait_from times end answers question)
waits_more times end answers questions question = grind (arith, nat_tests, common_steps, filter_map-append, longest_more)

-- ---- the questions, one after another

-- those of the writer's acts are those of all acts
pub questions_same : (since : Option Location) (pair : Pair) (acts : List placed.PlacedValue) → waits_spec.questions_of since pair (filter (placed.is_from pair.writer) acts) ≡ waits_spec.questions_of since pair acts
questions_same since pair acts = grind (arith, nat_tests, common_steps, filter_filter, speaker_is_origin, and_parts)
