-- The asks of pairs: the answers of each, put in the order of their datagrams.
use Rattle.std.proofs.Common.{◌≡◌, ℕ, ◌+◌, ◌<◌, ◌≤◌, Bool, true, false, cond, List, [], ◌∷◌, ◌++◌, append-nil, get_or, length, map, Some, None, inl, inr, refl, sym, ap, ◌∙◌, subst, arith}
use Rattle.std.specs.Prelude.{Contains, ◌==◌, if◌then◌else◌}
use Rattle.std.specs.List.{All, cons_option, filter_map}
use Rattle.std.specs.List.Sorted.{IsNonDecreasingBy, IsPermutation}
use Rattle.std.proofs.lemmas.Bool.{cases_lt}
use Rattle.std.proofs.lemmas.Bool.Decides.{nat_tests}
use Rattle.std.proofs.lemmas.List.{get_or-map, length-map}
use Rattle.std.proofs.lemmas.List.Elements.{All-append, All-map, All-nil, filter_map-append}
use Rattle.std.proofs.lemmas.List.Sorted.{All-permutation, Contains-permutation, IsPermutation-sym}
use Rattle.rtps_receiver.specs.Values as values
use Rattle.rtps_discovery.specs.declared.matching.Pair.{Pair}
use Rattle.rtps_audit.specs.Account as account
use Rattle.rtps_audit.specs.Placed as placed
use Rattle.rtps_audit.specs.declared.answer.Answer.{Answer}
use Rattle.rtps_audit.specs.declared.ask.Ask.{Ask}
use Rattle.rtps_audit.proofs.PlacedActs.{made_from, makes}

abbrev pub ask_at : ℕ → Answer → Ask
ask_at place answer = record { place = place; answer = answer }

-- the answers that are pushed for a place are of that place alone
pub pushed : (k place : ℕ) (answers : List Answer) (b : Bool) → (place == k) ≡ b → filter_map (account.answer_if_at k) (map (ask_at place) answers) ≡ cond b answers []
pushed k place [] true e = refl
pushed k place [] false e = refl
pushed k place (answer ∷ answers) true e = ap (λ t. cons_option (if t then Some answer else None) (filter_map (account.answer_if_at k) (map (ask_at place) answers))) e ∙ ap (λ l. answer ∷ l) (pushed k place answers true e)
pushed k place (answer ∷ answers) false e = ap (λ t. cons_option (if t then Some answer else None) (filter_map (account.answer_if_at k) (map (ask_at place) answers))) e ∙ pushed k place answers false e

pub same_place : (k : ℕ) → (k == k) ≡ true
same_place k = grind (arith, nat_tests)

pub other_place : (k place : ℕ) → k < place → (place == k) ≡ false
other_place k place lt = grind (arith, nat_tests)

pub later_place : (k place : ℕ) → place < k → (place == k) ≡ false
later_place k place lt = grind (arith, nat_tests)

-- the asks of the first pairs
pub record AreFirstAsks (recording : List (List values.ActValue)) (pairs : List Pair) (asks : List Ask) (count : ℕ) : Type 0 where
  pub counted : All (λ ask. 1 ≤ ask.answer.datagram) asks
  pub done : (k : ℕ) (d : Pair) → k < count → account.answers_at k asks ≡ placed.answers_among (get_or pairs k d) (placed.placed_in recording)
  pub none : (k : ℕ) → count ≤ k → account.answers_at k asks ≡ []

pub no_asks : (recording : List (List values.ActValue)) (pairs : List Pair) (asks : List Ask) → asks ≡ [] → AreFirstAsks recording pairs asks 0
no_asks recording pairs asks empty =
    subst (λ l. AreFirstAsks recording pairs l 0) (sym empty) (record { counted = All-nil _; done = λ k d lt. absurd (omega arith); none = λ k le. refl })

pub asks_more : (recording : List (List values.ActValue)) (pairs : List Pair) (old new : List Ask) (place : ℕ) (answers : List Answer) → new ≡ old ++ map (ask_at place) answers
    → ((d : Pair) → answers ≡ placed.answers_among (get_or pairs place d) (placed.placed_in recording)) → All (λ (answer : Answer). 1 ≤ answer.datagram) answers → AreFirstAsks recording pairs old place → AreFirstAsks recording pairs new (place + 1)
asks_more recording pairs old new place answers is are counted known = record {
  counted = subst (All (λ (ask : Ask). 1 ≤ ask.answer.datagram)) (sym is) (All-append (λ (ask : Ask). 1 ≤ ask.answer.datagram) old _ known.counted (All-map (λ (ask : Ask). 1 ≤ ask.answer.datagram) (ask_at place) answers counted));
  done = λ k d lt. elim (cases_lt k place) [
    | inl before ↦ at k ∙ ap (λ l. account.answers_at k old ++ l) (pushed k place answers false (other_place k place before)) ∙ append-nil _ ∙ known.done k d before
    | inr ge ↦
        let here : place ≡ k = omega arith in
        subst (λ m. account.answers_at m new ≡ placed.answers_among (get_or pairs m d) (placed.placed_in recording)) here
        (at place ∙ ap (λ l. l ++ filter_map (account.answer_if_at place) (map (ask_at place) answers)) (known.none place (omega arith)) ∙ pushed place place answers true (same_place place) ∙ are d)
  ];
  none = λ k le. at k ∙ ap (λ l. l ++ filter_map (account.answer_if_at k) (map (ask_at place) answers)) (known.none k (omega arith)) ∙ pushed k place answers false (later_place k place (omega arith));
}
  where
    at : (k : ℕ) → account.answers_at k new ≡ account.answers_at k old ++ filter_map (account.answer_if_at k) (map (ask_at place) answers)
    at k = ap (account.answers_at k) is ∙ filter_map-append (account.answer_if_at k) old _

asks_into : (xs ys : List Ask) (k : ℕ) → IsPermutation xs ys → (answer : Answer) → Contains (account.answers_at k xs) answer → Contains (account.answers_at k ys) answer
asks_into xs ys k moved answer among = let from = made_from (account.answer_if_at k) xs answer among in makes (account.answer_if_at k) ys from.0 answer (Contains-permutation xs ys from.0 moved from.1) from.2

pub asks_sorted : (recording : List (List values.ActValue)) (pairs : List Pair) (xs ys : List Ask) → IsPermutation xs ys → AreFirstAsks recording pairs xs (length pairs) → account.AreAsksOf recording pairs ys
asks_sorted recording pairs xs ys moved known = record {
  counted = All-permutation (λ (ask : Ask). 1 ≤ ask.answer.datagram) xs ys moved known.counted;
  same = λ k d lt answer. (
    λ among. subst (λ l. Contains l answer) (known.done k d lt) (asks_into ys xs k (IsPermutation-sym xs ys moved) answer among),
    λ among. asks_into xs ys k moved answer (subst (λ l. Contains l answer) (sym (known.done k d lt)) among),
  );
}

-- the asks of all pairs
pub asks_done : (recording : List (List values.ActValue)) (pairs : List Pair) (asks : List Ask) → AreFirstAsks recording pairs asks (length pairs) → account.AreAsksOf recording pairs asks
asks_done recording pairs asks known = record {
  counted = known.counted;
  same = λ k d lt answer. (subst (λ l. Contains l answer) (known.done k d lt), subst (λ l. Contains l answer) (sym (known.done k d lt)));
}

-- those of one pair are its answers
pub asks_of_one : (recording : List (List values.ActValue)) (pair : Pair) (asks : List Ask) (answers : List Answer) → asks ≡ map (ask_at 0) answers → answers ≡ placed.answers_among pair (placed.placed_in recording) → All (λ (answer : Answer). 1 ≤ answer.datagram) answers
    → account.AreAsksOf recording (pair ∷ []) asks
asks_of_one recording pair asks answers is are counted = asks_done recording (pair ∷ []) asks (asks_more recording (pair ∷ []) [] asks 0 answers is (λ d. are) counted (no_asks recording (pair ∷ []) [] refl))

-- and in order where those are
pub asks_in_order : (asks : List Ask) (answers : List Answer) → asks ≡ map (ask_at 0) answers → IsNonDecreasingBy (λ (answer : Answer). answer.datagram) answers → IsNonDecreasingBy (λ (ask : Ask). ask.answer.datagram) asks
asks_in_order asks answers is rising = subst (IsNonDecreasingBy (λ (ask : Ask). ask.answer.datagram)) (sym is) (λ i j d le lt.
    let long = length-map answers (ask_at 0) in
    let within : j < length answers = omega (arith, long) in
    let one = ap (λ (ask : Ask). ask.answer.datagram) (get_or-map (ask_at 0) answers i d.answer d (omega arith)) in
    let two = ap (λ (ask : Ask). ask.answer.datagram) (get_or-map (ask_at 0) answers j d.answer d within) in
    let order = rising i j d.answer le within in
    omega (arith, one, two))

-- and of that pair
pub asks_at_first : (asks : List Ask) (answers : List Answer) → asks ≡ map (ask_at 0) answers → All (λ (ask : Ask). ask.place < 1) asks
asks_at_first asks answers is = subst (All (λ (ask : Ask). ask.place < 1)) (sym is) (All-map (λ (ask : Ask). ask.place < 1) (ask_at 0) answers (λ k d lt. omega arith))
