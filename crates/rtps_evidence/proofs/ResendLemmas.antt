-- What becomes of the last ask for a number, one act of the writer more.
use Rattle.std.proofs.lemmas.Bool.Decides.{nat_tests}
use Rattle.std.proofs.Common.{◌≡◌, ◌∙◌, ℕ, ◌+◌, ◌==◌, ◌&&◌, ◌||◌, Bool, true, false, arith, cond, nat_le, nat_lt, List, [], ◌∷◌, ◌++◌, Option, Some, None, refl, sym, ap, subst}
use Rattle.std.specs.List.{find}
use Rattle.std.specs.Option.{option_and_then, option_map, option_or}
use Rattle.std.proofs.lemmas.List.Folds.{find-append}
use Rattle.rtps_discovery.specs.declared.matching.Pair.{Pair}
use Rattle.rtps_audit.specs.Placed as placed
use Rattle.rtps_evidence.specs.CountedAnswers as counted_answers
use Rattle.rtps_evidence.specs.LastAsks as last_asks
use Rattle.rtps_evidence.specs.Locations as locations
use Rattle.rtps_evidence.specs.Missed as missed
use Rattle.rtps_evidence.specs.Requests as requests
use Rattle.rtps_evidence.specs.declared.counted_answers.CountedAnswer.{CountedAnswer}
use Rattle.rtps_evidence.specs.declared.last_asks.LastAsk.{LastAsk}

module _ (pair : Pair) (counted : List CountedAnswer) (n : ℕ) (xs : List placed.PlacedValue) (x : placed.PlacedValue) where
  abbrev test : LastAsk → placed.PlacedValue → Bool
  test ask = missed.brings_behind (Some ask.place) pair.writer pair.reader n

  -- where the number is sent again, with the act
  again_more : (ask : LastAsk) → missed.again_behind ask.place pair.writer pair.reader n (xs ++ x ∷ []) ≡ option_map locations.location_of (option_or (find (test ask) xs) (cond (locations.is_behind (Some ask.place) x && missed.brings pair.writer pair.reader n x) (Some x) None))
  again_more ask = ap (option_map locations.location_of) (find-append (test ask) xs (x ∷ []))

  or_none : {X : Type 0} (o : Option X) → option_or o None ≡ o
  or_none None = refl
  or_none (Some y) = refl

  and_no : (b : Bool) → (b && false) ≡ false
  and_no true = refl
  and_no false = refl

  -- the act does not bring it behind the ask
  again_same_as : (ask : LastAsk) → (locations.is_behind (Some ask.place) x && missed.brings pair.writer pair.reader n x) ≡ false → missed.again_behind ask.place pair.writer pair.reader n (xs ++ x ∷ []) ≡ missed.again_behind ask.place pair.writer pair.reader n xs
  again_same_as ask out =
      again_more ask ∙ ap (λ b. option_map locations.location_of (option_or (find (test ask) xs) (cond b (Some x) None))) out ∙ ap (option_map locations.location_of) (or_none (find (test ask) xs))

  pub record IsSame (ask : Option LastAsk) : Type 0 where
    pub left : option_and_then (last_asks.left_by pair (xs ++ x ∷ []) n) ask ≡ option_and_then (last_asks.left_by pair xs n) ask
    pub excused : requests.option_any (last_asks.excuses pair counted (xs ++ x ∷ []) n) ask ≡ requests.option_any (last_asks.excuses pair counted xs n) ask

  same_by : (ask : LastAsk) → missed.again_behind ask.place pair.writer pair.reader n (xs ++ x ∷ []) ≡ missed.again_behind ask.place pair.writer pair.reader n xs → IsSame (Some ask)
  same_by ask same = record {
    left = ap (λ o. last_asks.left_where o ask) same;
    excused = ap (λ o. nat_lt n ask.below && last_asks.lacks_at counted o) same;
  }

  -- an act that does not bring the number
  pub not_brought : (ask : Option LastAsk) → missed.brings pair.writer pair.reader n x ≡ false → IsSame ask
  not_brought None out = record { left = refl; excused = refl }
  not_brought (Some ask) out = same_by ask (again_same_as ask (ap (λ b. locations.is_behind (Some ask.place) x && b) out ∙ and_no (locations.is_behind (Some ask.place) x)))

  -- the ask is met already
  found_stays : (o : Option placed.PlacedValue) (other : Option placed.PlacedValue) (ask : LastAsk) → last_asks.left_where (option_map locations.location_of o) ask ≡ None → option_or o other ≡ o
  found_stays None other ask none = absurd (let no : Some ask ≡ None = none in cc)
  found_stays (Some y) other ask none = refl

  pub met_before : (ask : Option LastAsk) → option_and_then (last_asks.left_by pair xs n) ask ≡ None → IsSame ask
  met_before None none = record { left = refl; excused = refl }
  met_before (Some ask) none =
      same_by ask (again_more ask ∙ ap (option_map locations.location_of) (found_stays (find (test ask) xs) (cond (locations.is_behind (Some ask.place) x && missed.brings pair.writer pair.reader n x) (Some x) None) ask none))

  -- what is left is the ask, and nothing brings its number so far
  pub record IsOpen (ask : Option LastAsk) (left : LastAsk) : Type 0 where
    pub is : ask ≡ Some left
    pub none : find (test left) xs ≡ None

  pub is_open : (ask : Option LastAsk) (left : LastAsk) → option_and_then (last_asks.left_by pair xs n) ask ≡ Some left → IsOpen ask left
  is_open None left is = absurd (let no : None ≡ Some left = is in cc)
  is_open (Some ask) left is = by (find (test ask) xs) refl is
    where
      by : (o : Option placed.PlacedValue) → find (test ask) xs ≡ o → last_asks.left_where (option_map locations.location_of o) ask ≡ Some left → IsOpen (Some ask) left
      by None none is = let same : ask ≡ left = (let e : Some ask ≡ Some left = is in cc) in subst (λ (a : LastAsk). IsOpen (Some ask) a) same (record { is = refl; none = none })
      by (Some y) found is = absurd (let no : None ≡ Some left = is in cc)

  -- the act stands before the ask
  pub not_behind_it : (ask : Option LastAsk) (left : LastAsk) → option_and_then (last_asks.left_by pair xs n) ask ≡ Some left → locations.is_behind (Some left.place) x ≡ false → IsSame ask
  not_behind_it ask left is out =
      let open_it = is_open ask left is in
      subst IsSame (sym open_it.is) (same_by left (again_same_as left (ap (λ b. b && missed.brings pair.writer pair.reader n x) out)))

  -- the act meets it
  pub record IsMet (ask : Option LastAsk) (left : LastAsk) : Type 0 where
    pub gone : option_and_then (last_asks.left_by pair (xs ++ x ∷ []) n) ask ≡ None
    pub before : requests.option_any (last_asks.excuses pair counted xs n) ask ≡ false
    pub excused : requests.option_any (last_asks.excuses pair counted (xs ++ x ∷ []) n) ask ≡ (nat_lt n left.below && counted_answers.lacks_among counted (locations.location_of x))

  pub meets_it : (ask : Option LastAsk) (left : LastAsk) → option_and_then (last_asks.left_by pair xs n) ask ≡ Some left → locations.is_behind (Some left.place) x ≡ true → missed.brings pair.writer pair.reader n x ≡ true → IsMet ask left
  meets_it ask left is at is_brought =
      let open_it = is_open ask left is in
      let again : missed.again_behind left.place pair.writer pair.reader n (xs ++ x ∷ []) ≡ Some (locations.location_of x) =
      again_more left
      ∙ ap (λ o. option_map locations.location_of (option_or o (cond (locations.is_behind (Some left.place) x && missed.brings pair.writer pair.reader n x) (Some x) None))) open_it.none
      ∙ ap (λ b. option_map locations.location_of (cond (b && missed.brings pair.writer pair.reader n x) (Some x) None)) at ∙ ap (λ b. option_map locations.location_of (cond b (Some x) None)) is_brought in
      subst (λ (a : Option LastAsk). IsMet a left) (sym open_it.is) (record {
        gone = ap (λ o. last_asks.left_where o left) again;
        before = ap (λ o. nat_lt n left.below && last_asks.lacks_at counted (option_map locations.location_of o)) open_it.none ∙ and_no (nat_lt n left.below);
        excused = ap (λ o. nat_lt n left.below && last_asks.lacks_at counted o) again;
      })

  -- an act that may bring it finds no ask before it
  pub passed_over : (ask : Option LastAsk) → last_asks.asked_before x (option_and_then (last_asks.left_by pair xs n) ask) ≡ None → IsSame ask
  passed_over ask none = by (option_and_then (last_asks.left_by pair xs n) ask) refl none
    where
      behind : (left : LastAsk) → option_and_then (last_asks.left_by pair xs n) ask ≡ Some left → (b : Bool) → locations.is_behind (Some left.place) x ≡ b → cond b (Some left) None ≡ None → IsSame ask
      behind left is true at none = absurd (let no : Some left ≡ None = none in cc)
      behind left is false at none = not_behind_it ask left is at

      by : (o : Option LastAsk) → option_and_then (last_asks.left_by pair xs n) ask ≡ o → last_asks.asked_before x o ≡ None → IsSame ask
      by None is none = met_before ask is
      by (Some left) is none = behind left is (locations.is_behind (Some left.place) x) refl none

  -- where the number that an act brings is asked for by nothing before it
  pub none_asked : (ask : Option LastAsk) (number : ℕ) (old : ℕ → Option LastAsk) → missed.brings pair.writer pair.reader n x ≡ (number == n) → old n ≡ option_and_then (last_asks.left_by pair xs n) ask → last_asks.asked_before x (old number) ≡ None → IsSame ask
  none_asked ask number old told known none = by (number == n) refl
    where
      by : (b : Bool) → (number == n) ≡ b → IsSame ask
      by true same = (let equal : number ≡ n = grind (arith, nat_tests, same) in passed_over ask (ap (last_asks.asked_before x) (sym known) ∙ ap (λ m. last_asks.asked_before x (old m)) (sym equal) ∙ none))
      by false apart = not_brought ask (told ∙ apart)

  -- ---- an act that meets the ask for a number

  -- what is left for n
  pub left_heard : (ask : Option LastAsk) (left : LastAsk) (number : ℕ) (old : Option LastAsk) → missed.brings pair.writer pair.reader n x ≡ (number == n) → old ≡ option_and_then (last_asks.left_by pair xs n) ask → (number ≡ n → old ≡ Some left) → locations.is_behind (Some left.place) x ≡ true
      → cond (number == n) None old ≡ option_and_then (last_asks.left_by pair (xs ++ x ∷ []) n) ask
  left_heard ask left number old told known found at = by (number == n) refl
    where
      by : (b : Bool) → (number == n) ≡ b → cond b None old ≡ option_and_then (last_asks.left_by pair (xs ++ x ∷ []) n) ask
      by true same = (let equal : number ≡ n = grind (arith, nat_tests, same) in sym (meets_it ask left (sym known ∙ found equal) at (told ∙ same)).gone)
      by false apart = known ∙ sym (not_brought ask (told ∙ apart)).left

  one_wide : (m : ℕ) → (nat_le m n && nat_lt n (m + 1)) ≡ (m == n)
  one_wide m = grind (arith, nat_tests)

  -- and whether n is excused
  pub excused_heard : (ask : Option LastAsk) (left : LastAsk) (number : ℕ) (old : Option LastAsk) (has lacks : Bool) → missed.brings pair.writer pair.reader n x ≡ (number == n) → old ≡ option_and_then (last_asks.left_by pair xs n) ask → (number ≡ n → old ≡ Some left)
      → locations.is_behind (Some left.place) x ≡ true → has ≡ requests.option_any (last_asks.excuses pair counted xs n) ask → lacks ≡ counted_answers.lacks_among counted (locations.location_of x)
      → (has || ((lacks && nat_lt number left.below) && (nat_le number n && nat_lt n (number + 1)))) ≡ requests.option_any (last_asks.excuses pair counted (xs ++ x ∷ []) n) ask
  excused_heard ask left number old has lacks told known found at is around =
      ap (λ b. has || ((lacks && nat_lt number left.below) && b)) (one_wide number) ∙ by (number == n) refl
    where
      or_no : (b : Bool) → (b || false) ≡ b
      or_no true = refl
      or_no false = refl

      turned : (a b : Bool) → (false || ((a && b) && true)) ≡ (b && a)
      turned true true = refl
      turned true false = refl
      turned false true = refl
      turned false false = refl

      by : (b : Bool) → (number == n) ≡ b → (has || ((lacks && nat_lt number left.below) && b)) ≡ requests.option_any (last_asks.excuses pair counted (xs ++ x ∷ []) n) ask
      by true same = (
          let equal : number ≡ n = grind (arith, nat_tests, same) in
          let met = meets_it ask left (sym known ∙ found equal) at (told ∙ same) in
          ap (λ b. b || ((lacks && nat_lt number left.below) && true)) (is ∙ met.before) ∙ turned lacks (nat_lt number left.below)
          ∙ ap (λ b. nat_lt number left.below && b) around ∙ ap (λ m. nat_lt m left.below && counted_answers.lacks_among counted (locations.location_of x)) equal ∙ sym met.excused)
      by false apart = (
          let same = not_brought ask (told ∙ apart) in
          ap (λ b. has || b) (and_no (lacks && nat_lt number left.below)) ∙ or_no has ∙ is ∙ sym same.excused)

-- an ask that stands before an act
pub record IsBefore (x : placed.PlacedValue) (o : Option LastAsk) (ask : LastAsk) : Type 0 where
  pub is : o ≡ Some ask
  pub at : locations.is_behind (Some ask.place) x ≡ true

pub is_before_it : (x : placed.PlacedValue) (o : Option LastAsk) (ask : LastAsk) → last_asks.asked_before x o ≡ Some ask → IsBefore x o ask
is_before_it x None ask found = absurd (let no : None ≡ Some ask = found in cc)
is_before_it x (Some other) ask found = by (locations.is_behind (Some other.place) x) refl found
  where
    by : (b : Bool) → locations.is_behind (Some other.place) x ≡ b → cond b (Some other) None ≡ Some ask → IsBefore x (Some other) ask
    by true at found = (let same : other ≡ ask = (let e : Some other ≡ Some ask = found in cc) in subst (λ (a : LastAsk). IsBefore x (Some other) a) same (record { is = refl; at = at }))
    by false at found = absurd (let no : None ≡ Some ask = found in cc)
