-- The first of some numbers, one after another.
use Rattle.std.proofs.lemmas.Grind.{common_steps}
use Rattle.std.proofs.lemmas.Bool.Decides.{nat_tests}
use Rattle.std.proofs.Common.{◌≡◌, ◌∙◌, ℕ, zero, suc, ◌+◌, ◌-◌, ◌<◌, ◌≤◌, Bool, true, false, cond, List, [], ◌∷◌, ◌++◌, filter, length, replicate, set, take, refl, sym, ap, arith, inl, inr}
use Rattle.std.specs.List.{range_with_len}
use Rattle.std.proofs.lemmas.Bool.{cases_lt}
use Rattle.std.proofs.lemmas.List.{append-nil, append_assoc, length-append, set_at, take-append-le, take_all, take_at}
use Rattle.rtps_evidence.specs.FirstNumbers as first_numbers
use Rattle.rtps_evidence.specs.declared.first_numbers.FirstNumbers.{FirstNumbers}

-- ---- in ten places

-- a number in the place behind the others
place_more : (numbers : List ℕ) (number room count : ℕ) → count ≡ length numbers
    → set (numbers ++ replicate (suc room) 0) count number ≡ (numbers ++ number ∷ []) ++ replicate room 0
place_more numbers number room count many = grind (arith, nat_tests, common_steps, set_at, replicate, append_assoc)

-- one number more is kept
pub kept_more : (numbers : List ℕ) (number : ℕ) (old : FirstNumbers) → old.count < 10 → old ≡ first_numbers.kept numbers
    → record { places = set old.places old.count number; count = old.count + 1 } ≡ first_numbers.kept (numbers ++ number ∷ [])
kept_more numbers number old few is =
    let made : List ℕ → ℕ → FirstNumbers = λ p c. record { places = p; count = c } in
    let new : List ℕ = numbers ++ number ∷ [] in
    let many : old.count ≡ length numbers = ap (λ (f : FirstNumbers). f.count) is in
    let longer : length new ≡ length numbers + 1 = length-append numbers (number ∷ []) in
    let room : 10 - length numbers ≡ suc (10 - length new) = omega arith in
    let count : old.count + 1 ≡ length new = omega arith in
    let before : old.places ≡ numbers ++ replicate (suc (10 - length new)) 0 =
    ap (λ (f : FirstNumbers). f.places) is ∙ ap (λ n. numbers ++ replicate n 0) room in
    let places : set old.places old.count number ≡ new ++ replicate (10 - length new) 0 =
    ap (λ p. set p old.count number) before ∙ place_more numbers number (10 - length new) old.count many in
    ap (λ p. made p (old.count + 1)) places ∙ ap (made (new ++ replicate (10 - length new) 0)) count

-- the numbers that are kept are there
pub kept_numbers_are_there : first_numbers.KeptNumbersAreThere
kept_numbers_are_there = λ numbers. take_at numbers (replicate (10 - length numbers) 0) (length numbers) refl

-- ---- numbers one after another

those : (ℕ → Bool) → ℕ → ℕ → List ℕ
those has lo n = filter has (range_with_len lo n)

-- numbers that have it not are passed by
none_among : (has : ℕ → Bool) (lo n m : ℕ) → ((k : ℕ) → lo ≤ k → k < lo + n → has k ≡ false)
    → those has lo (n + m) ≡ those has (lo + n) m
unfolding those
none_among has lo zero m none =
    let at : lo + 0 ≡ lo = omega arith in
    let to : 0 + m ≡ m = omega arith in
    ap (those has lo) to ∙ ap (λ k. those has k m) (sym at)
none_among has lo (suc n) m none =
    let to : suc n + m ≡ suc (n + m) = omega arith in
    let at : lo + 1 + n ≡ lo + suc n = omega arith in
    ap (those has lo) to
    ∙ ap (λ b. cond b (lo ∷ those has (lo + 1) (n + m)) (those has (lo + 1) (n + m))) (none lo (omega arith) (omega arith))
    ∙ none_among has (lo + 1) n m (λ k a b. none k (omega arith) (omega arith))
    ∙ ap (λ k. those has k m) at

passed : (has : ℕ → Bool) (lo at end : ℕ) → lo ≤ at → at ≤ end → ((k : ℕ) → lo ≤ k → k < at → has k ≡ false)
    → filter has (range_with_len lo (end - lo)) ≡ filter has (range_with_len at (end - at))
unfolding those
passed has lo at end onward within none =
    let sum : end - lo ≡ (at - lo) + (end - at) = omega arith in
    let there : lo + (at - lo) ≡ at = omega arith in
    ap (those has lo) sum
    ∙ none_among has lo (at - lo) (end - at) (λ k a b. none k a (omega arith))
    ∙ ap (λ k. those has k (end - at)) there

-- one that has it is the first
one_found : (has : ℕ → Bool) (at end : ℕ) → at < end → has at ≡ true
    → filter has (range_with_len at (end - at)) ≡ at ∷ filter has (range_with_len (at + 1) (end - (at + 1)))
unfolding those
one_found has at end low is =
    let more : end - at ≡ suc (end - (at + 1)) = omega arith in
    ap (those has at) more
    ∙ ap (λ b. cond b (at ∷ those has (at + 1) (end - (at + 1))) (those has (at + 1) (end - (at + 1)))) is

-- these numbers are found, ten at most, and the others that have it stand from `at` on
pub record AreFound (has : ℕ → Bool) (from end at : ℕ) (found : List ℕ) : Type 0 where
  pub within : at ≤ end
  pub inside : at < end → has at ≡ true
  pub few : length found ≤ 10
  pub all : filter has (range_with_len from (end - from)) ≡ found ++ filter has (range_with_len at (end - at))

pub none_found : (has : ℕ → Bool) (from end at : ℕ) → from ≤ at → at ≤ end → ((n : ℕ) → from ≤ n → n < at → has n ≡ false)
    → (at < end → has at ≡ true) → AreFound has from end at []
none_found has from end at onward within none inside = record {
  within = within;
  inside = inside;
  few = omega arith;
  all = passed has from at end onward within none;
}

pub next_found : (has : ℕ → Bool) (from end at next : ℕ) (found new : List ℕ)
    → AreFound has from end at found → at < end → length found < 10
    → at + 1 ≤ next → next ≤ end → ((n : ℕ) → at + 1 ≤ n → n < next → has n ≡ false)
    → (next < end → has next ≡ true) → new ≡ found ++ at ∷ [] → AreFound has from end next new
next_found has from end at next found new are low room onward within none inside is =
    let longer : length new ≡ length found + 1 = ap length is ∙ length-append found (at ∷ []) in
    let others = filter has (range_with_len next (end - next)) in
    record {
      within = within;
      inside = inside;
      few = omega arith;
      all = are.all
          ∙ ap (λ l. found ++ l) (one_found has at end low (are.inside low) ∙ ap (λ l. at ∷ l) (passed has (at + 1) next end onward within none))
          ∙ sym (append_assoc found (at ∷ []) others) ∙ ap (λ l. l ++ others) (sym is);
    }

pub all_found : (has : ℕ → Bool) (from end at : ℕ) (found : List ℕ) → AreFound has from end at found
    → (at < end → length found < 10 → ⊥) → found ≡ first_numbers.first_ten has from end
all_found has from end at found are done = elim (cases_lt at end) [
  | inl low ↦
      let few = are.few in
      let full : 10 ≤ length found = (elim (cases_lt (length found) 10) [
        | inl room ↦ absurd (done low room)
        | inr enough ↦ enough
      ]) in
      sym (ap (take 10) are.all ∙ take-append-le 10 found (filter has (range_with_len at (end - at))) full ∙ take_all 10 found few)
  | inr past ↦
      let none : end - at ≡ 0 = omega arith in
      let whole = are.all ∙ ap (λ n. found ++ filter has (range_with_len at n)) none ∙ append-nil found in
      sym (ap (take 10) whole ∙ take_all 10 found are.few)
]

-- these numbers are found, and kept
pub record AreKept (has : ℕ → Bool) (from end at : ℕ) (first : FirstNumbers) : Type 0 where
  pub found : List ℕ
  pub are : AreFound has from end at found
  pub is : first ≡ first_numbers.kept found

pub none_kept : (has : ℕ → Bool) (from end at : ℕ) (first : FirstNumbers) → first ≡ first_numbers.kept [] → AreFound has from end at []
    → AreKept has from end at first
none_kept has from end at first is are = record { found = []; are = are; is = is }

pub next_kept : (has : ℕ → Bool) (from end at next : ℕ) (first new : FirstNumbers) → AreKept has from end at first
    → at < end → first.count < 10 → at + 1 ≤ next → next ≤ end → ((n : ℕ) → at + 1 ≤ n → n < next → has n ≡ false) → (next < end → has next ≡ true)
    → ((numbers : List ℕ) → first ≡ first_numbers.kept numbers → new ≡ first_numbers.kept (numbers ++ at ∷ [])) → AreKept has from end next new
next_kept has from end at next first new so_far low room onward within none inside more =
    let many : first.count ≡ length so_far.found = ap (λ (f : FirstNumbers). f.count) so_far.is in
    record {
      found = so_far.found ++ at ∷ [];
      are = next_found has from end at next so_far.found (so_far.found ++ at ∷ []) so_far.are low (omega arith) onward within none inside refl;
      is = more so_far.found so_far.is;
    }

pub all_kept : (has : ℕ → Bool) (from end at : ℕ) (first : FirstNumbers) → AreKept has from end at first
    → (at < end → first.count < 10 → ⊥) → first ≡ first_numbers.kept (first_numbers.first_ten has from end)
all_kept has from end at first so_far done =
    let many : first.count ≡ length so_far.found = ap (λ (f : FirstNumbers). f.count) so_far.is in
    so_far.is ∙ ap first_numbers.kept (all_found has from end at so_far.found so_far.are (λ low room. done low (omega arith)))

-- ---- by two properties that agree

same_those : (one other : ℕ → Bool) (lo n : ℕ) → ((k : ℕ) → lo ≤ k → k < lo + n → one k ≡ other k)
    → those one lo n ≡ those other lo n
unfolding those
same_those one other lo zero same = refl
same_those one other lo (suc n) same =
    ap (λ b. cond b (lo ∷ those one (lo + 1) n) (those one (lo + 1) n)) (same lo (omega arith) (omega arith))
    ∙ ap (λ l. cond (other lo) (lo ∷ l) l) (same_those one other (lo + 1) n (λ k a b. same k (omega arith) (omega arith)))

pub first_same : (one other : ℕ → Bool) (lo hi : ℕ) → ((k : ℕ) → lo ≤ k → k < hi → one k ≡ other k)
    → first_numbers.first_ten one lo hi ≡ first_numbers.first_ten other lo hi
unfolding those
first_same one other lo hi same = ap (take 10) (same_those one other lo (hi - lo) (λ k a b. same k a (omega arith)))
