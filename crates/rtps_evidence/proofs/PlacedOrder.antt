-- The acts of a recording stand by datagram.
use Rattle.std.proofs.lemmas.Bool.Decides.{nat_tests}
use Rattle.std.proofs.Common.{◌≡◌, ℕ, ◌+◌, ◌≤◌, Bool, true, false, cond, filter, List, [], ◌∷◌, ◌++◌, Some, None, sym, refl, ap, subst, ◌∙◌, ◌||◌, arith, inl, inr}
use Rattle.std.specs.Prelude.{Contains}
use Rattle.std.specs.List.{find, list_any}
use Rattle.std.proofs.lemmas.List.Elements.{Contains-append_cases, Contains-append_left, Contains-append_right, Contains-push}
use Rattle.rtps_receiver.specs.Values as values
use Rattle.rtps_audit.specs.Placed as placed

-- each stands in no earlier datagram than the one before it, and the first in none below `low`
abbrev pub AreOrdered : ℕ → List placed.PlacedValue → Type 0
AreOrdered low [] = Unit {0}
AreOrdered low (x ∷ xs) = (low ≤ x.datagram) × AreOrdered x.datagram xs

later : (low high : ℕ) (xs : List placed.PlacedValue) → low ≤ high → AreOrdered high xs → AreOrdered low xs
later low high [] le ordered = tt
later low high (x ∷ xs) le (first, rest) = (omega arith, rest)

at_once : (datagram : ℕ) (acts : List values.ActValue) (xs : List placed.PlacedValue) → AreOrdered datagram xs → AreOrdered datagram (placed.placed_at datagram acts ++ xs)
at_once datagram [] xs ordered = ordered
at_once datagram (act ∷ acts) xs ordered = (omega arith, at_once datagram acts xs ordered)

pub placed_ordered : (before : ℕ) (recording : List (List values.ActValue)) → AreOrdered (before + 1) (placed.placed_behind before recording)
placed_ordered before [] = tt
placed_ordered before (datagram ∷ datagrams) =
    at_once (before + 1) datagram (placed.placed_behind (before + 1) datagrams)
    (later (before + 1) (before + 1 + 1) (placed.placed_behind (before + 1) datagrams) (omega arith) (placed_ordered (before + 1) datagrams))

-- so do those that are kept of them
pub kept_ordered : (keeps : placed.PlacedValue → Bool) (low : ℕ) (xs : List placed.PlacedValue) → AreOrdered low xs → AreOrdered low (filter keeps xs)
kept_ordered keeps low [] ordered = tt
kept_ordered keeps low (x ∷ xs) (first, rest) = by (kept_ordered keeps x.datagram xs rest) (keeps x)
  where
    by : AreOrdered x.datagram (filter keeps xs) → (b : Bool) → AreOrdered low (cond b (x ∷ filter keeps xs) (filter keeps xs))
    by kept true = (first, kept)
    by kept false = later low x.datagram (filter keeps xs) first kept

only_one : {X : Type 0} (b x : X) → Contains (b ∷ []) x → b ≡ x
only_one b x h = grind (arith, nat_tests)

-- each stands in no datagram below it
pub none_lower : (low : ℕ) (xs : List placed.PlacedValue) (x : placed.PlacedValue) → AreOrdered low xs → Contains xs x → low ≤ x.datagram
none_lower low [] x ordered (k, lt, e) = absurd (omega arith)
none_lower low (y ∷ ys) x (first, rest) among =
    elim (Contains-append_cases (y ∷ []) ys x among) [
      | inl here ↦ let same : y.datagram ≡ x.datagram = ap (λ (at : placed.PlacedValue). at.datagram) (only_one y x here) in omega arith
      | inr there ↦ let past = none_lower y.datagram ys x rest there in omega arith
    ]

-- the first that passes stands in no later datagram than any that does
pub first_is_first : (test : placed.PlacedValue → Bool) (low : ℕ) (xs : List placed.PlacedValue) (x c : placed.PlacedValue) → AreOrdered low xs → find test xs ≡ Some c → Contains xs x → test x ≡ true → c.datagram ≤ x.datagram
first_is_first test low [] x c ordered found (k, lt, e) is = absurd (omega arith)
first_is_first test low (y ∷ ys) x c (first, rest) found among is = by (λ found there. first_is_first test y.datagram ys x c rest found there is) (test y) refl found
  where
    by : (find test ys ≡ Some c → Contains ys x → c.datagram ≤ x.datagram) → (b : Bool) → test y ≡ b → cond b (Some y) (find test ys) ≡ Some c → c.datagram ≤ x.datagram
    by onward true passes found =
        let same : y ≡ c = (let e : Some y ≡ Some c = found in cc) in
        let at : y.datagram ≡ c.datagram = ap (λ (at : placed.PlacedValue). at.datagram) same in
        let past = none_lower y.datagram (y ∷ ys) x (omega arith, rest) among in
        omega arith
    by onward false passes found =
        elim (Contains-append_cases (y ∷ []) ys x among) [
          | inl here ↦ absurd (let e : test y ≡ test x = ap test (only_one y x here) in let no : false ≡ true = sym passes ∙ e ∙ is in cc)
          | inr there ↦ onward found there
        ]

-- ---- elements that pass

pub found_is_there : {X : Type 0} (test : X → Bool) (xs : List X) (c : X) → find test xs ≡ Some c → Contains xs c × (test c ≡ true)
found_is_there test [] c found = absurd (let no : None ≡ Some c = found in cc)
found_is_there {X} test (y ∷ ys) c found = by (λ more. found_is_there test ys c more) (test y) refl found
  where
    by : (find test ys ≡ Some c → Contains ys c × (test c ≡ true)) → (b : Bool) → test y ≡ b → cond b (Some y) (find test ys) ≡ Some c → Contains (y ∷ ys) c × (test c ≡ true)
    by onward true passes found =
        let same : y ≡ c = (let e : Some y ≡ Some c = found in cc) in
        (subst (λ x. Contains (y ∷ ys) x) same (Contains-append_left (y ∷ []) ys y (Contains-push [] y)), sym (ap test same) ∙ passes)
    by onward false passes found =
        let there = onward found in
        (Contains-append_right (y ∷ []) ys c there.0, there.1)

pub none_found : {X : Type 0} (test : X → Bool) (xs : List X) (x : X) → find test xs ≡ None → Contains xs x → test x ≡ true → ⊥
none_found test [] x none (k, lt, e) is = absurd (omega arith)
none_found {X} test (y ∷ ys) x none among is = by (λ more there. none_found test ys x more there is) (test y) refl none
  where
    by : (find test ys ≡ None → Contains ys x → ⊥) → (b : Bool) → test y ≡ b → cond b (Some y) (find test ys) ≡ None → ⊥
    by onward true passes none = cc
    by onward false passes none =
        elim (Contains-append_cases (y ∷ []) ys x among) [
          | inl here ↦ let e : test y ≡ test x = ap test (only_one y x here) in let no : false ≡ true = sym passes ∙ e ∙ is in cc
          | inr there ↦ onward none there
        ]

pub some_passes : {X : Type 0} (test : X → Bool) (xs : List X) → list_any test xs ≡ true → (x : X) × Contains xs x × (test x ≡ true)
some_passes test [] is = absurd (let no : false ≡ true = is in cc)
some_passes {X} test (y ∷ ys) is = by (λ more. some_passes test ys more) (test y) refl is
  where
    by : (list_any test ys ≡ true → (x : X) × Contains ys x × (test x ≡ true)) → (b : Bool) → test y ≡ b → (b || list_any test ys) ≡ true → (x : X) × Contains (y ∷ ys) x × (test x ≡ true)
    by onward true passes is = (y, Contains-append_left (y ∷ []) ys y (Contains-push [] y), passes)
    by onward false passes is =
        let there = onward is in
        (there.0, Contains-append_right (y ∷ []) ys there.0 there.1, there.2)

pub none_passes : {X : Type 0} (test : X → Bool) (xs : List X) (x : X) → list_any test xs ≡ false → Contains xs x → test x ≡ true → ⊥
none_passes test [] x none (k, lt, e) is = absurd (omega arith)
none_passes {X} test (y ∷ ys) x none among is = by (λ more there. none_passes test ys x more there is) (test y) refl none
  where
    by : (list_any test ys ≡ false → Contains ys x → ⊥) → (b : Bool) → test y ≡ b → (b || list_any test ys) ≡ false → ⊥
    by onward true passes none = let no : true ≡ false = none in cc
    by onward false passes none =
        elim (Contains-append_cases (y ∷ []) ys x among) [
          | inl here ↦ let e : test y ≡ test x = ap test (only_one y x here) in let no : false ≡ true = sym passes ∙ e ∙ is in cc
          | inr there ↦ onward none there
        ]
