-- The samples that are put together of all that came: at most two, which differ, and both where any two can be put together.
use Rattle.std.proofs.lemmas.Grind.{common_steps}
use Rattle.std.proofs.lemmas.Bool.Decides.{nat_tests}
use Rattle.std.proofs.Common.{◌≡◌, ℕ, zero, suc, pred, ◌<◌, ◌≤◌, List, [], ◌∷◌, ◌++◌, length, set, Option, Some, None, slice_get, refl, sym, ◌∙◌, ap, subst, arith, inl, inr, ◌⊎◌, rules}
use Rattle.std.specs.Prelude.{Contains}
use Rattle.std.specs.List.{concat, find}
use Rattle.std.proofs.lemmas.List.{append_cancel_left, append_cancel_right, length-set}
use Rattle.std.proofs.lemmas.Option.{slice_get_cases}
use Rattle.rtps_audit.proofs.Offered.{contains_cases, contains_head, contains_none}
use Rattle.rtps_fragments.specs.Samples as samples
use Rattle.rtps_fragments.proofs.Variants.{parts_length, parts_get, parts_exist, parts_are, first_is_there, first_of_all, firsts_stay, other_stays, none_other, other_differs}

-- ---- what more comes only adds

grow_by : (a b : Option (List (List ℕ))) (c d : Option (ℕ × List ℕ)) → ((parts : List (List ℕ)) → a ≡ Some parts → b ≡ Some parts) → ((one : ℕ × List ℕ) → c ≡ Some one → d ≡ Some one)
    → (rest : List (List ℕ)) × (samples.samples_by b d ≡ samples.samples_by a c ++ rest)
grow_by None b c d f g = (samples.samples_by b d, refl)
grow_by (Some parts) b None d f g = by d
  where
    by : (d : Option (ℕ × List ℕ)) → (rest : List (List ℕ)) × (samples.samples_by b d ≡ samples.samples_by (Some parts) None ++ rest)
    by None = ([], ap (λ o. samples.samples_by o None) (f parts refl))
    by (Some one) = (concat (set parts (pred one.0) one.1) ∷ [], ap (λ o. samples.samples_by o (Some one)) (f parts refl))
grow_by (Some parts) b (Some one) d f g = ([], ap (λ o. samples.samples_by o d) (f parts refl) ∙ ap (samples.samples_by (Some parts)) (g one refl))

-- of nothing
pub none_yet : (last : ℕ) → samples.samples_of last [] ≡ []
none_yet last = grind (arith, nat_tests)

pub samples_grow : (last : ℕ) (came more : List (ℕ × List ℕ)) → (rest : List (List ℕ)) × (samples.samples_of last (came ++ more) ≡ samples.samples_of last came ++ rest)
samples_grow last came more = grind (arith, nat_tests, common_steps, grow_by, firsts_stay, other_stays)

-- ---- picks

-- for each of these parts, what came for the fragment at its place has these octets
abbrev pub ArePicks : List (ℕ × List ℕ) → List (List ℕ) → Type 0
ArePicks came parts = (i : ℕ) (octets : List ℕ) → slice_get parts i ≡ Some octets → Contains came (suc i, octets)

-- what came is of fragments from 1 to the last one
abbrev pub AreWithin : ℕ → List (ℕ × List ℕ) → Type 0
AreWithin last came = (one : ℕ × List ℕ) → Contains came one → (0 < one.0) × (one.0 ≤ last)

firsts_exist : (came : List (ℕ × List ℕ)) (parts : List (List ℕ)) → 0 < length parts → ArePicks came parts → (firsts : List (List ℕ)) × (samples.firsts_of came (length parts) ≡ Some firsts)
firsts_exist came [] some picks = absurd (omega arith)
firsts_exist came (part ∷ parts) some picks = parts_exist (λ i. samples.first_of came (suc i)) (suc (length parts)) each
  where
    each : (i : ℕ) → i < suc (length parts) → (octets : List ℕ) × (samples.first_of came (suc i) ≡ Some octets)
    each i lt = elim (slice_get_cases (part ∷ parts) i).1 [
      | inl found ↦ first_of_all came (suc i, found.0) (picks i found.0 found.2)
      | inr past ↦ absurd (let le = past.0 in omega arith)
    ]

first_sample : (parts : List (List ℕ)) (other : Option (ℕ × List ℕ)) → Contains (samples.samples_by (Some parts) other) (concat parts)
first_sample parts other = grind (arith, nat_tests, common_steps, contains_head, set, pred)

-- where nothing came otherwise, what is picked is what came first
picks_are_firsts : (came : List (ℕ × List ℕ)) (parts : List (List ℕ)) → 0 < length parts → ArePicks came parts → find (samples.is_other came) came ≡ None → samples.firsts_of came (length parts) ≡ Some parts
picks_are_firsts came [] some picks none = absurd (omega arith)
picks_are_firsts came (part ∷ parts) some picks none = parts_are (λ i. samples.first_of came (suc i)) (part ∷ parts) (λ i octets at. none_other came none (suc i) octets (picks i octets at))

-- other octets in place of one part make other octets in all
set_differs : (parts : List (List ℕ)) (j : ℕ) (first octets : List ℕ) → slice_get parts j ≡ Some first → (first ≡ octets → ⊥) → concat parts ≡ concat (set parts j octets) → ⊥
set_differs [] j first octets at differ same = cc
set_differs (part ∷ parts) zero first octets at differ same =
    let is : part ≡ first = (let h = at in cc) in
    differ (sym is ∙ append_cancel_right part octets (concat parts) same)
set_differs (part ∷ parts) (suc j) first octets at differ same = set_differs parts j first octets at differ (append_cancel_left part (concat parts) (concat (set parts j octets)) same)

pub firsts_get : (came : List (ℕ × List ℕ)) (last : ℕ) (parts : List (List ℕ)) → samples.firsts_of came last ≡ Some parts
    → (length parts ≡ last) × (0 < last) × ((i : ℕ) (octets : List ℕ) → slice_get parts i ≡ Some octets → samples.first_of came (suc i) ≡ Some octets)
firsts_get came last parts h = grind (arith, nat_tests, common_steps, parts_length, parts_get)

-- ---- both are there, and differ

second_sample : (parts : List (List ℕ)) (one : ℕ × List ℕ) → Contains (samples.samples_by (Some parts) (Some one)) (concat (set parts (pred one.0) one.1))
second_sample parts one = grind (arith, nat_tests)

second_differs : (came : List (ℕ × List ℕ)) (last : ℕ) (parts : List (List ℕ)) (one : ℕ × List ℕ) → samples.firsts_of came last ≡ Some parts → find (samples.is_other came) came ≡ Some one → AreWithin last came
    → concat parts ≡ concat (set parts (pred one.0) one.1) → ⊥
second_differs came last parts (zero, octets) e is within same = let bounds = within (zero, octets) (other_differs came (zero, octets) is).0 in absurd (let lt = bounds.0 in omega arith)
second_differs came last parts (suc j, octets) e is within same = elim (slice_get_cases parts j).1 [
  | inl found ↦ set_differs parts j found.0 octets found.2 (λ equal. differs.1 found.0 (gets.2 j found.0 found.2) equal) same
  | inr past ↦ let bounds = within (suc j, octets) differs.0 in let le = bounds.1 in let length_is = gets.0 in let beyond = past.0 in omega arith
]
  where
    gets : (length parts ≡ last) × (0 < last) × ((i : ℕ) (octets : List ℕ) → slice_get parts i ≡ Some octets → samples.first_of came (suc i) ≡ Some octets)
    gets = firsts_get came last parts e

    differs : Contains came (suc j, octets) × ((first : List ℕ) → samples.first_of came (suc j) ≡ Some first → first ≡ octets → ⊥)
    differs = other_differs came (suc j, octets) is

-- two samples are told, which differ
abbrev pub HasTwo : ℕ → List (ℕ × List ℕ) → Type 0
HasTwo last came = (x : List ℕ) × (y : List ℕ) × Contains (samples.samples_of last came) x × Contains (samples.samples_of last came) y × (x ≡ y → ⊥)

-- whatever is picked is told, or two are told that differ
pub two : (came : List (ℕ × List ℕ)) (parts : List (List ℕ)) → 0 < length parts → ArePicks came parts → AreWithin (length parts) came
    → Contains (samples.samples_of (length parts) came) (concat parts) ⊎ HasTwo (length parts) came
two came parts some picks within = by (find (samples.is_other came) came) refl
  where
    whole : (firsts : List (List ℕ)) × (samples.firsts_of came (length parts) ≡ Some firsts)
    whole = firsts_exist came parts some picks

    by : (other : Option (ℕ × List ℕ)) → find (samples.is_other came) came ≡ other → Contains (samples.samples_of (length parts) came) (concat parts) ⊎ HasTwo (length parts) came
    by None is =
        let firsts = picks_are_firsts came parts some picks is in
        inl (subst (λ o. Contains (samples.samples_by o (find (samples.is_other came) came)) (concat parts)) (sym firsts) (first_sample parts (find (samples.is_other came) came)))
    by (Some one) is =
        let first = whole.0 in
        let second = set first (pred one.0) one.1 in
        let samples : samples.samples_of (length parts) came ≡ samples.samples_by (Some first) (Some one) = ap (λ o. samples.samples_by o (find (samples.is_other came) came)) whole.1 ∙ ap (samples.samples_by (Some first)) is in
        inr (
          concat first,
          concat second,
          subst (λ xs. Contains xs (concat first)) (sym samples) (first_sample first (Some one)),
          subst (λ xs. Contains xs (concat second)) (sym samples) (second_sample first one),
          second_differs came (length parts) first one whole.1 is within,
        )

-- where anything is picked, a sample is told
pub some_sample : (came : List (ℕ × List ℕ)) (parts : List (List ℕ)) → 0 < length parts → ArePicks came parts → (x : List ℕ) × Contains (samples.samples_of (length parts) came) x
some_sample came parts some picks =
    let whole = firsts_exist came parts some picks in
    (concat whole.0, subst (λ o. Contains (samples.samples_by o (find (samples.is_other came) came)) (concat whole.0)) (sym whole.1) (first_sample whole.0 (find (samples.is_other came) came)))

-- ---- what is told can be picked

set_get : (parts : List (List ℕ)) (j i : ℕ) (octets part : List ℕ) → slice_get (set parts j octets) i ≡ Some part → ((i ≡ j) × (octets ≡ part)) ⊎ (slice_get parts i ≡ Some part)
set_get [] j i octets part at = inr at
set_get (p ∷ parts) zero zero octets part at = inl (refl, (let h = at in cc))
set_get (p ∷ parts) zero (suc i) octets part at = inr at
set_get (p ∷ parts) (suc j) zero octets part at = inr at
set_get (p ∷ parts) (suc j) (suc i) octets part at = elim (set_get parts j i octets part at) [ inl here ↦ inl (ap suc here.0, here.1) | inr other ↦ inr other ]

-- a sample that is put together of picks
abbrev pub IsPicked : ℕ → List (ℕ × List ℕ) → List ℕ → Type 0
IsPicked last came octets = (parts : List (List ℕ)) × (length parts ≡ last) × (0 < length parts) × ArePicks came parts × (octets ≡ concat parts)

firsts_are_picks : (came : List (ℕ × List ℕ)) (last : ℕ) (parts : List (List ℕ)) → samples.firsts_of came last ≡ Some parts → ArePicks came parts
firsts_are_picks came last parts e i octets at = first_is_there came (suc i) octets ((firsts_get came last parts e).2 i octets at)

second_is_picks : (came : List (ℕ × List ℕ)) (last : ℕ) (parts : List (List ℕ)) (one : ℕ × List ℕ) → samples.firsts_of came last ≡ Some parts → Contains came one → 0 < one.0
    → ArePicks came (set parts (pred one.0) one.1)
second_is_picks came last parts one h h2 h3 h4 h5 h6 = search (rules, set_get, firsts_are_picks)

pub sample_is_picked : (last : ℕ) (came : List (ℕ × List ℕ)) (octets : List ℕ) → AreWithin last came → Contains (samples.samples_of last came) octets → IsPicked last came octets
sample_is_picked last came octets within among = by (samples.firsts_of came last) (find (samples.is_other came) came) refl refl among
  where
    first : (parts : List (List ℕ)) → samples.firsts_of came last ≡ Some parts → concat parts ≡ octets → IsPicked last came octets
    first parts e is =
        let gets = firsts_get came last parts e in
        (parts, gets.0, (let n = gets.0 in let lt = gets.1 in omega arith), firsts_are_picks came last parts e, sym is)

    second : (parts : List (List ℕ)) (one : ℕ × List ℕ) → samples.firsts_of came last ≡ Some parts → find (samples.is_other came) came ≡ Some one → concat (set parts (pred one.0) one.1) ≡ octets → IsPicked last came octets
    second parts one e other is =
        let gets = firsts_get came last parts e in
        let differs = other_differs came one other in
        let same = length-set parts (pred one.0) one.1 in
        let count : length (set parts (pred one.0) one.1) ≡ last = same ∙ gets.0 in (
          set parts (pred one.0) one.1,
          count,
          (let lt = gets.1 in omega arith),
          second_is_picks came last parts one e differs.0 (within one differs.0).0,
          sym is,
        )

    by : (a : Option (List (List ℕ))) (b : Option (ℕ × List ℕ)) → samples.firsts_of came last ≡ a → find (samples.is_other came) came ≡ b → Contains (samples.samples_by a b) octets → IsPicked last came octets
    by None b e other there = absurd (contains_none octets there)
    by (Some parts) None e other there = elim (contains_cases (concat parts) [] octets there) [
      | inl is ↦ first parts e is
      | inr none ↦ absurd (contains_none octets none)
    ]
    by (Some parts) (Some one) e other there = elim (contains_cases (concat parts) (concat (set parts (pred one.0) one.1) ∷ []) octets there) [
      | inl is ↦ first parts e is
      | inr more ↦ elim (contains_cases (concat (set parts (pred one.0) one.1)) [] octets more) [
        | inl is ↦ second parts one e other is
        | inr none ↦ absurd (contains_none octets none)
      ]
    ]
