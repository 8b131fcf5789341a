-- What is put together of all that came of one sample.
use Rattle.std.proofs.Common.{◌≡◌, ℕ, zero, suc, ◌<◌, Bool, true, false, cond, not, List, [], ◌∷◌, ◌++◌, length, Option, Some, None, slice_get, refl, sym, ◌∙◌, ap, subst, arith, inl, inr, ◌⊎◌, rules}
use Rattle.std.specs.Prelude.{Contains, ◌==◌}
use Rattle.std.specs.List.{find}
use Rattle.std.specs.Str.{bytes_eq}
use Rattle.std.proofs.lemmas.Bool.{cases_Bool}
use Rattle.std.proofs.lemmas.Bool.Decides.{Decides-eqb, nat_tests}
use Rattle.std.proofs.lemmas.List.Folds.{find-append}
use Rattle.std.proofs.lemmas.Slice.Eq.{bytes_eq-Decides}
use Rattle.rtps_audit.proofs.Offered.{contains_cases, contains_head, contains_none, contains_tail}
use Rattle.rtps_fragments.specs.Samples as samples

-- ---- parts

-- what an element before a list is made of
cons_from : {X : Type 0} (o : Option X) (rest : Option (List X)) (xs : List X) → samples.cons_some o rest ≡ Some xs → (x : X) × (ys : List X) × (o ≡ Some x) × (rest ≡ Some ys) × (x ∷ ys ≡ xs)
cons_from o rest xs h = grind (arith, nat_tests)

pub parts_length : (octets : ℕ → Option (List ℕ)) (count : ℕ) (parts : List (List ℕ)) → samples.parts_by octets count ≡ Some parts → length parts ≡ count
parts_length octets zero parts e = let same : [] ≡ parts = (let h = e in cc) in ap length (sym same)
parts_length octets (suc count) parts e =
    let (x, rest, first, others, is) = cons_from (octets 0) (samples.parts_by (λ i. octets (suc i)) count) parts e in
    ap length (sym is) ∙ ap suc (parts_length (λ i. octets (suc i)) count rest others)

pub parts_get : (octets : ℕ → Option (List ℕ)) (count : ℕ) (parts : List (List ℕ)) → samples.parts_by octets count ≡ Some parts → (i : ℕ) (part : List ℕ) → slice_get parts i ≡ Some part → octets i ≡ Some part
parts_get octets zero parts e i part at =
    let same : [] ≡ parts = (let h = e in cc) in
    let none : slice_get [] i ≡ Some part = subst (λ (ps : List (List ℕ)). slice_get ps i ≡ Some part) (sym same) at in
    cc
parts_get octets (suc count) parts e zero part at =
    let (x, rest, first, others, is) = cons_from (octets 0) (samples.parts_by (λ i. octets (suc i)) count) parts e in
    first ∙ subst (λ (ps : List (List ℕ)). slice_get ps 0 ≡ Some part) (sym is) at
parts_get octets (suc count) parts e (suc i) part at =
    let (x, rest, first, others, is) = cons_from (octets 0) (samples.parts_by (λ i. octets (suc i)) count) parts e in
    parts_get (λ k. octets (suc k)) count rest others i part (subst (λ (ps : List (List ℕ)). slice_get ps (suc i) ≡ Some part) (sym is) at)

pub parts_exist : (octets : ℕ → Option (List ℕ)) (count : ℕ) → ((i : ℕ) → i < count → (part : List ℕ) × (octets i ≡ Some part)) → (parts : List (List ℕ)) × (samples.parts_by octets count ≡ Some parts)
parts_exist octets zero each = ([], refl)
parts_exist octets (suc count) each =
    let first = each 0 (omega arith) in
    let rest = parts_exist (λ i. octets (suc i)) count (λ i lt. each (suc i) (omega arith)) in
    (first.0 ∷ rest.0, rw (first.1, rest.1) refl)

-- so many parts, each of which stands at its place, are the parts
pub parts_are : (octets : ℕ → Option (List ℕ)) (parts : List (List ℕ)) → ((i : ℕ) (part : List ℕ) → slice_get parts i ≡ Some part → octets i ≡ Some part) → samples.parts_by octets (length parts) ≡ Some parts
parts_are octets [] each = refl
parts_are octets (part ∷ parts) each =
    let first : octets 0 ≡ Some part = each 0 part refl in
    let rest : samples.parts_by (λ i. octets (suc i)) (length parts) ≡ Some parts = parts_are (λ i. octets (suc i)) parts (λ i o at. each (suc i) o at) in
    rw (first, rest) refl

-- ---- what came first

first_cases : (i j : ℕ) → (i ≡ j) ⊎ ((i == j) ≡ false)
first_cases i j = elim (cases_Bool (i == j)) [ inl e ↦ inl ((Decides-eqb i j).0 e) | inr e ↦ inr e ]

pub first_is_there : (came : List (ℕ × List ℕ)) (i : ℕ) (octets : List ℕ) → samples.first_of came i ≡ Some octets → Contains came (i, octets)
first_is_there [] i octets e = cc
first_is_there (one ∷ rest) i octets e = elim (first_cases i one.0) [
  | inl same ↦
      let here : Some one.1 ≡ Some octets = sym (ap (λ b. cond b (Some one.1) (samples.first_of rest i)) ((Decides-eqb i one.0).1 same)) ∙ e in
      let is : one.1 ≡ octets = cc in
      subst (λ (p : ℕ × List ℕ). Contains (one ∷ rest) p) (one_is same is) (contains_head one rest)
  | inr apart ↦ contains_tail one rest (i, octets) (first_is_there rest i octets (sym (ap (λ b. cond b (Some one.1) (samples.first_of rest i)) apart) ∙ e))
]
  where
    one_is : i ≡ one.0 → one.1 ≡ octets → ◌≡◌ {A = ℕ × List ℕ} one (i, octets)
    one_is same is = let a : one.0 ≡ i = sym same in let b = is in ap (λ (k : ℕ). let p : ℕ × List ℕ = (k, one.1) in p) a ∙ ap (λ (o : List ℕ). let p : ℕ × List ℕ = (i, o) in p) b

-- what came has octets that came first
pub first_of_all : (came : List (ℕ × List ℕ)) (one : ℕ × List ℕ) → Contains came one → (octets : List ℕ) × (samples.first_of came one.0 ≡ Some octets)
first_of_all [] one among = absurd (contains_none one among)
first_of_all (next ∷ rest) one among = elim (first_cases one.0 next.0) [
  | inl same ↦ (next.1, ap (λ b. cond b (Some next.1) (samples.first_of rest one.0)) ((Decides-eqb one.0 next.0).1 same))
  | inr apart ↦ elim (contains_cases next rest one among) [
    | inl here ↦ absurd (let yes = (Decides-eqb one.0 next.0).1 (sym (ap (λ (p : ℕ × List ℕ). p.0) here)) in let clash : true ≡ false = sym yes ∙ apart in cc)
    | inr there ↦
        let found = first_of_all rest one there in
        (found.0, ap (λ b. cond b (Some next.1) (samples.first_of rest one.0)) apart ∙ found.1)
  ]
]

-- what came first stays first
pub first_stays : (came more : List (ℕ × List ℕ)) (i : ℕ) (octets : List ℕ) → samples.first_of came i ≡ Some octets → samples.first_of (came ++ more) i ≡ Some octets
first_stays [] more i octets e = cc
first_stays (one ∷ rest) more i octets e = elim (cases_Bool (i == one.0)) [
  | inl is ↦ ap (λ b. cond b (Some one.1) (samples.first_of (rest ++ more) i)) is ∙ sym (ap (λ b. cond b (Some one.1) (samples.first_of rest i)) is) ∙ e
  | inr is ↦
      ap (λ b. cond b (Some one.1) (samples.first_of (rest ++ more) i)) is
      ∙ first_stays rest more i octets (sym (ap (λ b. cond b (Some one.1) (samples.first_of rest i)) is) ∙ e)
]

pub firsts_stay : (came more : List (ℕ × List ℕ)) (last : ℕ) (parts : List (List ℕ)) → samples.firsts_of came last ≡ Some parts → samples.firsts_of (came ++ more) last ≡ Some parts
firsts_stay came more zero parts e = cc
firsts_stay came more (suc last) parts e =
    let count : length parts ≡ suc last = parts_length (λ i. samples.first_of came (suc i)) (suc last) parts e in
    let are = parts_are (λ i. samples.first_of (came ++ more) (suc i)) parts (λ i part at. first_stays came more (suc i) part (parts_get (λ j. samples.first_of came (suc j)) (suc last) parts e i part at)) in
    subst (λ k. samples.parts_by (λ i. samples.first_of (came ++ more) (suc i)) k ≡ Some parts) count are

-- ---- what came otherwise

find_is : {X : Type 0} (p : X → Bool) (xs : List X) (x : X) → find p xs ≡ Some x → Contains xs x × (p x ≡ true)
find_is p [] x e = cc
find_is p (y ∷ ys) x e = elim (cases_Bool (p y)) [
  | inl is ↦
      let both : Some y ≡ Some x = sym (ap (λ b. cond b (Some y) (find p ys)) is) ∙ e in
      let same : y ≡ x = cc in
      (subst (Contains (y ∷ ys)) same (contains_head y ys), subst (λ z. p z ≡ true) same is)
  | inr is ↦
      let rest = find_is p ys x (sym (ap (λ b. cond b (Some y) (find p ys)) is) ∙ e) in
      (contains_tail y ys x rest.0, rest.1)
]

none_found : {X : Type 0} (p : X → Bool) (xs : List X) (x : X) → find p xs ≡ None → Contains xs x → p x ≡ false
none_found p [] x e among = absurd (contains_none x among)
none_found p (y ∷ ys) x e among = elim (cases_Bool (p y)) [
  | inl is ↦ absurd (let clash : Some y ≡ None = sym (ap (λ b. cond b (Some y) (find p ys)) is) ∙ e in cc)
  | inr is ↦ elim (contains_cases y ys x among) [
    | inl here ↦ subst (λ z. p z ≡ false) here is
    | inr there ↦ none_found p ys x (sym (ap (λ b. cond b (Some y) (find p ys)) is) ∙ e) there
  ]
]

pub find_agrees : {X : Type 0} (p q : X → Bool) (xs : List X) → ((x : X) → Contains xs x → p x ≡ q x) → find p xs ≡ find q xs
find_agrees p q [] same = refl
find_agrees p q (y ∷ ys) same =
    ap (λ b. cond b (Some y) (find p ys)) (same y (contains_head y ys))
    ∙ ap (cond (q y) (Some y)) (find_agrees p q ys (λ x among. same x (contains_tail y ys x among)))

-- what came is otherwise with more as without
pub other_same : (came more : List (ℕ × List ℕ)) (x : ℕ × List ℕ) → Contains came x → samples.is_other (came ++ more) x ≡ samples.is_other came x
other_same came more x among =
    let found = first_of_all came x among in
    ap (λ o. samples.differs o x.1) (first_stays came more x.0 found.0 found.1 ∙ sym found.1)

-- what first came otherwise stays so
pub other_stays : (came more : List (ℕ × List ℕ)) (one : ℕ × List ℕ) → find (samples.is_other came) came ≡ Some one → find (samples.is_other (came ++ more)) (came ++ more) ≡ Some one
other_stays came more one e = search (rules, find-append, find_agrees, other_same)

-- where nothing came otherwise, all that came is what came first
pub none_other : (came : List (ℕ × List ℕ)) → find (samples.is_other came) came ≡ None → (i : ℕ) (octets : List ℕ) → Contains came (i, octets) → samples.first_of came i ≡ Some octets
none_other came none i octets among = by (samples.first_of came i) refl
  where
    found : (first : List ℕ) × (samples.first_of came i ≡ Some first)
    found = first_of_all came (i, octets) among

    by : (o : Option (List ℕ)) → samples.first_of came i ≡ o → samples.first_of came i ≡ Some octets
    by None e = let clash : None ≡ Some found.0 = sym e ∙ found.1 in cc
    by (Some first) e =
        let same = none_found (samples.is_other came) came (i, octets) none among in
        let test : not (bytes_eq first octets) ≡ false = sym (ap (λ o. samples.differs o octets) e) ∙ same in
        e ∙ ap Some ((bytes_eq-Decides first octets).0 (yes (bytes_eq first octets) test))
      where
        yes : (b : Bool) → not b ≡ false → b ≡ true
        yes true h = refl
        yes false h = cc

-- what came otherwise is not what came first
pub other_differs : (came : List (ℕ × List ℕ)) (one : ℕ × List ℕ) → find (samples.is_other came) came ≡ Some one → Contains came one × ((first : List ℕ) → samples.first_of came one.0 ≡ Some first → first ≡ one.1 → ⊥)
other_differs came one e = (found.0, differ)
  where
    found : Contains came one × (samples.is_other came one ≡ true)
    found = find_is (samples.is_other came) came one e

    differ : (first : List ℕ) → samples.first_of came one.0 ≡ Some first → first ≡ one.1 → ⊥
    differ first is same =
        let yes : bytes_eq first one.1 ≡ true = (bytes_eq-Decides first one.1).1 same in
        let no : not (bytes_eq first one.1) ≡ true = sym (ap (λ o. samples.differs o one.1) is) ∙ found.1 in
        let clash : false ≡ true = sym (ap not yes) ∙ no in
        cc
