-- Tests of names, and of the elements of lists.
use Rattle.std.proofs.lemmas.Grind.{common_steps}
use Rattle.std.proofs.lemmas.Bool.Decides.{nat_tests}
use Rattle.std.proofs.Common.{◌≡◌, ℕ, Bool, true, false, cond, List, [], ◌∷◌, ◌++◌, map, filter, Option, Some, None, refl, sym, ◌∙◌, ap, subst, inl, inr, ◌⊎◌, arith, rules}
use Rattle.std.specs.Prelude.{Contains, ◌||◌}
use Rattle.std.specs.List.{flat_map, list_any}
use Rattle.std.proofs.lemmas.Bool.{cases_Bool}
use Rattle.std.proofs.lemmas.List.Elements.{Contains-append_left, Contains-append_right, Contains-append_cases}
use Rattle.std.proofs.lemmas.Slice.Eq.{bytes_eq-Decides}
use Rattle.rtps_ids.specs.declared.identity.EntityId.{EntityId}
use Rattle.rtps_ids.specs.declared.identity.GuidPrefix.{GuidPrefix}
use Rattle.rtps_receiver.specs.Speech as speech
use Rattle.rtps_audit.proofs.Offered.{contains_cases, contains_head, contains_mapped, contains_none, contains_tail, kept_if_passed, kept_is_there, mapped_contains}

-- ---- tests

pub prefix_is : (one other : GuidPrefix) → speech.is_prefix one other ≡ true → one ≡ other
prefix_is one other e = let make : List ℕ → GuidPrefix = λ o. record { 0 = o } in ap make ((bytes_eq-Decides one.0 other.0).0 e)

pub own_prefix : (prefix : GuidPrefix) → speech.is_prefix prefix prefix ≡ true
own_prefix prefix = (bytes_eq-Decides prefix.0 prefix.0).1 refl

pub entity_is : (one other : EntityId) → speech.is_entity one other ≡ true → one ≡ other
entity_is one other e = let make : List ℕ → EntityId = λ o. record { 0 = o } in ap make ((bytes_eq-Decides one.0 other.0).0 e)

pub own_entity : (entity : EntityId) → speech.is_entity entity entity ≡ true
own_entity entity = (bytes_eq-Decides entity.0 entity.0).1 refl

-- ---- lists

pub any_or_none : {X : Type 0} (test : X → Bool) (xs : List X) → ((x : X) × Contains xs x × (test x ≡ true)) ⊎ ((x : X) → Contains xs x → test x ≡ false)
any_or_none test [] = inr (λ x among. absurd (contains_none x among))
any_or_none test (y ∷ ys) = elim (cases_Bool (test y)) [
  | inl passes ↦ inl (y, contains_head y ys, passes)
  | inr never ↦ elim (any_or_none test ys) [
    | inl (x, among, is) ↦ inl (x, contains_tail y ys x among, is)
    | inr none ↦ inr (λ x among. elim (contains_cases y ys x among) [
      | inl here ↦ subst (λ z. test z ≡ false) here never
      | inr there ↦ none x there
    ])
  ]
]

pub none_of_all : {X : Type 0} (test : X → Bool) (xs : List X) → ((x : X) → Contains xs x → test x ≡ false) → list_any test xs ≡ false
none_of_all test [] none = refl
none_of_all test (y ∷ ys) none = ap (λ b. b || list_any test ys) (none y (contains_head y ys)) ∙ none_of_all test ys (λ x among. none x (contains_tail y ys x among))

pub any_from : {X : Type 0} (test : X → Bool) (xs : List X) (x : X) → Contains xs x → test x ≡ true → list_any test xs ≡ true
any_from test xs x h h2 = grind (arith, nat_tests, common_steps)

pub flat_has : {X Y : Type 0} (f : X → List Y) (xs : List X) (x : X) (y : Y) → Contains xs x → Contains (f x) y → Contains (flat_map f xs) y
flat_has f [] x y among made = absurd (contains_none x among)
flat_has f (z ∷ xs) x y among made = elim (contains_cases z xs x among) [
  | inl here ↦ Contains-append_left (f z) (flat_map f xs) y (subst (λ v. Contains (f v) y) (sym here) made)
  | inr there ↦ Contains-append_right (f z) (flat_map f xs) y (flat_has f xs x y there made)
]

pub flat_from : {X Y : Type 0} (f : X → List Y) (xs : List X) (y : Y) → Contains (flat_map f xs) y → (x : X) × Contains xs x × Contains (f x) y
flat_from f [] y among = absurd (contains_none y among)
flat_from f (z ∷ xs) y among = elim (Contains-append_cases (f z) (flat_map f xs) y among) [
  | inl here ↦ (z, contains_head z xs, here)
  | inr there ↦ let (x, more, made) = flat_from f xs y there in (x, contains_tail z xs x more, made)
]

pub any_of : {X : Type 0} (test : X → Bool) (xs : List X) → list_any test xs ≡ true → (x : X) × Contains xs x × (test x ≡ true)
any_of test xs any = elim (any_or_none test xs) [
  | inl found ↦ found
  | inr none ↦ absurd (let clash : true ≡ false = sym any ∙ none_of_all test xs none in cc)
]
