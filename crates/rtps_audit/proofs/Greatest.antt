-- The greatest of a list of numbers, and the greatest base of a recording: a number below it is claimed.
use Rattle.std.proofs.Common.{ℕ, zero, suc, ◌≡◌, ◌<◌, max, List, [], ◌∷◌, ◌++◌, Option, Some, None, refl, ◌∙◌, ap, arith, inl, inr, subst}
use Rattle.std.specs.Prelude.{Contains, unwrap_or}
use Rattle.std.specs.List.{filter_map, cons_option}
use Rattle.std.proofs.lemmas.Bool.{cases_lt}
use Rattle.std.proofs.lemmas.List.Elements.{filter_map-append, Contains-append_left, Contains-append_right, Contains-append_cases, Contains-push}
use Rattle.rtps_audit.specs.Delivery as delivery
use Rattle.rtps_audit.specs.PlainVerdict as plain_verdict

pub greatest-append : (xs ys : List ℕ) → delivery.greatest (xs ++ ys) ≡ max (delivery.greatest xs) (delivery.greatest ys)
greatest-append [] ys = omega arith
greatest-append (x ∷ xs) ys = let rest = greatest-append xs ys in omega arith

greatest-cons_option : (o : Option ℕ) → delivery.greatest (cons_option o []) ≡ unwrap_or o 0
greatest-cons_option None = refl
greatest-cons_option (Some n) = omega arith

-- of what h gives of a list, with one element more
pub greatest_more : {X : Type 0} (h : X → Option ℕ) (xs : List X) (x : X) → delivery.greatest (filter_map h (xs ++ x ∷ [])) ≡ max (delivery.greatest (filter_map h xs)) (unwrap_or (h x) 0)
greatest_more h xs x =
    ap delivery.greatest (filter_map-append h xs (x ∷ []))
    ∙ greatest-append (filter_map h xs) (filter_map h (x ∷ []))
    ∙ ap (max (delivery.greatest (filter_map h xs))) (greatest-cons_option (h x))

-- a number below the greatest of a list is below one of its elements, and the other way round
pub below_greatest : (n : ℕ) (xs : List ℕ) → n < delivery.greatest xs → (x : ℕ) × Contains xs x × (n < x)
below_greatest n [] lt = absurd (omega arith)
below_greatest n (x ∷ xs) lt = elim (cases_lt n x) [
  | inl here ↦ (x, Contains-append_left (x ∷ []) xs x (Contains-push [] x), here)
  | inr not ↦
      let rest = below_greatest n xs (omega arith) in
      (rest.0, Contains-append_right (x ∷ []) xs rest.0 rest.1, rest.2)
]

pub greatest_below : (n x : ℕ) (xs : List ℕ) → Contains xs x → n < x → n < delivery.greatest xs
greatest_below n x [] among lt = absurd (let h = among.1 in omega arith)
greatest_below n x (y ∷ ys) among lt = elim (Contains-append_cases (y ∷ []) ys x among) [
  | inl here ↦ let same : y ≡ x = only_number y x here in omega arith
  | inr there ↦ let rest = greatest_below n x ys there lt in omega arith
]
  where
    only_number : (a b : ℕ) → Contains (a ∷ []) b → a ≡ b
    only_number a b (zero, h, e) = e
    only_number a b (suc k, h, e) = absurd (omega arith)

-- ---- the greatest base

-- the greatest base of an answer, or 0
abbrev pub greatest_base : delivery.Speech → ℕ
greatest_base [] = 0
greatest_base (datagram ∷ speech) = max (delivery.greatest datagram.bases) (greatest_base speech)

-- a claim with a datagram more before it
claims_next : {from : ℕ} (d : delivery.Datagram) (speech : delivery.Speech) (j n : ℕ) → delivery.Claims from speech j n → delivery.Claims from (d ∷ speech) (suc j) n
claims_next d speech j n claims = record { datagram = claims.datagram; base = claims.base; stands = claims.stands; answers = claims.answers; asked = claims.asked; below = claims.below }

pub claimed_from_below : {from : ℕ} (n : ℕ) (speech : delivery.Speech) → delivery.IsAsked from n → n < greatest_base speech → plain_verdict.IsClaimed from speech n
claimed_from_below n [] asked lt = absurd (omega arith)
claimed_from_below n (d ∷ speech) asked lt = elim (cases_lt n (delivery.greatest d.bases)) [
  | inl here ↦ let base = below_greatest n d.bases here in (0, record { datagram = d; base = base.0; stands = refl; answers = base.1; asked = asked; below = base.2 })
  | inr not ↦ let rest = claimed_from_below n speech asked (omega arith) in (suc rest.0, claims_next d speech rest.0 n rest.1)
]

pub below_from_claims : {from : ℕ} (n j : ℕ) (speech : delivery.Speech) → delivery.Claims from speech j n → n < greatest_base speech
below_from_claims n j [] claims = let none = claims.stands in cc
below_from_claims n zero (d ∷ speech) claims =
    let same : claims.datagram ≡ d = (let both = claims.stands in cc) in
    let among : Contains d.bases claims.base = subst (λ (x : delivery.Datagram). Contains x.bases claims.base) same claims.answers in
    let below = greatest_below n claims.base d.bases among claims.below in
    omega arith
below_from_claims n (suc j) (d ∷ speech) claims =
    let rest = below_from_claims n j speech (record { datagram = claims.datagram; base = claims.base; stands = claims.stands; answers = claims.answers; asked = claims.asked; below = claims.below }) in
    omega arith
