-- A text in two parts fits a pattern where each part fits a part of the pattern.
use Rattle.std.proofs.Common.{◌≡◌, ◌∙◌, ℕ, ◌<◌, ◌≤◌, ◌==◌, ◌&&◌, Bool, true, false, List, [], ◌∷◌, ◌++◌, add-one, ap, append_assoc, arith, drop, if◌then◌else◌, inl, inr, length, refl, subst, suc, sym, take, zero}
use Rattle.std.specs.Cmp.{both_ways}
use Rattle.std.specs.List.{list_any}
use Rattle.std.proofs.lemmas.Bool.{and_parts, cases_lt, eqb-true, false≢true, or_cases}
use Rattle.rtps_report.specs.Patterns as patterns
use Rattle.rtps_report.proofs.PatternLemmas.{at_octet, clash, nothing_left, star_here, star_more, star_split}

-- the part of a pattern up to a place, and a `*` that stands there
abbrev front_to : List ℕ → ℕ → List ℕ
front_to pattern place = if patterns.is_starred (drop place pattern) then take (suc place) pattern else take place pattern

-- a text fits the part up to some place, and another the part from there on
abbrev AreParts : List ℕ → List ℕ → List ℕ → Type 0
AreParts pattern one other = (place : ℕ) × (place ≤ length pattern) × (patterns.fits (front_to pattern place) one ≡ true) × (patterns.fits (drop place pattern) other ≡ true)

front_more : (octet : ℕ) (pattern : List ℕ) (place : ℕ) → front_to (octet ∷ pattern) (suc place) ≡ octet ∷ front_to pattern place
front_more octet pattern place = by (patterns.is_starred (drop place pattern))
  where
    by : (b : Bool) → (if b then octet ∷ take (suc place) pattern else octet ∷ take place pattern) ≡ octet ∷ (if b then take (suc place) pattern else take place pattern)
    by true = refl
    by false = refl

parts_are : (pattern : List ℕ) (place : ℕ) (one other : List ℕ) → patterns.parts_fit pattern place one other ≡ (patterns.fits (front_to pattern place) one && patterns.fits (drop place pattern) other)
parts_are pattern place one other = ap (λ n. patterns.fits (if patterns.is_starred (drop place pattern) then take n pattern else take place pattern) one && patterns.fits (drop place pattern) other) (add-one place)

both_true : (one other : Bool) → one ≡ true → other ≡ true → (one && other) ≡ true
both_true true other is also = also
both_true false other is also = clash is

-- a `*` alone stands for any text
any_text : (text : List ℕ) → patterns.fits (patterns.star ∷ []) text ≡ true
any_text [] = refl
any_text (x ∷ text) = any_text text

-- ---- two parts make a text that fits

with_octet : (octet : ℕ) (front pattern one other : List ℕ) → ((text : List ℕ) → patterns.fits front text ≡ true → patterns.fits pattern (text ++ other) ≡ true) → patterns.fits (octet ∷ front) one ≡ true
    → patterns.fits (octet ∷ pattern) (one ++ other) ≡ true
with_octet octet front pattern one other onward fit = by (octet == patterns.star) refl
  where
    at_star : patterns.fits (patterns.star ∷ front) one ≡ true → patterns.fits (patterns.star ∷ pattern) (one ++ other) ≡ true
    at_star fit =
        let found = star_split front one fit in
        let behind = star_more pattern found.0 (found.1 ++ other) (star_here pattern (found.1 ++ other) (onward found.1 found.3)) in
        subst (λ text. patterns.fits (patterns.star ∷ pattern) text ≡ true) (sym (ap (λ text. text ++ other) found.2 ∙ append_assoc found.0 found.1 other)) behind

    at_other : (octet == patterns.star) ≡ false → (one : List ℕ) → patterns.begins_with octet (patterns.fits front) one ≡ true → patterns.fits (octet ∷ pattern) (one ++ other) ≡ true
    at_other is [] fit = clash fit
    at_other is (x ∷ one) fit =
        let parts = and_parts (x == octet) (patterns.fits front one) fit in
        at_octet octet pattern (x ∷ (one ++ other)) is ∙ both_true (x == octet) (patterns.fits pattern (one ++ other)) parts.0 (onward one parts.1)

    by : (b : Bool) → (octet == patterns.star) ≡ b → patterns.fits (octet ∷ pattern) (one ++ other) ≡ true
    by true is =
        let same : octet ≡ patterns.star = eqb-true octet patterns.star is in
        subst (λ o. patterns.fits (o ∷ front) one ≡ true → patterns.fits (o ∷ pattern) (one ++ other) ≡ true) (sym same) at_star fit
    by false is = at_other is one (sym (at_octet octet front one is) ∙ fit)

joined : (pattern : List ℕ) (place : ℕ) (one other : List ℕ) → patterns.fits (front_to pattern place) one ≡ true → patterns.fits (drop place pattern) other ≡ true → patterns.fits pattern (one ++ other) ≡ true
joined [] zero one other fit rest = subst (λ text. patterns.fits [] (text ++ other) ≡ true) (sym (nothing_left one fit)) rest
joined [] (suc place) one other fit rest = subst (λ text. patterns.fits [] (text ++ other) ≡ true) (sym (nothing_left one fit)) rest
joined (octet ∷ pattern) zero one other fit rest = by (octet == patterns.star) refl
  where
    by : (b : Bool) → (octet == patterns.star) ≡ b → patterns.fits (octet ∷ pattern) (one ++ other) ≡ true
    by true is =
        let same : octet ≡ patterns.star = eqb-true octet patterns.star is in
        subst (λ o. patterns.fits (o ∷ pattern) other ≡ true → patterns.fits (o ∷ pattern) (one ++ other) ≡ true) (sym same) (star_more pattern one other) rest
    by false is =
        let none : one ≡ [] = nothing_left one (sym (ap (λ (b : Bool). patterns.fits (if b then octet ∷ [] else []) one) is) ∙ fit) in
        subst (λ text. patterns.fits (octet ∷ pattern) (text ++ other) ≡ true) (sym none) rest
joined (octet ∷ pattern) (suc place) one other fit rest =
    with_octet octet (front_to pattern place) pattern one other (λ text more. joined pattern place text other more rest) (sym (ap (λ front. patterns.fits front one) (front_more octet pattern place)) ∙ fit)

-- ---- and a text that fits is made of two

star_parted : (pattern one other : List ℕ) → ((text : List ℕ) → patterns.fits pattern (text ++ other) ≡ true → AreParts pattern text other) → patterns.fits (patterns.star ∷ pattern) (one ++ other) ≡ true → AreParts (patterns.star ∷ pattern) one other
star_parted pattern [] other onward fit = (0, omega arith, refl, fit)
star_parted pattern (x ∷ one) other onward fit = elim (or_cases (patterns.fits pattern (x ∷ (one ++ other))) (list_any (patterns.fits pattern) (patterns.ends_of (one ++ other))) fit) [
  | inl here ↦ further (onward (x ∷ one) here)
  | inr there ↦ (let parts = star_parted pattern one other onward there in (parts.0, parts.1, longer parts.0 parts.2, parts.3))
]
  where
    further : AreParts pattern (x ∷ one) other → AreParts (patterns.star ∷ pattern) (x ∷ one) other
    further parts =
        let within : parts.0 ≤ length pattern = parts.1 in
        (suc parts.0, omega arith, ap (λ part. patterns.fits part (x ∷ one)) (front_more patterns.star pattern parts.0) ∙ star_here (front_to pattern parts.0) (x ∷ one) parts.2, parts.3)

    longer : (place : ℕ) → patterns.fits (front_to (patterns.star ∷ pattern) place) one ≡ true → patterns.fits (front_to (patterns.star ∷ pattern) place) (x ∷ one) ≡ true
    longer zero front = any_text (x ∷ one)
    longer (suc place) front =
        ap (λ part. patterns.fits part (x ∷ one)) (front_more patterns.star pattern place)
        ∙ star_more (front_to pattern place) (x ∷ []) one (sym (ap (λ part. patterns.fits part one) (front_more patterns.star pattern place)) ∙ front)

octet_parted : (octet : ℕ) (pattern one other : List ℕ) → (octet == patterns.star) ≡ false → ((text : List ℕ) → patterns.fits pattern (text ++ other) ≡ true → AreParts pattern text other)
    → patterns.fits (octet ∷ pattern) (one ++ other) ≡ true → AreParts (octet ∷ pattern) one other
octet_parted octet pattern [] other is onward fit = (0, omega arith, ap (λ (b : Bool). patterns.fits (if b then octet ∷ [] else []) []) is, fit)
octet_parted octet pattern (x ∷ one) other is onward fit =
    let begins = and_parts (x == octet) (patterns.fits pattern (one ++ other)) (sym (at_octet octet pattern (x ∷ (one ++ other)) is) ∙ fit) in
    further begins.0 (onward one begins.1)
  where
    further : (x == octet) ≡ true → AreParts pattern one other → AreParts (octet ∷ pattern) (x ∷ one) other
    further same parts =
        let within : parts.0 ≤ length pattern = parts.1 in
        let front : patterns.fits (octet ∷ front_to pattern parts.0) (x ∷ one) ≡ true =
        at_octet octet (front_to pattern parts.0) (x ∷ one) is ∙ both_true (x == octet) (patterns.fits (front_to pattern parts.0) one) same parts.2 in
        (suc parts.0, omega arith, ap (λ part. patterns.fits part (x ∷ one)) (front_more octet pattern parts.0) ∙ front, parts.3)

parted : (pattern one other : List ℕ) → patterns.fits pattern (one ++ other) ≡ true → AreParts pattern one other
parted [] [] other fit = (0, omega arith, refl, fit)
parted [] (x ∷ one) other fit = clash fit
parted (octet ∷ pattern) one other fit = by (λ text more. parted pattern text other more) (octet == patterns.star) refl
  where
    by : ((text : List ℕ) → patterns.fits pattern (text ++ other) ≡ true → AreParts pattern text other) → (b : Bool) → (octet == patterns.star) ≡ b → AreParts (octet ∷ pattern) one other
    by onward true is =
        let same : octet ≡ patterns.star = eqb-true octet patterns.star is in
        subst (λ o. patterns.fits (o ∷ pattern) (one ++ other) ≡ true → AreParts (o ∷ pattern) one other) (sym same) (star_parted pattern one other onward) fit
    by onward false is = octet_parted octet pattern one other is onward fit

-- ---- the test of each place

pub parts_at : (pattern : List ℕ) (place : ℕ) (one other : List ℕ) → patterns.parts_fit pattern place one other ≡ true → patterns.fits pattern (one ++ other) ≡ true
parts_at pattern place one other fit =
    let parts = and_parts (patterns.fits (front_to pattern place) one) (patterns.fits (drop place pattern) other) (sym (parts_are pattern place one other) ∙ fit) in
    joined pattern place one other parts.0 parts.1

-- where no place before the end of the pattern serves, its end does or none
pub parts_at_end : (pattern one other : List ℕ) → ((place : ℕ) → place < length pattern → patterns.parts_fit pattern place one other ≡ false)
    → patterns.parts_fit pattern (length pattern) one other ≡ patterns.fits pattern (one ++ other)
parts_at_end pattern one other none = both_ways _ _ (parts_at pattern (length pattern) one other) (λ fit. at (parted pattern one other fit))
  where
    at : AreParts pattern one other → patterns.parts_fit pattern (length pattern) one other ≡ true
    at parts =
        let within : parts.0 ≤ length pattern = parts.1 in
        let fit : patterns.parts_fit pattern parts.0 one other ≡ true =
        parts_are pattern parts.0 one other ∙ both_true (patterns.fits (front_to pattern parts.0) one) (patterns.fits (drop parts.0 pattern) other) parts.2 parts.3 in
        elim (cases_lt parts.0 (length pattern)) [
          | inl before ↦ absurd (false≢true (sym (none parts.0 before) ∙ fit))
          | inr behind ↦ (let end : parts.0 ≡ length pattern = omega arith in subst (λ n. patterns.parts_fit pattern n one other ≡ true) end fit)
        ]
