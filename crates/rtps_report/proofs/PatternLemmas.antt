-- Which topics a pattern stands for, part by part.
use Rattle.std.proofs.Common.{◌≡◌, ◌≢◌, ◌∙◌, ℕ, ◌-◌, ◌≤◌, ◌==◌, ◌&&◌, ◌||◌, Bool, true, false, List, [], ◌∷◌, ◌++◌, append-nil, append_assoc, ap, ap₂, arith, drop, eqb, if◌then◌else◌, inl, inr, length, not, refl, subst, suc, sym, take, zero}
use Rattle.std.specs.List.{list_any}
use Rattle.std.proofs.lemmas.Bool.{and_parts, eq-eqb, eqb-true, false_from_ne_true, not-true, or_cases, or_left, or_right}
use Rattle.std.proofs.lemmas.List.{length-append}
use Rattle.std.proofs.lemmas.Bool.Decides.{Decides-eqb}
use Rattle.std.proofs.lemmas.Slice.Eq.{ends_is, slice_eq-Decides}
use Rattle.std.specs.Cmp.Lexicographic.{pointwise}
use Rattle.std.specs.Cmp.{both_ways}
use Rattle.rtps_report.specs.Patterns as patterns

pub clash : {X : Type 0} → false ≡ true → X
clash e = absurd (let no : false ≡ true = e in cc)

-- ---- a part without `*`

-- what a pattern is behind an octet that is no `*`
pub at_octet : (octet : ℕ) (pattern topic : List ℕ) → (octet == patterns.star) ≡ false → patterns.fits (octet ∷ pattern) topic ≡ patterns.begins_with octet (patterns.fits pattern) topic
at_octet octet pattern topic other = ap (λ (b : Bool). if b then list_any (patterns.fits pattern) (patterns.ends_of topic) else patterns.begins_with octet (patterns.fits pattern) topic) other

no_star : (octet : ℕ) (part : List ℕ) → patterns.is_plain (octet ∷ part) ≡ true → ((octet == patterns.star) ≡ false) × (patterns.is_plain part ≡ true)
no_star octet part plain = let parts = and_parts (not (octet == patterns.star)) (patterns.is_plain part) plain in (not-true (octet == patterns.star) parts.0, parts.1)

pub plain_front : (part rest topic : List ℕ) → patterns.is_plain part ≡ true → patterns.fits (part ++ rest) (part ++ topic) ≡ patterns.fits rest topic
plain_front [] rest topic plain = refl
plain_front (octet ∷ part) rest topic plain =
    let parts = no_star octet part plain in
    at_octet octet (part ++ rest) (octet ∷ (part ++ topic)) parts.0 ∙ ap (λ b. b && patterns.fits (part ++ rest) (part ++ topic)) (eq-eqb octet octet refl) ∙ plain_front part rest topic parts.1

pub plain_split : (part rest topic : List ℕ) → patterns.is_plain part ≡ true → patterns.fits (part ++ rest) topic ≡ true → (left : List ℕ) × (topic ≡ part ++ left) × (patterns.fits rest left ≡ true)
plain_split [] rest topic plain fit = (topic, refl, fit)
plain_split (octet ∷ part) rest [] plain fit = clash (sym (at_octet octet (part ++ rest) [] (no_star octet part plain).0) ∙ fit)
plain_split (octet ∷ part) rest (x ∷ topic) plain fit =
    let parts = no_star octet part plain in
    let both = and_parts (x == octet) (patterns.fits (part ++ rest) topic) (sym (at_octet octet (part ++ rest) (x ∷ topic) parts.0) ∙ fit) in
    let same : x ≡ octet = eqb-true x octet both.0 in
    let onward = plain_split part rest topic parts.1 both.1 in
    let behind : topic ≡ part ++ onward.0 = onward.1 in
    (onward.0, cc, onward.2)

-- ---- a `*`

pub star_more : (pattern front topic : List ℕ) → patterns.fits (patterns.star ∷ pattern) topic ≡ true → patterns.fits (patterns.star ∷ pattern) (front ++ topic) ≡ true
star_more pattern [] topic fit = fit
star_more pattern (x ∷ front) topic fit = or_right (patterns.fits pattern (x ∷ (front ++ topic))) (list_any (patterns.fits pattern) (patterns.ends_of (front ++ topic))) (star_more pattern front topic fit)

pub star_here : (pattern topic : List ℕ) → patterns.fits pattern topic ≡ true → patterns.fits (patterns.star ∷ pattern) topic ≡ true
star_here pattern [] fit = or_left (patterns.fits pattern []) false fit
star_here pattern (x ∷ topic) fit = or_left (patterns.fits pattern (x ∷ topic)) (list_any (patterns.fits pattern) (patterns.ends_of topic)) fit

pub star_split : (pattern topic : List ℕ) → patterns.fits (patterns.star ∷ pattern) topic ≡ true → (front left : List ℕ) × (topic ≡ front ++ left) × (patterns.fits pattern left ≡ true)
star_split pattern [] fit = elim (or_cases (patterns.fits pattern []) false fit) [
  | inl here ↦ ([], [], refl, here)
  | inr there ↦ clash there
]
star_split pattern (x ∷ topic) fit = elim (or_cases (patterns.fits pattern (x ∷ topic)) (list_any (patterns.fits pattern) (patterns.ends_of topic)) fit) [
  | inl here ↦ ([], x ∷ topic, refl, here)
  | inr there ↦ (let onward = star_split pattern topic there in (x ∷ onward.0, onward.1, ap (λ l. x ∷ l) onward.2, onward.3))
]

drop_front : (n : ℕ) (front rest : List ℕ) → n ≤ length front → drop n (front ++ rest) ≡ drop n front ++ rest
drop_front zero front rest le = refl
drop_front (suc n) [] rest le = absurd (omega arith)
drop_front (suc n) (x ∷ front) rest le = drop_front n front rest (omega arith)

drop_whole : (part rest : List ℕ) → drop (length part) (part ++ rest) ≡ rest
drop_whole [] rest = refl
drop_whole (x ∷ part) rest = drop_whole part rest

-- a part that is found at once is found as well as later
pub star_taken : (part rest topic : List ℕ) → patterns.is_plain part ≡ true → patterns.fits (patterns.star ∷ (part ++ patterns.star ∷ rest)) (part ++ topic) ≡ patterns.fits (patterns.star ∷ rest) topic
star_taken part rest topic plain = both_ways _ _ onward back
  where
    onward : patterns.fits (patterns.star ∷ (part ++ patterns.star ∷ rest)) (part ++ topic) ≡ true → patterns.fits (patterns.star ∷ rest) topic ≡ true
    onward fit =
        let found = star_split (part ++ patterns.star ∷ rest) (part ++ topic) fit in
        let front = found.0 in
        let taken = plain_split part (patterns.star ∷ rest) found.1 plain found.3 in
        let size = length-append front part in
        let same : topic ≡ drop (length part) (front ++ part) ++ taken.0 =
        sym (drop_whole part topic) ∙ ap (drop (length part)) (found.2 ∙ ap (λ l. front ++ l) taken.1 ∙ sym (append_assoc front part taken.0)) ∙ drop_front (length part) (front ++ part) taken.0 (omega arith) in
        subst (λ l. patterns.fits (patterns.star ∷ rest) l ≡ true) (sym same) (star_more rest (drop (length part) (front ++ part)) taken.0 taken.2)

    back : patterns.fits (patterns.star ∷ rest) topic ≡ true → patterns.fits (patterns.star ∷ (part ++ patterns.star ∷ rest)) (part ++ topic) ≡ true
    back fit = star_here (part ++ patterns.star ∷ rest) (part ++ topic) (plain_front part (patterns.star ∷ rest) topic plain ∙ fit)

-- a part that does not stand here stands later or nowhere
pub star_passed : (part rest : List ℕ) (x : ℕ) (topic : List ℕ) → patterns.is_plain part ≡ true → ((left : List ℕ) → x ∷ topic ≡ part ++ left → ⊥) → patterns.fits (patterns.star ∷ (part ++ rest)) (x ∷ topic) ≡ patterns.fits (patterns.star ∷ (part ++ rest)) topic
star_passed part rest x topic plain none =
    ap (λ b. b || list_any (patterns.fits (part ++ rest)) (patterns.ends_of topic)) (false_from_ne_true (patterns.fits (part ++ rest) (x ∷ topic)) (λ fit. let split = plain_split part rest (x ∷ topic) plain fit in none split.0 split.1))

pub nothing_left : (topic : List ℕ) → patterns.is_empty topic ≡ true → topic ≡ []
nothing_left [] is = refl
nothing_left (x ∷ topic) is = clash is

-- a pattern without `*` is its own text
pub plain_is : (pattern topic : List ℕ) → patterns.is_plain pattern ≡ true → patterns.fits pattern topic ≡ true → topic ≡ pattern
plain_is pattern topic plain fit =
    let split = plain_split pattern [] topic plain (ap (λ l. patterns.fits l topic) (append-nil pattern) ∙ fit) in
    split.1 ∙ ap (λ l. pattern ++ l) (nothing_left split.0 split.2) ∙ append-nil pattern

pub plain_fits : (pattern : List ℕ) → patterns.is_plain pattern ≡ true → patterns.fits pattern pattern ≡ true
plain_fits pattern plain = sym (ap (λ l. patterns.fits l l) (append-nil pattern)) ∙ plain_front pattern [] [] plain

-- and behind a `*` the end of its text
pub plain_ends : (pattern topic : List ℕ) → patterns.is_plain pattern ≡ true → patterns.fits (patterns.star ∷ pattern) topic ≡ true → (front : List ℕ) × (topic ≡ front ++ pattern)
plain_ends pattern topic plain fit =
    let found = star_split pattern topic fit in
    (found.0, found.2 ∙ ap (λ l. found.0 ++ l) (plain_is pattern found.1 plain found.3))

pub ends_fit : (pattern front : List ℕ) → patterns.is_plain pattern ≡ true → patterns.fits (patterns.star ∷ pattern) (front ++ pattern) ≡ true
ends_fit pattern front plain = star_more pattern front pattern (star_here pattern pattern (plain_fits pattern plain))

-- ---- steps

-- a pattern that has a `*` behind a part, and a topic that begins with the part
pub taken : (pattern part behind topic left : List ℕ) → patterns.is_plain part ≡ true → pattern ≡ part ++ patterns.star ∷ behind → topic ≡ part ++ left → patterns.fits pattern topic ≡ patterns.fits (patterns.star ∷ behind) left
taken pattern part behind topic left plain is begins = ap₂ patterns.fits is begins ∙ plain_front part (patterns.star ∷ behind) left plain

pub not_taken : (pattern part behind topic : List ℕ) → patterns.is_plain part ≡ true → pattern ≡ part ++ patterns.star ∷ behind → ((left : List ℕ) → topic ≢ part ++ left) → patterns.fits pattern topic ≡ false
not_taken pattern part behind topic plain is none =
    ap (λ p. patterns.fits p topic) is ∙ false_from_ne_true (patterns.fits (part ++ patterns.star ∷ behind) topic) (λ fit. let split = plain_split part (patterns.star ∷ behind) topic plain fit in none split.0 split.1)

pub taken_behind : (rest part behind left onward : List ℕ) → patterns.is_plain part ≡ true → rest ≡ part ++ patterns.star ∷ behind → left ≡ part ++ onward → patterns.fits (patterns.star ∷ rest) left ≡ patterns.fits (patterns.star ∷ behind) onward
taken_behind rest part behind left onward plain is begins = ap₂ (λ p t. patterns.fits (patterns.star ∷ p) t) is begins ∙ star_taken part behind onward plain

pub passed_behind : (rest part behind left onward : List ℕ) (x : ℕ) → patterns.is_plain part ≡ true → rest ≡ part ++ patterns.star ∷ behind → ((onward : List ℕ) → left ≢ part ++ onward) → left ≡ x ∷ onward → patterns.fits (patterns.star ∷ rest) left ≡ patterns.fits (patterns.star ∷ rest) onward
passed_behind rest part behind left onward x plain is none at =
    ap₂ (λ p t. patterns.fits (patterns.star ∷ p) t) is at ∙ star_passed part (patterns.star ∷ behind) x onward plain (λ l e. none l (at ∙ e)) ∙ sym (ap (λ p. patterns.fits (patterns.star ∷ p) onward) is)

-- a pattern without `*`
pub last_behind : (rest left : List ℕ) (r : Bool) → patterns.is_plain rest ≡ true → r ≡ pointwise eqb rest (drop (length left - length rest) left) → r ≡ patterns.fits (patterns.star ∷ rest) left
last_behind rest left r plain is =
    let ends = ends_is Decides-eqb left rest r is in
    both_ways r (patterns.fits (patterns.star ∷ rest) left)
    (λ yes. subst (λ l. patterns.fits (patterns.star ∷ rest) l ≡ true) (sym (ends.0 yes)) (ends_fit rest (take (length left - length rest) left) plain))
    (λ fit. let found = plain_ends rest left plain fit in ends.1 found.0 found.1)

pub whole : (pattern topic : List ℕ) (r : Bool) → patterns.is_plain pattern ≡ true → r ≡ pointwise eqb pattern topic → r ≡ patterns.fits pattern topic
whole pattern topic r plain is =
    let same = slice_eq-Decides Decides-eqb pattern topic r is in
    both_ways r (patterns.fits pattern topic) (λ yes. subst (λ l. patterns.fits pattern l ≡ true) (same.0 yes) (plain_fits pattern plain)) (λ fit. same.1 (sym (plain_is pattern topic plain fit)))

-- ---- the relation

fills : (pattern topic : List ℕ) → patterns.fits pattern topic ≡ true → patterns.Fits pattern topic
fills [] topic fit = ([], nothing_left topic fit)
fills (octet ∷ pattern) topic fit = by (λ text more. fills pattern text more) (octet == patterns.star) refl fit
  where
    by : ((text : List ℕ) → patterns.fits pattern text ≡ true → patterns.Fits pattern text) → (b : Bool) → (octet == patterns.star) ≡ b
        → (if b then list_any (patterns.fits pattern) (patterns.ends_of topic) else patterns.begins_with octet (patterns.fits pattern) topic) ≡ true → patterns.Fits (octet ∷ pattern) topic
    by onward true is fit =
        let found = star_split pattern topic fit in
        let rest = onward found.1 found.3 in
        (found.0 ∷ rest.0, found.2 ∙ ap (λ l. found.0 ++ l) rest.1 ∙ sym (ap (λ (b : Bool). if b then found.0 ++ patterns.filled pattern rest.0 else octet ∷ patterns.filled pattern (found.0 ∷ rest.0)) is))
    by onward false is fit = at topic fit
      where
        with_octet : (fillings : List (List ℕ)) → octet ∷ patterns.filled pattern fillings ≡ patterns.filled (octet ∷ pattern) fillings
        with_octet [] = sym (ap (λ (b : Bool). if b then patterns.filled pattern [] else octet ∷ patterns.filled pattern []) is)
        with_octet (one ∷ fillings) = sym (ap (λ (b : Bool). if b then one ++ patterns.filled pattern fillings else octet ∷ patterns.filled pattern (one ∷ fillings)) is)

        at : (topic : List ℕ) → patterns.begins_with octet (patterns.fits pattern) topic ≡ true → patterns.Fits (octet ∷ pattern) topic
        at [] fit = clash fit
        at (x ∷ topic) fit =
            let both = and_parts (x == octet) (patterns.fits pattern topic) fit in
            let same : x ≡ octet = eqb-true x octet both.0 in
            let rest = onward topic both.1 in
            let behind : topic ≡ patterns.filled pattern rest.0 = rest.1 in
            let here : x ∷ topic ≡ octet ∷ patterns.filled pattern rest.0 = cc in
            (rest.0, here ∙ with_octet rest.0)

filled_fits : (pattern : List ℕ) (fillings : List (List ℕ)) → patterns.fits pattern (patterns.filled pattern fillings) ≡ true
filled_fits [] fillings = refl
filled_fits (octet ∷ pattern) [] = by (filled_fits pattern []) (octet == patterns.star)
  where
    by : patterns.fits pattern (patterns.filled pattern []) ≡ true → (b : Bool)
        → (if b then list_any (patterns.fits pattern) (patterns.ends_of (if b then patterns.filled pattern [] else octet ∷ patterns.filled pattern [])) else patterns.begins_with octet (patterns.fits pattern) (if b then patterns.filled pattern [] else octet ∷ patterns.filled pattern [])) ≡ true
    by onward true = star_here pattern (patterns.filled pattern []) onward
    by onward false = ap (λ b. b && patterns.fits pattern (patterns.filled pattern [])) (eq-eqb octet octet refl) ∙ onward
filled_fits (octet ∷ pattern) (one ∷ fillings) = by (filled_fits pattern fillings) (filled_fits pattern (one ∷ fillings)) (octet == patterns.star)
  where
    by : patterns.fits pattern (patterns.filled pattern fillings) ≡ true → patterns.fits pattern (patterns.filled pattern (one ∷ fillings)) ≡ true → (b : Bool)
        → (if b then list_any (patterns.fits pattern) (patterns.ends_of (if b then one ++ patterns.filled pattern fillings else octet ∷ patterns.filled pattern (one ∷ fillings))) else patterns.begins_with octet (patterns.fits pattern) (if b then one ++ patterns.filled pattern fillings else octet ∷ patterns.filled pattern (one ∷ fillings))) ≡ true
    by behind onward true = star_more pattern one (patterns.filled pattern fillings) (star_here pattern (patterns.filled pattern fillings) behind)
    by behind onward false = ap (λ b. b && patterns.fits pattern (patterns.filled pattern (one ∷ fillings))) (eq-eqb octet octet refl) ∙ onward

pub fits_as_filled : patterns.FitsAsFilled
fits_as_filled pattern topic = (fills pattern topic, λ (fillings, is). subst (λ l. patterns.fits pattern l ≡ true) (sym is) (filled_fits pattern fillings))
