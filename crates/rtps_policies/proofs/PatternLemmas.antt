-- Which names a pattern stands for, part by part.
use Rattle.std.proofs.Common.{◌≡◌, ◌∙◌, ℕ, ◌≤◌, ◌<◌, ◌-◌, ◌&&◌, ◌||◌, Bool, true, false, List, [], ◌∷◌, ◌++◌, Option, Some, None, append_assoc, ap, arith, drop, if◌then◌else◌, inl, inr, length, refl, subst, suc, sym, take, zero}
use Rattle.std.specs.Cmp.{both_ways}
use Rattle.std.specs.List.{list_any}
use Rattle.std.proofs.lemmas.Bool.{and_parts, false_from_ne_true, or_cases, or_left, or_right}
use Rattle.std.proofs.lemmas.List.{length-append, take-append-drop}
use Rattle.rtps_policies.specs.NamePatterns as name_patterns
use Rattle.rtps_policies.specs.Segments as segments

pub clash : {X : Type 0} → false ≡ true → X
clash e = absurd (let bad : false ≡ true = e in cc)

-- ---- the parts of a pattern

skipped : (count : ℕ) (pattern : List ℕ) → name_patterns.parts_behind count pattern ≡ name_patterns.parts_of (drop count pattern)
skipped zero [] = refl
skipped (suc count) [] = refl
skipped zero (octet ∷ pattern) = refl
skipped (suc count) (octet ∷ pattern) = skipped count pattern

-- the first part, and those of what is behind it
pub first_part : (octet : ℕ) (behind : List ℕ) → name_patterns.parts_of (octet ∷ behind) ≡ name_patterns.part_at octet behind ∷ name_patterns.parts_of (drop (name_patterns.size_at octet behind) behind)
first_part octet behind = ap (λ parts. name_patterns.part_at octet behind ∷ parts) (skipped (name_patterns.size_at octet behind) behind)

-- ---- parts that stand for one octet each

-- what fits behind these parts, if a name begins with them
abbrev pub fits_left : List name_patterns.PartValue → Option (List ℕ) → Bool
fits_left rest None = false
fits_left rest (Some left) = name_patterns.fits_parts rest left

pub fits_front : (parts rest : List name_patterns.PartValue) (name : List ℕ) → segments.AreFixed parts → name_patterns.fits_parts (parts ++ rest) name ≡ fits_left rest (segments.left_behind parts name)
fits_front [] rest name fixed = refl
fits_front (part ∷ parts) rest [] fixed = ap (λ (b : Bool). if b then list_any (name_patterns.fits_parts (parts ++ rest)) (name_patterns.ends_of []) else false) fixed.0
fits_front (part ∷ parts) rest (octet ∷ name) fixed =
    ap (λ (b : Bool). if b then list_any (name_patterns.fits_parts (parts ++ rest)) (name_patterns.ends_of (octet ∷ name)) else (name_patterns.accepts part octet && name_patterns.fits_parts (parts ++ rest) name)) fixed.0
    ∙ by (name_patterns.accepts part octet) (fits_front parts rest name fixed.1)
  where
    by : (b : Bool) → name_patterns.fits_parts (parts ++ rest) name ≡ fits_left rest (segments.left_behind parts name)
        → (b && name_patterns.fits_parts (parts ++ rest) name) ≡ fits_left rest (if b then segments.left_behind parts name else None)
    by true onward = onward
    by false onward = refl

-- one part more
pub left_more : (parts : List name_patterns.PartValue) (part : name_patterns.PartValue) (name : List ℕ) (octet : ℕ) (left : List ℕ) → segments.left_behind parts name ≡ Some (octet ∷ left) → name_patterns.accepts part octet ≡ true
    → segments.left_behind (parts ++ part ∷ []) name ≡ Some left
left_more [] part [] octet left is fit = absurd (let bad = is in cc)
left_more [] part (x ∷ name) octet left is fit =
    let same : x ≡ octet = cc in
    let rest : name ≡ left = cc in
    ap (λ (b : Bool). if b then Some name else None) (ap (name_patterns.accepts part) same ∙ fit) ∙ ap (λ l. Some l) rest
left_more (first ∷ parts) part [] octet left is fit = absurd (let bad = is in cc)
left_more (first ∷ parts) part (x ∷ name) octet left is fit = by (name_patterns.accepts first x) is (λ here. left_more parts part name octet left here fit)
  where
    by : (b : Bool) → (if b then segments.left_behind parts name else None) ≡ Some (octet ∷ left) → (segments.left_behind parts name ≡ Some (octet ∷ left) → segments.left_behind (parts ++ part ∷ []) name ≡ Some left)
        → (if b then segments.left_behind (parts ++ part ∷ []) name else None) ≡ Some left
    by true here onward = onward here
    by false here onward = absurd (let bad = here in cc)

pub left_refused : (parts : List name_patterns.PartValue) (part : name_patterns.PartValue) (name : List ℕ) (octet : ℕ) (left : List ℕ) → segments.left_behind parts name ≡ Some (octet ∷ left) → name_patterns.accepts part octet ≡ false
    → segments.left_behind (parts ++ part ∷ []) name ≡ None
left_refused [] part [] octet left is unfit = refl
left_refused [] part (x ∷ name) octet left is unfit =
    let same : x ≡ octet = cc in
    ap (λ (b : Bool). if b then Some name else None) (ap (name_patterns.accepts part) same ∙ unfit)
left_refused (first ∷ parts) part [] octet left is unfit = refl
left_refused (first ∷ parts) part (x ∷ name) octet left is unfit = by (name_patterns.accepts first x) is (λ here. left_refused parts part name octet left here unfit)
  where
    by : (b : Bool) → (if b then segments.left_behind parts name else None) ≡ Some (octet ∷ left) → (segments.left_behind parts name ≡ Some (octet ∷ left) → segments.left_behind (parts ++ part ∷ []) name ≡ None)
        → (if b then segments.left_behind (parts ++ part ∷ []) name else None) ≡ None
    by true here onward = onward here
    by false here onward = refl

pub left_short : (parts : List name_patterns.PartValue) (part : name_patterns.PartValue) (name : List ℕ) → segments.left_behind parts name ≡ Some [] → segments.left_behind (parts ++ part ∷ []) name ≡ None
left_short [] part [] is = refl
left_short [] part (x ∷ name) is = absurd (let bad = is in cc)
left_short (first ∷ parts) part [] is = refl
left_short (first ∷ parts) part (x ∷ name) is = by (name_patterns.accepts first x) is (λ here. left_short parts part name here)
  where
    by : (b : Bool) → (if b then segments.left_behind parts name else None) ≡ Some [] → (segments.left_behind parts name ≡ Some [] → segments.left_behind (parts ++ part ∷ []) name ≡ None)
        → (if b then segments.left_behind (parts ++ part ∷ []) name else None) ≡ None
    by true here onward = onward here
    by false here onward = refl

pub fixed_more : (parts : List name_patterns.PartValue) (part : name_patterns.PartValue) → segments.AreFixed parts → name_patterns.is_many part ≡ false → segments.AreFixed (parts ++ part ∷ [])
fixed_more [] part fixed one = (one, tt)
fixed_more (first ∷ parts) part fixed one = (fixed.0, fixed_more parts part fixed.1 one)

-- the octets that the parts stand for are as many as these
taken_octets : (parts : List name_patterns.PartValue) (name left : List ℕ) → segments.left_behind parts name ≡ Some left → (front : List ℕ) × (name ≡ front ++ left) × (length front ≡ length parts)
taken_octets [] name left is = ([], (let same : name ≡ left = cc in same), refl)
taken_octets (part ∷ parts) [] left is = absurd (let bad = is in cc)
taken_octets (part ∷ parts) (octet ∷ name) left is = by (name_patterns.accepts part octet) is (taken_octets parts name left)
  where
    by : (b : Bool) → (if b then segments.left_behind parts name else None) ≡ Some left
        → (segments.left_behind parts name ≡ Some left → (front : List ℕ) × (name ≡ front ++ left) × (length front ≡ length parts))
        → (front : List ℕ) × (octet ∷ name ≡ front ++ left) × (length front ≡ suc (length parts))
    by true here onward = let found = onward here in (octet ∷ found.0, ap (λ l. octet ∷ l) found.1, ap suc found.2)
    by false here onward = absurd (let bad = here in cc)

pub left_length : (parts : List name_patterns.PartValue) (name left : List ℕ) → segments.left_behind parts name ≡ Some left → length left ≤ length name
left_length parts name left is =
    let found = taken_octets parts name left is in
    omega (arith, ap length found.1, length-append found.0 left)

-- ---- a `*`

pub star_more : (parts : List name_patterns.PartValue) (front name : List ℕ) → name_patterns.fits_parts (name_patterns.PartValue.Many ∷ parts) name ≡ true → name_patterns.fits_parts (name_patterns.PartValue.Many ∷ parts) (front ++ name) ≡ true
star_more parts [] name fit = fit
star_more parts (x ∷ front) name fit = or_right (name_patterns.fits_parts parts (x ∷ (front ++ name))) (list_any (name_patterns.fits_parts parts) (name_patterns.ends_of (front ++ name))) (star_more parts front name fit)

star_here : (parts : List name_patterns.PartValue) (name : List ℕ) → name_patterns.fits_parts parts name ≡ true → name_patterns.fits_parts (name_patterns.PartValue.Many ∷ parts) name ≡ true
star_here parts [] fit = or_left (name_patterns.fits_parts parts []) false fit
star_here parts (x ∷ name) fit = or_left (name_patterns.fits_parts parts (x ∷ name)) (list_any (name_patterns.fits_parts parts) (name_patterns.ends_of name)) fit

pub star_split : (parts : List name_patterns.PartValue) (name : List ℕ) → name_patterns.fits_parts (name_patterns.PartValue.Many ∷ parts) name ≡ true → (front left : List ℕ) × (name ≡ front ++ left) × (name_patterns.fits_parts parts left ≡ true)
star_split parts [] fit = elim (or_cases (name_patterns.fits_parts parts []) false fit) [
  | inl here ↦ ([], [], refl, here)
  | inr there ↦ clash there
]
star_split parts (x ∷ name) fit = elim (or_cases (name_patterns.fits_parts parts (x ∷ name)) (list_any (name_patterns.fits_parts parts) (name_patterns.ends_of name)) fit) [
  | inl here ↦ ([], x ∷ name, refl, here)
  | inr there ↦ (let onward = star_split parts name there in (x ∷ onward.0, onward.1, ap (λ l. x ∷ l) onward.2, onward.3))
]

drop_front : (n : ℕ) (front rest : List ℕ) → n ≤ length front → drop n (front ++ rest) ≡ drop n front ++ rest
drop_front zero front rest le = refl
drop_front (suc n) [] rest le = absurd (omega arith)
drop_front (suc n) (x ∷ front) rest le = drop_front n front rest (omega arith)

drop_whole : (front rest : List ℕ) → drop (length front) (front ++ rest) ≡ rest
drop_whole [] rest = refl
drop_whole (x ∷ front) rest = drop_whole front rest

-- parts that are found at once are found as well as later
pub star_taken : (parts rest : List name_patterns.PartValue) (name left : List ℕ) → segments.AreFixed parts → segments.left_behind parts name ≡ Some left
    → name_patterns.fits_parts (name_patterns.PartValue.Many ∷ (parts ++ name_patterns.PartValue.Many ∷ rest)) name ≡ name_patterns.fits_parts (name_patterns.PartValue.Many ∷ rest) left
star_taken parts rest name left fixed is = both_ways _ _ onward back
  where
    later : (front other : List ℕ) → name ≡ front ++ other → name_patterns.fits_parts (parts ++ name_patterns.PartValue.Many ∷ rest) other ≡ true → name_patterns.fits_parts (name_patterns.PartValue.Many ∷ rest) left ≡ true
    later front other at fit = by (segments.left_behind parts other) refl (sym (fits_front parts (name_patterns.PartValue.Many ∷ rest) other fixed) ∙ fit)
      where
        by : (found : Option (List ℕ)) → segments.left_behind parts other ≡ found → fits_left (name_patterns.PartValue.Many ∷ rest) found ≡ true → name_patterns.fits_parts (name_patterns.PartValue.Many ∷ rest) left ≡ true
        by None here fit = clash fit
        by (Some behind) here fit =
            let first = taken_octets parts name left is in
            let second = taken_octets parts other behind here in
            let size = length-append front second.0 in
            let whole : name ≡ (front ++ second.0) ++ behind = at ∙ ap (λ l. front ++ l) second.1 ∙ sym (append_assoc front second.0 behind) in
            let same : left ≡ drop (length first.0) (front ++ second.0) ++ behind =
            sym (drop_whole first.0 left) ∙ ap (drop (length first.0)) (sym first.1 ∙ whole) ∙ drop_front (length first.0) (front ++ second.0) behind (omega (arith, first.2, second.2)) in
            subst (λ l. name_patterns.fits_parts (name_patterns.PartValue.Many ∷ rest) l ≡ true) (sym same) (star_more rest (drop (length first.0) (front ++ second.0)) behind fit)

    onward : name_patterns.fits_parts (name_patterns.PartValue.Many ∷ (parts ++ name_patterns.PartValue.Many ∷ rest)) name ≡ true → name_patterns.fits_parts (name_patterns.PartValue.Many ∷ rest) left ≡ true
    onward fit = let found = star_split (parts ++ name_patterns.PartValue.Many ∷ rest) name fit in later found.0 found.1 found.2 found.3

    back : name_patterns.fits_parts (name_patterns.PartValue.Many ∷ rest) left ≡ true → name_patterns.fits_parts (name_patterns.PartValue.Many ∷ (parts ++ name_patterns.PartValue.Many ∷ rest)) name ≡ true
    back fit = star_here (parts ++ name_patterns.PartValue.Many ∷ rest) name (fits_front parts (name_patterns.PartValue.Many ∷ rest) name fixed ∙ ap (fits_left (name_patterns.PartValue.Many ∷ rest)) is ∙ fit)

-- parts that do not stand here stand later or nowhere
pub star_passed : (parts : List name_patterns.PartValue) (x : ℕ) (name : List ℕ) → name_patterns.fits_parts parts (x ∷ name) ≡ false → name_patterns.fits_parts (name_patterns.PartValue.Many ∷ parts) (x ∷ name) ≡ name_patterns.fits_parts (name_patterns.PartValue.Many ∷ parts) name
star_passed parts x name unfit = ap (λ b. b || list_any (name_patterns.fits_parts parts) (name_patterns.ends_of name)) unfit

pub star_failed : (parts : List name_patterns.PartValue) → name_patterns.fits_parts parts [] ≡ false → name_patterns.fits_parts (name_patterns.PartValue.Many ∷ parts) [] ≡ false
star_failed parts unfit = ap (λ b. b || false) unfit

pub star_found : (parts : List name_patterns.PartValue) (name : List ℕ) → name_patterns.fits_parts parts name ≡ true → name_patterns.fits_parts (name_patterns.PartValue.Many ∷ parts) name ≡ true
star_found = star_here

-- ---- the last parts, behind a `*`

-- a name that parts stand for, each for one octet, has as many octets
fixed_length : (parts : List name_patterns.PartValue) (name : List ℕ) → segments.AreFixed parts → name_patterns.fits_parts parts name ≡ true → length name ≡ length parts
fixed_length [] [] fixed fit = refl
fixed_length [] (x ∷ name) fixed fit = clash fit
fixed_length (part ∷ parts) [] fixed fit =
    clash (sym (ap (λ (b : Bool). if b then list_any (name_patterns.fits_parts parts) (name_patterns.ends_of []) else false) fixed.0) ∙ fit)
fixed_length (part ∷ parts) (x ∷ name) fixed fit =
    let here : (name_patterns.accepts part x && name_patterns.fits_parts parts name) ≡ true =
    sym (ap (λ (b : Bool). if b then list_any (name_patterns.fits_parts parts) (name_patterns.ends_of (x ∷ name)) else (name_patterns.accepts part x && name_patterns.fits_parts parts name)) fixed.0) ∙ fit in
    let both = and_parts (name_patterns.accepts part x) (name_patterns.fits_parts parts name) here in
    ap suc (fixed_length parts name fixed.1 both.1)

pub star_last_short : (parts : List name_patterns.PartValue) (name : List ℕ) → segments.AreFixed parts → length name < length parts → name_patterns.fits_parts (name_patterns.PartValue.Many ∷ parts) name ≡ false
star_last_short parts name fixed less =
    false_from_ne_true (name_patterns.fits_parts (name_patterns.PartValue.Many ∷ parts) name) (λ fit.
    let found = star_split parts name fit in
    omega (arith, less, fixed_length parts found.1 fixed found.3, ap length found.2, length-append found.0 found.1))

pub star_last : (parts : List name_patterns.PartValue) (name : List ℕ) → segments.AreFixed parts → length parts ≤ length name
    → name_patterns.fits_parts (name_patterns.PartValue.Many ∷ parts) name ≡ name_patterns.fits_parts parts (drop (length name - length parts) name)
star_last parts name fixed room = both_ways _ _ onward back
  where
    onward : name_patterns.fits_parts (name_patterns.PartValue.Many ∷ parts) name ≡ true → name_patterns.fits_parts parts (drop (length name - length parts) name) ≡ true
    onward fit =
        let found = star_split parts name fit in
        let size : length name - length parts ≡ length found.0 =
        omega (arith, fixed_length parts found.1 fixed found.3, ap length found.2, length-append found.0 found.1) in
        ap (λ n. name_patterns.fits_parts parts (drop n name)) size ∙ ap (λ l. name_patterns.fits_parts parts (drop (length found.0) l)) found.2
        ∙ ap (name_patterns.fits_parts parts) (drop_whole found.0 found.1) ∙ found.3

    back : name_patterns.fits_parts parts (drop (length name - length parts) name) ≡ true → name_patterns.fits_parts (name_patterns.PartValue.Many ∷ parts) name ≡ true
    back fit =
        let n = length name - length parts in
        sym (ap (name_patterns.fits_parts (name_patterns.PartValue.Many ∷ parts)) (take-append-drop n name))
        ∙ star_more parts (take n name) (drop n name) (star_here parts (drop n name) fit)
