-- Lemmas on lists of ranges.
use Rattle.std.proofs.Common.{ℕ, Bool, true, false, cond, ◌≡◌, ◌≤◌, ◌<◌, ◌^◌, ◌&&◌, ◌||◌, nat_le, nat_lt, List, [], ◌∷◌, ◌++◌, take, Some, All, refl, ap, ◌∙◌, subst, arith}
use Rattle.std.specs.Prelude.{is_some}
use Rattle.std.specs.List.{list_any, find, filter}
use Rattle.std.proofs.Math.Bool.{or-false}
use Rattle.std.proofs.lemmas.List.Folds.{list_any-append}
use Rattle.std.proofs.lemmas.List.Elements.{All-head, All-tail, All-cons}
use Rattle.std.proofs.lemmas.Bool.{or_right}
use Rattle.std.proofs.lemmas.Bool.Decides.{nat_tests}
use Rattle.rtps_coverage.specs.declared.stretch.Stretch.{Stretch}
use Rattle.rtps_coverage.specs.Coverage as coverage
use Rattle.rtps_coverage.specs.Stretches as stretches_spec

-- some range has a number where a first one that has it is found
pub list_any-find : (p : Stretch → Bool) (stretches : List Stretch) → list_any p stretches ≡ is_some (find p stretches)
list_any-find p [] = refl
list_any-find p (x ∷ xs) =
    elim (p x) as (λ b. (b || list_any p xs) ≡ is_some (cond b (Some x) (find p xs))) [
      | true ↦ refl
      | false ↦ list_any-find p xs
    ]

-- no range of positive numbers has 0
none_has_zero : (stretches : List Stretch) → All stretches_spec.IsBounded stretches → list_any (stretches_spec.stretch_has 0) stretches ≡ false
none_has_zero [] h = refl
none_has_zero (x ∷ xs) h =
    let here : stretches_spec.IsBounded x = All-head stretches_spec.IsBounded x xs h in
    let rest = none_has_zero xs (All-tail stretches_spec.IsBounded x xs h) in
    step x.lo x.hi here.positive (list_any (stretches_spec.stretch_has 0) xs) rest
  where
    step : (lo hi : ℕ) → 1 ≤ lo → (b : Bool) → b ≡ false → ((nat_le lo 0 && nat_lt 0 hi) || b) ≡ false
    step lo hi h b e = grind (arith, nat_tests)

-- one range that has not the front: it is kept where it has a number from the front on
one_stretch : (front n lo hi : ℕ) (here kept all : Bool) → front ≤ n → kept ≡ all
    → ((nat_le lo front && nat_lt front hi) || here) ≡ false
    → cond (nat_lt front lo) ((nat_le lo n && nat_lt n hi) || kept) kept ≡ ((nat_le lo n && nat_lt n hi) || all)
one_stretch front n lo hi here kept all le e none = grind (arith, nat_tests)

-- where neither of two tests holds, the second does not
right_false : (a b : Bool) → (a || b) ≡ false → b ≡ false
right_false true b h = absurd (grind arith)
right_false false b h = h

-- a list with or without its first range
any_cond : (n : ℕ) (b : Bool) (x : Stretch) (xs : List Stretch) → list_any (stretches_spec.stretch_has n) (cond b (x ∷ xs) xs) ≡ cond b (stretches_spec.stretch_has n x || list_any (stretches_spec.stretch_has n) xs) (list_any (stretches_spec.stretch_has n) xs)
any_cond n true x xs = refl
any_cond n false x xs = refl

-- the ranges that begin past a number which none of them has: from that number on they have what all have
pub any-filter_past : (front n : ℕ) (stretches : List Stretch) → front ≤ n → list_any (stretches_spec.stretch_has front) stretches ≡ false
    → list_any (stretches_spec.stretch_has n) (filter (λ stretch. nat_lt front stretch.lo) stretches) ≡ list_any (stretches_spec.stretch_has n) stretches
any-filter_past front n [] le none = refl
any-filter_past front n (x ∷ xs) le none =
    let rest = any-filter_past front n xs le (right_false (stretches_spec.stretch_has front x) _ none) in
    any_cond n (nat_lt front x.lo) x (filter (λ stretch. nat_lt front stretch.lo) xs)
    ∙ one_stretch front n x.lo x.hi (list_any (stretches_spec.stretch_has front) xs) _ _ le rest none

-- a range that has the number, one of the ranges
pub record IsFound (n : ℕ) (stretches : List Stretch) (stretch : Stretch) : Type 0 where
  pub from : stretch.lo ≤ n
  pub to : n < stretch.hi
  pub bounded : stretch.hi < 2 ^ 63
  pub among : (m : ℕ) → stretch.lo ≤ m → m < stretch.hi → list_any (stretches_spec.stretch_has m) stretches ≡ true

-- a number that a range has lies in it
in_stretch : (n lo hi : ℕ) → (nat_le lo n && nat_lt n hi) ≡ true → (lo ≤ n) × (n < hi)
in_stretch n lo hi h = (grind (arith, nat_tests), grind (arith, nat_tests))

-- the first range has each number that lies in it
first_has : (m lo hi : ℕ) (b : Bool) → lo ≤ m → m < hi → ((nat_le lo m && nat_lt m hi) || b) ≡ true
first_has m lo hi b h k = grind (arith, nat_tests)

-- the first range is found, or one behind it
found_at : (n : ℕ) (x stretch : Stretch) (xs : List Stretch) (b : Bool) → stretches_spec.stretch_has n x ≡ b → stretches_spec.IsBounded x → cond b (Some x) (find (stretches_spec.stretch_has n) xs) ≡ Some stretch
    → (find (stretches_spec.stretch_has n) xs ≡ Some stretch → IsFound n xs stretch) → IsFound n (x ∷ xs) stretch
found_at n x stretch xs true has bounded e rest =
    let same : x ≡ stretch = cc in
    subst (IsFound n (x ∷ xs)) same (record {
      from = (in_stretch n x.lo x.hi has).0;
      to = (in_stretch n x.lo x.hi has).1;
      bounded = bounded.bounded;
      among = λ m h k. first_has m x.lo x.hi (list_any (stretches_spec.stretch_has m) xs) h k;
    })
found_at n x stretch xs false has bounded e rest =
    let found = rest e in record {
      from = found.from;
      to = found.to;
      bounded = found.bounded;
      among = λ m h k. or_right (stretches_spec.stretch_has m x) _ (found.among m h k);
    }

-- what the search finds
pub find_tells : (n : ℕ) (stretches : List Stretch) (stretch : Stretch) → All stretches_spec.IsBounded stretches → find (stretches_spec.stretch_has n) stretches ≡ Some stretch → IsFound n stretches stretch
find_tells n [] stretch h e = cc
find_tells n (x ∷ xs) stretch h e =
    found_at n x stretch xs (stretches_spec.stretch_has n x) refl (All-head stretches_spec.IsBounded x xs h) e (λ k. find_tells n xs stretch (All-tail stretches_spec.IsBounded x xs h) k)

-- bounded ranges of which some are left out
pub All-filter : (p : Stretch → Bool) (stretches : List Stretch) → All stretches_spec.IsBounded stretches → All stretches_spec.IsBounded (filter p stretches)
All-filter p [] h = h
All-filter p (x ∷ xs) h =
    kept (p x) (All-filter p xs (All-tail stretches_spec.IsBounded x xs h))
  where
    kept : (b : Bool) → All stretches_spec.IsBounded (filter p xs) → All stretches_spec.IsBounded (cond b (x ∷ filter p xs) (filter p xs))
    kept true k = All-cons stretches_spec.IsBounded x (filter p xs) (All-head stretches_spec.IsBounded x xs h) k
    kept false k = k

-- one number, where the front moves from `front` to `reached`
tests_join : (front lo hi reached n : ℕ) (all kept : Bool) → 1 ≤ lo → lo ≤ front → front < hi → hi ≤ reached
    → (n ≡ 0 → all ≡ false) → (n ≡ 0 → kept ≡ false) → (hi ≤ n → n < reached → all ≡ true) → (reached ≤ n → kept ≡ all)
    → ((nat_le 1 n && nat_lt n reached) || kept) ≡ (((nat_le 1 n && nat_lt n front) || all) || (nat_le lo n && nat_lt n hi))
tests_join front lo hi reached n all kept a b c d e f g h = grind (arith, nat_tests)

-- the set after a range that begins at the front or below, and ends past it
pub joins_front : (front lo hi reached : ℕ) (stretches : List Stretch) → 1 ≤ lo → lo ≤ front → front < hi → All stretches_spec.IsBounded stretches → coverage.IsLeastFrom (stretches_spec.stretches_have stretches) hi reached → (n : ℕ)
    → ((nat_le 1 n && nat_lt n reached) || list_any (stretches_spec.stretch_has n) (filter (λ stretch. nat_lt reached stretch.lo) stretches)) ≡ (((nat_le 1 n && nat_lt n front) || list_any (stretches_spec.stretch_has n) stretches) || (nat_le lo n && nat_lt n hi))
joins_front front lo hi reached stretches a b c bounded r n =
    let kept = filter (λ stretch. nat_lt reached stretch.lo) stretches in
    tests_join front lo hi reached n (list_any (stretches_spec.stretch_has n) stretches) (list_any (stretches_spec.stretch_has n) kept) a b c r.onward
    (λ e. rw e (none_has_zero stretches bounded))
    (λ e. rw e (none_has_zero kept (All-filter _ stretches bounded)))
    (λ h k. r.between n h k)
    (λ h. any-filter_past reached n stretches h r.outside)

-- ---- lists of stretches

-- the numbers where a stretch is appended
pub has_one_more : (old new : List Stretch) (lo hi n : ℕ) → new ≡ old ++ record { lo = lo; hi = hi } ∷ [] → stretches_spec.stretches_have new n ≡ (stretches_spec.stretches_have old n || (nat_le lo n && nat_lt n hi))
has_one_more old new lo hi n is =
    ap (λ l. stretches_spec.stretches_have l n) is ∙ list_any-append (λ (s : Stretch). nat_le s.lo n && nat_lt n s.hi) old (record { lo = lo; hi = hi } ∷ [])
    ∙ ap (λ b. stretches_spec.stretches_have old n || b) (or-false (nat_le lo n && nat_lt n hi))

-- of the first `i` stretches, this is the least number from `from` on and below `end`, or `end`
pub record IsLeastSo (stretches : List Stretch) (from end i least : ℕ) : Type 0 where
  pub onward : from ≤ least
  pub within : least ≤ end
  pub below : (n : ℕ) → from ≤ n → n < least → stretches_spec.stretches_have (take i stretches) n ≡ false
  pub inside : least < end → stretches_spec.stretches_have (take i stretches) least ≡ true
