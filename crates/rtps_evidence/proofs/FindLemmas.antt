-- The first element of a list that passes a test, also where elements are left out that do not.
use Rattle.std.proofs.lemmas.Grind.{common_steps}
use Rattle.std.proofs.lemmas.Bool.Decides.{nat_tests}
use Rattle.std.proofs.Common.{◌≡◌, ◌==◌, ◌&&◌, ◌⊎◌, nat_lt, ℕ, ◌+◌, ◌<◌, ◌≤◌, Bool, true, false, ◌||◌, cond, List, [], ◌∷◌, ◌++◌, Option, length, map, filter, take, drop, get_or, max, Some, None, refl, sym, ap, ◌∙◌, arith}
use Rattle.std.specs.List.{find, list_any}
use Rattle.std.specs.Prelude.{is_some}
use Rattle.std.specs.Option.{option_map, option_or}
use Rattle.std.proofs.lemmas.List.{map-append, take_more, take-append-drop}
use Rattle.std.proofs.lemmas.List.Folds.{find-append, list_any-append}
use Rattle.rtps_audit.specs.Delivery as delivery
use Rattle.rtps_audit.proofs.Offered.{greatest-append}

find_past : {X : Type 0} (test : X → Bool) (x : X) (keeps : Bool) (xs : List X) → (test x ≡ true → keeps ≡ true) → find test (cond keeps (x ∷ xs) xs) ≡ cond (test x) (Some x) (find test xs)
find_past test x keeps xs h = grind (arith, nat_tests)

pub find_filter : {X : Type 0} (test keeps : X → Bool) → ((x : X) → test x ≡ true → keeps x ≡ true) → (xs : List X) → find test (filter keeps xs) ≡ find test xs
find_filter test keeps h [] = refl
find_filter test keeps h (x ∷ xs) = find_past test x (keeps x) (filter keeps xs) (h x) ∙ ap (λ o. cond (test x) (Some x) o) (find_filter test keeps h xs)

any_kept : {X : Type 0} (test : X → Bool) (x : X) (keeps : Bool) (xs : List X) → (test x ≡ true → keeps ≡ true) → list_any test (cond keeps (x ∷ xs) xs) ≡ (test x || list_any test xs)
any_kept test x keeps xs h = grind (arith, nat_tests)

pub any_filter : {X : Type 0} (test keeps : X → Bool) → ((x : X) → test x ≡ true → keeps x ≡ true) → (xs : List X) → list_any test (filter keeps xs) ≡ list_any test xs
any_filter test keeps h [] = refl
any_filter test keeps h (x ∷ xs) = any_kept test x (keeps x) (filter keeps xs) (h x) ∙ ap (λ b. test x || b) (any_filter test keeps h xs)

-- ---- one after another

or_none : {X : Type 0} (o : Option X) → option_or o None ≡ o
or_none None = refl
or_none (Some x) = refl

find_more : {X Y : Type 0} (v : X → Y) (test : Y → Bool) (xs : List X) (i : ℕ) (d : X) → i < length xs → find test (map v (take i xs)) ≡ None → find test (map v (take (i + 1) xs)) ≡ cond (test (v (get_or xs i d))) (Some (v (get_or xs i d))) None
find_more v test xs i d lt none = grind (arith, nat_tests, common_steps, take_more, map-append, find-append)

pub none_yet : {X Y : Type 0} (v : X → Y) (test : Y → Bool) (xs : List X) (i : ℕ) (d : X) → i < length xs → find test (map v (take i xs)) ≡ None → test (v (get_or xs i d)) ≡ false → find test (map v (take (i + 1) xs)) ≡ None
none_yet v test xs i d lt none not = find_more v test xs i d lt none ∙ ap (λ b. cond b (Some (v (get_or xs i d))) None) not

pub found_here : {X Y : Type 0} (v : X → Y) (test : Y → Bool) (xs : List X) (i : ℕ) (d : X) → i < length xs → find test (map v (take i xs)) ≡ None → test (v (get_or xs i d)) ≡ true → find test (map v xs) ≡ Some (v (get_or xs i d))
found_here v test xs i d lt none is =
    ap (λ l. find test (map v l)) (sym (take-append-drop (i + 1) xs))
    ∙ ap (find test) (map-append v (take (i + 1) xs) (drop (i + 1) xs))
    ∙ find-append test (map v (take (i + 1) xs)) (map v (drop (i + 1) xs))
    ∙ ap (λ o. option_or o (find test (map v (drop (i + 1) xs)))) (find_more v test xs i d lt none ∙ ap (λ b. cond b (Some (v (get_or xs i d))) None) is)

-- whether one passes, with one element more
pub any_more : {X Y : Type 0} (v : X → Y) (test : Y → Bool) (xs : List X) (i : ℕ) (d : X) → i < length xs → list_any test (map v (take (i + 1) xs)) ≡ (list_any test (map v (take i xs)) || test (v (get_or xs i d)))
any_more v test xs i d lt = grind (arith, nat_tests, common_steps)

-- ---- the element at hand

pub none_past : {X Y : Type 0} (v : X → Y) (test : Y → Bool) (xs : List X) (i : ℕ) (x : X) → i < length xs → x ≡ get_or xs i x → find test (map v (take i xs)) ≡ None → test (v x) ≡ false → find test (map v (take (i + 1) xs)) ≡ None
none_past v test xs i x lt at none not = none_yet v test xs i x lt none (ap (λ y. test (v y)) (sym at) ∙ not)

pub found_item : {X Y : Type 0} (v : X → Y) (test : Y → Bool) (xs : List X) (i : ℕ) (x : X) → i < length xs → x ≡ get_or xs i x → find test (map v (take i xs)) ≡ None → test (v x) ≡ true → find test (map v xs) ≡ Some (v x)
found_item v test xs i x lt at none is = found_here v test xs i x lt none (ap (λ y. test (v y)) (sym at) ∙ is) ∙ ap (λ y. Some (v y)) (sym at)

pub any_past : {X Y : Type 0} (v : X → Y) (test : Y → Bool) (xs : List X) (i : ℕ) (x : X) → i < length xs → x ≡ get_or xs i x → list_any test (map v (take (i + 1) xs)) ≡ (list_any test (map v (take i xs)) || test (v x))
any_past v test xs i x lt at = any_more v test xs i x lt ∙ ap (λ y. list_any test (map v (take i xs)) || test (v y)) (sym at)

pub any_found : {X Y : Type 0} (v : X → Y) (test : Y → Bool) (xs : List X) (i : ℕ) (x : X) → i < length xs → x ≡ get_or xs i x → test (v x) ≡ true → list_any test (map v xs) ≡ true
any_found v test xs i x lt at is =
    ap (λ l. list_any test (map v l)) (sym (take-append-drop (i + 1) xs))
    ∙ ap (list_any test) (map-append v (take (i + 1) xs) (drop (i + 1) xs))
    ∙ list_any-append test (map v (take (i + 1) xs)) (map v (drop (i + 1) xs))
    ∙ ap (λ b. b || list_any test (map v (drop (i + 1) xs))) (any_past v test xs i x lt at ∙ ap (λ b. list_any test (map v (take i xs)) || b) is ∙ always (list_any test (map v (take i xs))))
  where
    always : (b : Bool) → (b || true) ≡ true
    always true = refl
    always false = refl

-- whether one passes, with one element more
pub any_one_more : {X : Type 0} (test : X → Bool) (xs : List X) (x : X) → list_any test (xs ++ x ∷ []) ≡ (list_any test xs || test x)
any_one_more test xs x = list_any-append test xs (x ∷ []) ∙ ap (λ b. list_any test xs || b) (or_no (test x))
  where
    or_no : (b : Bool) → (b || false) ≡ b
    or_no true = refl
    or_no false = refl

-- ---- what is made of the first that passes, with one element more

pub some_mapped : {X Y : Type 0} (make : X → Y) (o : Option X) → is_some (option_map make o) ≡ is_some o
some_mapped make None = refl
some_mapped make (Some x) = refl

-- once it is found, it stays
pub first_stays : {X Y : Type 0} (make : X → Y) (test : X → Bool) (xs ys : List X) (found : Option Y) → is_some found ≡ true → found ≡ option_map make (find test xs) → found ≡ option_map make (find test (xs ++ ys))
first_stays make test xs ys found there is = by (find test xs) refl is
  where
    by : (o : Option _) → find test xs ≡ o → found ≡ option_map make o → found ≡ option_map make (find test (xs ++ ys))
    by None at is = absurd (let no : false ≡ true = ap is_some (sym is) ∙ there in cc)
    by (Some y) at is = is ∙ sym (ap (option_map make) (find-append test xs ys ∙ ap (λ o. option_or o (find test ys)) at))

pub first_kept : {X Y : Type 0} (make : X → Y) (test : X → Bool) (xs : List X) (x : X) (found : Option Y) → is_some found ≡ true → found ≡ option_map make (find test xs) → found ≡ option_map make (find test (xs ++ x ∷ []))
first_kept make test xs x found there is = first_stays make test xs (x ∷ []) found there is

pub first_passed : {X Y : Type 0} (make : X → Y) (test : X → Bool) (xs : List X) (x : X) (found : Option Y) → test x ≡ false → found ≡ option_map make (find test xs) → found ≡ option_map make (find test (xs ++ x ∷ []))
first_passed make test xs x found out is = is ∙ ap (option_map make) (sym (find-append test xs (x ∷ []) ∙ ap (λ b. option_or (find test xs) (cond b (Some x) None)) out ∙ or_none (find test xs)))

pub first_noted : {X Y : Type 0} (make : X → Y) (test : X → Bool) (xs : List X) (x : X) (found : Option Y) → is_some found ≡ false → test x ≡ true → found ≡ option_map make (find test xs) → Some (make x) ≡ option_map make (find test (xs ++ x ∷ []))
first_noted make test xs x found none passes is = by (find test xs) refl is
  where
    by : (o : Option _) → find test xs ≡ o → found ≡ option_map make o → Some (make x) ≡ option_map make (find test (xs ++ x ∷ []))
    by None at is = sym (ap (option_map make) (find-append test xs (x ∷ []) ∙ ap (λ o. option_or o (find test (x ∷ []))) at ∙ ap (λ b. cond b (Some x) None) passes))
    by (Some y) at is = absurd (let no : true ≡ false = ap is_some (sym is) ∙ none in cc)

-- the elements up to a place, and those behind it
pub whole_taken : {X Y : Type 0} (v : X → Y) (xs : List X) (i : ℕ) → map v (take i xs) ++ map v (drop i xs) ≡ map v xs
whole_taken v xs i = sym (map-append v (take i xs) (drop i xs)) ∙ ap (map v) (take-append-drop i xs)

pub first_settled : {X Y Z : Type 0} (make : Y → Z) (v : X → Y) (test : Y → Bool) (xs : List X) (i : ℕ) (found : Option Z) → is_some found ≡ true → found ≡ option_map make (find test (map v (take i xs))) → found ≡ option_map make (find test (map v xs))
first_settled make v test xs i found there is = first_stays make test (map v (take i xs)) (map v (drop i xs)) found there is ∙ ap (λ l. option_map make (find test l)) (whole_taken v xs i)

-- ---- the greatest of what is made of each

pub greatest_more : {X : Type 0} (number : X → ℕ) (xs : List X) (x : X) → delivery.greatest (map number (xs ++ x ∷ [])) ≡ max (delivery.greatest (map number xs)) (number x)
greatest_more number xs x = grind (arith, nat_tests, common_steps, map-append, greatest-append)

pub greatest_past : {X Y : Type 0} (v : X → Y) (number : Y → ℕ) (xs : List X) (i : ℕ) (x : X) → i < length xs → x ≡ get_or xs i x → delivery.greatest (map number (map v (take (i + 1) xs))) ≡ max (delivery.greatest (map number (map v (take i xs)))) (number (v x))
greatest_past v number xs i x lt at = grind (arith, nat_tests, common_steps, take_more, map-append, greatest-append)

pub greatest_of_each : {X : Type 0} (number : X → ℕ) (xs : List X) (i : ℕ) (d : X) → i < length xs → delivery.greatest (map number (take (i + 1) xs)) ≡ max (delivery.greatest (map number (take i xs))) (number (get_or xs i d))
greatest_of_each number xs i d lt = grind (arith, nat_tests, common_steps, take_more, map-append, greatest-append)

-- ---- tests of two numbers

pub differ : (a b : ℕ) → (a ≡ b → ⊥) → (a == b) ≡ false
differ a b h = grind (arith, nat_tests)

pub claims_it : (a b n base : ℕ) → a ≡ b → n < base → ((a == b) && nat_lt n base) ≡ true
claims_it a b n base e lt = grind (arith, nat_tests)

pub claims_not : (a b n base : ℕ) → (a ≡ b × base ≤ n) ⊎ (a ≡ b → ⊥) → ((a == b) && nat_lt n base) ≡ false
claims_not a b n base h = grind (arith, nat_tests)
