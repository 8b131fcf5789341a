-- The last requests for numbers, one act more at a time.
use Rattle.std.proofs.lemmas.Grind.{common_steps}
use Rattle.std.proofs.Common.{◌≡◌, ◌∙◌, ℕ, ◌+◌, ◌-◌, ◌^◌, ◌<◌, ◌≤◌, ◌==◌, ◌&&◌, ◌||◌, Bool, true, false, cond, nat_le, nat_lt, filter, get_or, length, map, take, List, [], ◌∷◌, ◌++◌, Option, Some, None, refl, sym, ap, arith}
use Rattle.std.specs.List.{last_or, list_any}
use Rattle.std.specs.Map.{lookup}
use Rattle.std.specs.Option.{option_map}
use Rattle.std.specs.Ordering.{is_eq, nat_cmp}
use Rattle.std.specs.Prelude.{All, min}
use Rattle.std.proofs.lemmas.Bool.Decides.{nat_tests}
use Rattle.std.proofs.lemmas.List.{map-append, take_more}
use Rattle.std.proofs.lemmas.List.Elements.{All-head, All-tail}
use Rattle.std.proofs.lemmas.List.Folds.{list_any-append}
use Rattle.rtps_discovery.specs.declared.matching.Pair.{Pair}
use Rattle.rtps_audit.specs.Placed as placed
use Rattle.rtps_audit.specs.declared.placed.Placed.{Placed}
use Rattle.rtps_evidence.specs.Locations as locations
use Rattle.rtps_evidence.specs.Missed as missed
use Rattle.rtps_evidence.specs.Requests as requests
use Rattle.rtps_evidence.specs.declared.location.Location.{Location}
use Rattle.rtps_evidence.specs.declared.missed_numbers.Request.{Request}

-- ---- the keys of the map are numbers

pub is_key : (a b : ℕ) → is_eq (nat_cmp a b) ≡ (a == b)
is_key a b = grind (arith, nat_tests)

pub put_one : (old new : Option Request) (x : Request) (number n : ℕ) (lacks : ℕ → Bool) → lacks number ≡ true → new ≡ cond (is_eq (nat_cmp number n)) (Some x) old → new ≡ cond ((number == n) && lacks n) (Some x) old
put_one old new x number n lacks is put = grind (arith, nat_tests)

pub put_none : (old : Option Request) (x : Request) (number n : ℕ) (lacks : ℕ → Bool) → lacks number ≡ false → old ≡ cond ((number == n) && lacks n) (Some x) old
put_none old x number n lacks is = grind (arith, nat_tests)

pub range_more : (lo i n : ℕ) → lo ≤ i → (nat_le lo n && nat_lt n (i + 1)) ≡ ((nat_le lo n && nat_lt n i) || (i == n))
range_more lo i n le = grind (arith, nat_tests)

pub none_so_far : (n : ℕ) (member lacks : Bool) (old : Option Request) (x : Request) → old ≡ cond ((member && nat_lt n 0) && lacks) (Some x) old
none_so_far n member lacks old x = grind (arith, nat_tests)

-- ---- the requests of a reader's acts

-- a list with the element at hand
pub taken_more : (acts : List Placed) (i : ℕ) (x : Placed) → i < length acts → x ≡ get_or acts i x → map placed.placed_value (take (i + 1) acts) ≡ map placed.placed_value (take i acts) ++ placed.placed_value x ∷ []
taken_more acts i x lt at = ap (map placed.placed_value) (take_more acts i x lt) ∙ map-append placed.placed_value (take i acts) (get_or acts i x ∷ []) ∙ ap (λ y. map placed.placed_value (take i acts) ++ placed.placed_value y ∷ []) (sym at)

last_of_more : (test : placed.PlacedValue → Bool) (xs : List placed.PlacedValue) (x : placed.PlacedValue) → locations.find_last test (xs ++ x ∷ []) ≡ cond (test x) (Some x) (locations.find_last test xs)
last_of_more test xs x = ap (last_or None) (filtered xs) ∙ by (test x)
  where
    filtered : (ys : List placed.PlacedValue) → filter test (ys ++ x ∷ []) ≡ filter test ys ++ cond (test x) (x ∷ []) []
    filtered [] = refl
    filtered (y ∷ ys) = ap (λ l. cond (test y) (y ∷ l) l) (filtered ys) ∙ pushed (test y)
      where
        pushed : (b : Bool) → cond b (y ∷ (filter test ys ++ cond (test x) (x ∷ []) [])) (filter test ys ++ cond (test x) (x ∷ []) []) ≡ cond b (y ∷ filter test ys) (filter test ys) ++ cond (test x) (x ∷ []) []
        pushed true = refl
        pushed false = refl

    last_pushed : (before : Option placed.PlacedValue) (ys : List placed.PlacedValue) → last_or before (ys ++ x ∷ []) ≡ Some x
    last_pushed before [] = refl
    last_pushed before (y ∷ ys) = last_pushed (Some y) ys

    same_list : (ys : List placed.PlacedValue) → ys ++ [] ≡ ys
    same_list [] = refl
    same_list (y ∷ ys) = ap (λ l. y ∷ l) (same_list ys)

    by : (b : Bool) → last_or None (filter test xs ++ cond b (x ∷ []) []) ≡ cond b (Some x) (last_or None (filter test xs))
    by true = last_pushed None (filter test xs)
    by false = ap (last_or None) (same_list (filter test xs))

-- where the last one stands that passes, with one act more
pub last_noted : (test : placed.PlacedValue → Bool) (acts : List placed.PlacedValue) (x : placed.PlacedValue) → test x ≡ true → Some (locations.location_of x) ≡ option_map locations.location_of (locations.find_last test (acts ++ x ∷ []))
last_noted test acts x is = sym (ap (option_map locations.location_of) (last_of_more test acts x ∙ ap (λ b. cond b (Some x) (locations.find_last test acts)) is))

pub last_passed : (test : placed.PlacedValue → Bool) (acts : List placed.PlacedValue) (x : placed.PlacedValue) (last : Option Location) → test x ≡ false → last ≡ option_map locations.location_of (locations.find_last test acts) → last ≡ option_map locations.location_of (locations.find_last test (acts ++ x ∷ []))
last_passed test acts x last out is = is ∙ sym (ap (option_map locations.location_of) (last_of_more test acts x ∙ ap (λ b. cond b (Some x) (locations.find_last test acts)) out))

pub requested_more : (pair : Pair) (xs : List placed.PlacedValue) (x : placed.PlacedValue) (lacks : ℕ → Bool) (n : ℕ)
    → cond (missed.asks_for pair.writer pair.reader n x && lacks n) (Some (requests.new_request (locations.location_of x))) (requests.requested pair xs lacks n) ≡ requests.requested pair (xs ++ x ∷ []) lacks n
requested_more pair xs x lacks n = grind (arith, nat_tests, common_steps, last_of_more)

-- ---- what a writer's acts bring

or_no : (b : Bool) → (b || false) ≡ b
or_no b = grind (arith, nat_tests)

-- behind an act that brings the number, and behind one that does not
met_true : (m k a : Bool) → ((m || k) || a) ≡ (m || (k || ((a && true) || false)))
met_true m k a = grind (arith, nat_tests)

met_false : (m k a : Bool) → (m || k) ≡ (m || (k || ((a && false) || false)))
met_false m k a = grind (arith, nat_tests)

again_true : (m k a b : Bool) → ((m || k) || (a && b)) ≡ (m || (k || ((a && (b && true)) || false)))
again_true m k a b = grind (arith, nat_tests)

again_false : (m k a b : Bool) → (m || k) ≡ (m || (k || ((a && (b && false)) || false)))
again_false m k a b = grind (arith, nat_tests)

pub met_more : (since : Option Location) (pair : Pair) (n : ℕ) (xs : List placed.PlacedValue) (x : placed.PlacedValue) (old : Option Request)
    → option_map (requests.met_by since pair n x) (option_map (requests.met_among since pair n xs) old) ≡ option_map (requests.met_among since pair n (xs ++ x ∷ [])) old
met_more since pair n xs x None = refl
met_more since pair n xs x (Some request) =
    ap Some (by (missed.brings pair.writer pair.reader n x)
    ∙ sym (ap (λ m. so (request.is_met || m) (request.is_again || list_any again (xs ++ x ∷ []))) (list_any-append met xs (x ∷ []))
    ∙ ap (λ m. so (request.is_met || (list_any met xs || (met x || false))) (request.is_again || m)) (list_any-append again xs (x ∷ []))))
  where
    so : Bool → Bool → Request
    so m a = record { place = request.place; is_met = m; is_again = a }

    met : placed.PlacedValue → Bool
    met = missed.brings_behind (Some request.place) pair.writer pair.reader n

    again : placed.PlacedValue → Bool
    again = missed.brings_before since request.place pair.writer pair.reader n

    by : (b : Bool) → cond b (requests.met_at since x (requests.met_among since pair n xs request)) (requests.met_among since pair n xs request)
        ≡ so (request.is_met || (list_any met xs || ((locations.is_behind (Some request.place) x && b) || false))) (request.is_again || (list_any again xs || ((locations.is_before request.place x && (locations.is_behind since x && b)) || false)))
    by true =
        ap (λ m. so m ((request.is_again || list_any again xs) || (locations.is_before request.place x && locations.is_behind since x))) (met_true request.is_met (list_any met xs) (locations.is_behind (Some request.place) x))
        ∙ ap (λ a. so (request.is_met || (list_any met xs || ((locations.is_behind (Some request.place) x && true) || false))) a) (again_true request.is_again (list_any again xs) (locations.is_before request.place x) (locations.is_behind since x))
    by false =
        ap (λ m. so m (request.is_again || list_any again xs)) (met_false request.is_met (list_any met xs) (locations.is_behind (Some request.place) x))
        ∙ ap (λ a. so (request.is_met || (list_any met xs || ((locations.is_behind (Some request.place) x && false) || false))) a) (again_false request.is_again (list_any again xs) (locations.is_before request.place x) (locations.is_behind since x))

-- ---- the numbers that are asked for in vain

-- some of these entries has n, and is in vain
abbrev pub some_in_vain : List (ℕ × Request) → ℕ → Bool
some_in_vain entries n = list_any (λ (entry : ℕ × Request). requests.is_in_vain entry.1 && (entry.0 == n)) entries

-- each entry is found by its key
abbrev pub AreFound : (ℕ → Option Request) → List (ℕ × Request) → Type 0
AreFound find entries = All (λ (entry : ℕ × Request). find entry.0 ≡ Some entry.1) entries

-- where what is found for n is not in vain, no entry says that n is
none_in_vain : (find : ℕ → Option Request) (entries : List (ℕ × Request)) (n : ℕ) → AreFound find entries → requests.option_any requests.is_in_vain (find n) ≡ false → some_in_vain entries n ≡ false
none_in_vain find [] n found out = refl
none_in_vain find (entry ∷ entries) n found out =
    by (entry.0 == n) refl ∙ none_in_vain find entries n (All-tail (λ (e : ℕ × Request). find e.0 ≡ Some e.1) entry entries found) out
  where
    and_no : (b : Bool) → (b && false) ≡ false
    and_no true = refl
    and_no false = refl

    by : (b : Bool) → (entry.0 == n) ≡ b → ((requests.is_in_vain entry.1 && (entry.0 == n)) || some_in_vain entries n) ≡ some_in_vain entries n
    by true at =
        let same : entry.0 ≡ n = grind (arith, nat_tests, at) in
        let here : find n ≡ Some entry.1 = sym (ap find same) ∙ All-head (λ (e : ℕ × Request). find e.0 ≡ Some e.1) entry entries found in
        let not_in_vain : requests.is_in_vain entry.1 ≡ false = sym (ap (requests.option_any requests.is_in_vain) here) ∙ out in
        ap (λ b. (b && (entry.0 == n)) || some_in_vain entries n) not_in_vain
    by false at = ap (λ b. (requests.is_in_vain entry.1 && b) || some_in_vain entries n) at ∙ ap (λ b. b || some_in_vain entries n) (and_no (requests.is_in_vain entry.1))

-- an entry of n that is in vain says so
one_in_vain : (entries : List (ℕ × Request)) (n : ℕ) (request : Request) → lookup (λ key. is_eq (nat_cmp n key)) entries ≡ Some request → requests.is_in_vain request ≡ true → some_in_vain entries n ≡ true
one_in_vain [] n request found is = absurd (let no : None ≡ Some request = found in cc)
one_in_vain (entry ∷ entries) n request found is = by (λ more. one_in_vain entries n request more is) (is_eq (nat_cmp n entry.0)) refl found
  where
    or_yes : (b : Bool) → (b || true) ≡ true
    or_yes true = refl
    or_yes false = refl

    by : (lookup (λ key. is_eq (nat_cmp n key)) entries ≡ Some request → some_in_vain entries n ≡ true)
        → (b : Bool) → is_eq (nat_cmp n entry.0) ≡ b → cond b (Some entry.1) (lookup (λ key. is_eq (nat_cmp n key)) entries) ≡ Some request → ((requests.is_in_vain entry.1 && (entry.0 == n)) || some_in_vain entries n) ≡ true
    by onward true at found =
        let equal : (n == entry.0) ≡ true = sym (is_key n entry.0) ∙ at in
        let same : (entry.0 == n) ≡ true = grind (arith, nat_tests, equal) in
        let here : entry.1 ≡ request = (let e : Some entry.1 ≡ Some request = found in cc) in
        let in_vain : requests.is_in_vain entry.1 ≡ true = ap requests.is_in_vain here ∙ is in
        rw (in_vain, same) refl
    by onward false at found = ap (λ b. (requests.is_in_vain entry.1 && (entry.0 == n)) || b) (onward found) ∙ or_yes (requests.is_in_vain entry.1 && (entry.0 == n))

pub found_in_vain : (find : ℕ → Option Request) (entries : List (ℕ × Request)) (n : ℕ) → AreFound find entries → find n ≡ lookup (λ key. is_eq (nat_cmp n key)) entries → some_in_vain entries n ≡ requests.option_any requests.is_in_vain (find n)
found_in_vain find entries n found is = grind (arith, nat_tests, common_steps, one_in_vain, none_in_vain)

-- a number as a stretch, as long as there is a number behind it
pub alone : (m n hi : ℕ) → hi ≡ min (m + 1) (2 ^ 64 - 1) → n < 2 ^ 63 → (nat_le m n && nat_lt n hi) ≡ (m == n)
alone m n hi ends small = grind (arith, nat_tests)
