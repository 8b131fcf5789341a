-- What passes a test, one element after another, and what is made of it.
use Rattle.std.proofs.lemmas.Bool.{false_from_ne_true}
use Rattle.std.proofs.lemmas.Bool.Decides.{nat_tests}
use Rattle.std.proofs.Common.{◌≡◌, ◌∙◌, ℕ, suc, ◌+◌, ◌-◌, ◌<◌, ◌≤◌, nat_lt, ltb, leb, ltb-true, leb-false, Bool, true, false, ◌&&◌, ◌||◌, cond, List, [], ◌∷◌, ◌++◌, length, map, filter, take, drop, get_or, refl, sym, ap, arith}
use Rattle.std.proofs.Math.Bool.{or-false}
use Rattle.std.proofs.Math.Seq.{take-length}
use Rattle.std.specs.List.{All, AllWithin, list_any}
use Rattle.std.specs.List.Sorted.{IsPartitionPoint}
use Rattle.std.proofs.lemmas.List.{get_or-drop, get_or-take, length-append, length-drop, length-take, map-append, take-append-drop}
use Rattle.std.proofs.lemmas.List.Folds.{list_any-append, list_any_none}
use Rattle.rtps_evidence.proofs.FindLemmas.{any_more}

any_found_at : {X Y : Type 0} (v : X → Y) (test : Y → Bool) (xs : List X) (i : ℕ) (d : X) → i < length xs → test (v (get_or xs i d)) ≡ true → list_any test (map v xs) ≡ true
any_found_at v test xs i d lt is =
    ap (λ l. list_any test (map v l)) (sym (take-append-drop (i + 1) xs))
    ∙ ap (list_any test) (map-append v (take (i + 1) xs) (drop (i + 1) xs))
    ∙ list_any-append test (map v (take (i + 1) xs)) (map v (drop (i + 1) xs))
    ∙ ap (λ b. b || list_any test (map v (drop (i + 1) xs))) (any_more v test xs i d lt ∙ ap (λ b. list_any test (map v (take i xs)) || b) is ∙ always (list_any test (map v (take i xs))))
  where
    always : (b : Bool) → (b || true) ≡ true
    always true = refl
    always false = refl

-- the same, of the element itself
pub any_here : {X Y : Type 0} (v : X → Y) (test : Y → Bool) (xs : List X) (i : ℕ) (x : X) → i < length xs → x ≡ get_or xs i x → test (v x) ≡ true → list_any test (map v xs) ≡ true
any_here v test xs i x lt at is = any_found_at v test xs i x lt (ap (λ y. test (v y)) (sym at) ∙ is)

filter_both : {X : Type 0} (test : X → Bool) (xs ys : List X) → filter test (xs ++ ys) ≡ filter test xs ++ filter test ys
filter_both test [] ys = refl
filter_both test (x ∷ xs) ys = by (filter_both test xs ys) (test x)
  where
    by : filter test (xs ++ ys) ≡ filter test xs ++ filter test ys → (b : Bool) → cond b (x ∷ filter test (xs ++ ys)) (filter test (xs ++ ys)) ≡ cond b (x ∷ filter test xs) (filter test xs) ++ filter test ys
    by onward true = ap (λ l. x ∷ l) onward
    by onward false = onward

-- ---- whole lists

-- two tests that agree keep the same
pub kept_alike : {X : Type 0} (one other : X → Bool) → ((x : X) → one x ≡ other x) → (xs : List X) → filter one xs ≡ filter other xs
kept_alike one other same [] = refl
kept_alike one other same (x ∷ xs) =
    ap (λ b. cond b (x ∷ filter one xs) (filter one xs)) (same x) ∙ ap (λ l. cond (other x) (x ∷ l) l) (kept_alike one other same xs)

-- some pass where not none is kept
pub any_by_length : {X : Type 0} (test : X → Bool) (xs : List X) → list_any test xs ≡ nat_lt 0 (length (filter test xs))
any_by_length test [] = refl
any_by_length test (x ∷ xs) = by (any_by_length test xs) (test x)
  where
    by : list_any test xs ≡ nat_lt 0 (length (filter test xs)) → (b : Bool) → (b || list_any test xs) ≡ nat_lt 0 (length (cond b (x ∷ filter test xs) (filter test xs)))
    by onward true = (let yes : nat_lt 0 (suc (length (filter test xs))) ≡ true = grind (arith, nat_tests) in sym yes)
    by onward false = onward

counted : {X Y : Type 0} (x : X) (y : Y) (p : Bool) (these : List Y) (those : List X) → length these ≡ length those → length (cond p (y ∷ these) these) ≡ length (cond p (x ∷ those) those)
counted x y true these those same = ap suc same
counted x y false these those same = same

-- of what is kept and made, as many pass as pass both
pub kept_made : {X Y : Type 0} (kept : X → Bool) (made : X → Y) (test : Y → Bool) (xs : List X) → length (filter test (map made (filter kept xs))) ≡ length (filter (λ x. kept x && test (made x)) xs)
kept_made kept made test [] = refl
kept_made kept made test (x ∷ xs) = by (kept_made kept made test xs) (kept x)
  where
    by : length (filter test (map made (filter kept xs))) ≡ length (filter (λ x. kept x && test (made x)) xs) → (b : Bool)
        → length (filter test (map made (cond b (x ∷ filter kept xs) (filter kept xs))))
        ≡ length (cond (b && test (made x)) (x ∷ filter (λ x. kept x && test (made x)) xs) (filter (λ x. kept x && test (made x)) xs))
    by onward true = counted x (made x) (test (made x)) (filter test (map made (filter kept xs))) (filter (λ x. kept x && test (made x)) xs) onward
    by onward false = onward

never : (k a : Bool) → ((k && false) || a) ≡ a
never true a = refl
never false a = refl

-- of what is kept, one passes where one is kept and passes
pub any_kept_within : {X : Type 0} (kind kept one other : X → Bool) → ((x : X) → one x ≡ other x) → (xs : List X)
    → list_any (λ x. kind x && one x) (filter kept xs) ≡ list_any (λ x. kind x && (kept x && other x)) xs
any_kept_within kind kept one other same [] = refl
any_kept_within kind kept one other same (x ∷ xs) = by (any_kept_within kind kept one other same xs) (kept x)
  where
    by : list_any (λ x. kind x && one x) (filter kept xs) ≡ list_any (λ x. kind x && (kept x && other x)) xs → (b : Bool)
        → list_any (λ x. kind x && one x) (cond b (x ∷ filter kept xs) (filter kept xs)) ≡ ((kind x && (b && other x)) || list_any (λ x. kind x && (kept x && other x)) xs)
    by onward true = ap (λ r. (kind x && r) || list_any (λ x. kind x && one x) (filter kept xs)) (same x) ∙ ap (λ a. (kind x && other x) || a) onward
    by onward false = onward ∙ sym (never (kind x) (list_any (λ x. kind x && (kept x && other x)) xs))

-- one passes of what is made where one does by what it makes
pub any_of_made : {X Y : Type 0} (v : X → Y) (test : Y → Bool) (xs : List X) → list_any test (map v xs) ≡ list_any (λ x. test (v x)) xs
any_of_made v test [] = refl
any_of_made v test (x ∷ xs) = ap (λ b. test (v x) || b) (any_of_made v test xs)

-- ---- a run of one key

all_front : {X : Type 0} (P : X → Type 0) (xs : List X) (i : ℕ) → i ≤ length xs → AllWithin P xs 0 i → All P (take i xs)
all_front P xs i within h = λ k d lt. let below : k < i = omega (arith, lt, length-take i xs) in rw (get_or-take i xs k d below) (h k d (omega arith) below)

all_rest : {X : Type 0} (P : X → Type 0) (xs : List X) (i : ℕ) → AllWithin P xs i (length xs) → All P (drop i xs)
all_rest P xs i h = λ k d lt. rw (get_or-drop i xs k d) (h (i + k) d (omega arith) (omega (arith, lt, length-drop i xs)))

lower_fails : (b : Bool) (n t : ℕ) → ltb n t ≡ true → (b ≡ true → n ≡ t) → b ≡ false
lower_fails b n t lt same = false_from_ne_true b (λ is. let e = same is in let a = ltb-true n t lt in omega (arith, e, a))

higher_fails : (b : Bool) (n t : ℕ) → leb n t ≡ false → (b ≡ true → n ≡ t) → b ≡ false
higher_fails b n t gt same = false_from_ne_true b (λ is. let e = same is in let a = leb-false n t gt in omega (arith, e, a))

-- a slice to its end
pub take_behind : {X : Type 0} (n : ℕ) (xs : List X) → take (length xs - n) (drop n xs) ≡ drop n xs
take_behind n xs = rw (← length-drop n xs) (take-length (drop n xs))

-- where all that pass have one key, one passes where one of that key does
pub any_run : {X : Type 0} (test : X → Bool) (n : X → ℕ) (t : ℕ) (xs : List X) (start size : ℕ) → ((x : X) → test x ≡ true → n x ≡ t) → start ≤ length xs → size ≤ length (drop start xs)
    → IsPartitionPoint (λ (x : X). ltb (n x) t ≡ true) (λ (x : X). ltb (n x) t ≡ false) xs start
    → IsPartitionPoint (λ (x : X). leb (n x) t ≡ true) (λ (x : X). leb (n x) t ≡ false) (drop start xs) size
    → list_any test (take size (drop start xs)) ≡ list_any test xs
any_run {X} test n t xs start size same room also first last =
    let rest = drop start xs in
    let before = list_any_none test (take start xs) (all_front (λ (x : X). test x ≡ false) xs start room (λ k d low lt. lower_fails (test (get_or xs k d)) (n (get_or xs k d)) t (first.0 k d low lt) (same (get_or xs k d)))) in
    let behind = list_any_none test (drop size rest) (all_rest (λ (x : X). test x ≡ false) rest size (λ k d low lt. higher_fails (test (get_or rest k d)) (n (get_or rest k d)) t (last.1 k d low lt) (same (get_or rest k d)))) in
    sym (ap (list_any test) (sym (take-append-drop start xs)) ∙ list_any-append test (take start xs) rest ∙ ap (λ b. b || list_any test rest) before
    ∙ ap (list_any test) (sym (take-append-drop size rest)) ∙ list_any-append test (take size rest) (drop size rest) ∙ ap (λ b. list_any test (take size rest) || b) behind ∙ or-false (list_any test (take size rest)))

-- ---- two tests that exclude each other

longer : {X : Type 0} (x : X) (t : Bool) (whole part : List X) (n : ℕ) → length whole ≡ length part + n → length (cond t (x ∷ whole) whole) ≡ length (cond t (x ∷ part) part) + n
longer x true whole part n e = omega (arith, e)
longer x false whole part n e = e

longer_behind : {X : Type 0} (x : X) (t : Bool) (whole part : List X) (n : ℕ) → length whole ≡ n + length part → length (cond t (x ∷ whole) whole) ≡ n + length (cond t (x ∷ part) part)
longer_behind x true whole part n e = omega (arith, e)
longer_behind x false whole part n e = e

counted_apart : {X : Type 0} (one other test : X → Bool) → ((x : X) → one x ≡ true → other x ≡ false) → (xs : List X)
    → length (filter test (filter (λ x. one x || other x) xs)) ≡ length (filter test (filter one xs)) + length (filter test (filter other xs))
counted_apart one other test excludes [] = refl
counted_apart one other test excludes (x ∷ xs) = by (counted_apart one other test excludes xs) (one x) (other x) (excludes x)
  where
    by : length (filter test (filter (λ x. one x || other x) xs)) ≡ length (filter test (filter one xs)) + length (filter test (filter other xs)) → (b p : Bool) → (b ≡ true → p ≡ false)
        → length (filter test (cond (b || p) (x ∷ filter (λ x. one x || other x) xs) (filter (λ x. one x || other x) xs)))
        ≡ length (filter test (cond b (x ∷ filter one xs) (filter one xs))) + length (filter test (cond p (x ∷ filter other xs) (filter other xs)))
    by onward true p excluded =
        longer x (test x) (filter test (filter (λ x. one x || other x) xs)) (filter test (filter one xs)) (length (filter test (filter other xs))) onward
        ∙ sym (ap (λ p. length (filter test (x ∷ filter one xs)) + length (filter test (cond p (x ∷ filter other xs) (filter other xs)))) (excluded refl))
    by onward false true _ = longer_behind x (test x) (filter test (filter (λ x. one x || other x) xs)) (filter test (filter other xs)) (length (filter test (filter one xs))) onward
    by onward false false _ = onward

-- what passes one of them, and then what passes the other, are together what passes one or the other
pub apart : {X : Type 0} (one other test : X → Bool) → ((x : X) → one x ≡ true → other x ≡ false) → (xs : List X)
    → length (filter test (filter (λ x. one x || other x) xs)) ≡ length (filter test (filter one xs ++ filter other xs))
apart one other test excludes xs =
    counted_apart one other test excludes xs
    ∙ sym (ap length (filter_both test (filter one xs) (filter other xs)) ∙ length-append (filter test (filter one xs)) (filter test (filter other xs)))
