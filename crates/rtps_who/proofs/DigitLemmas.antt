-- Digits, one after another.
use Rattle.std.proofs.Common.{◌≡◌, ◌∙◌, ℕ, zero, suc, ◌+◌, ◌^◌, ◌<◌, ◌≤◌, Bool, true, false, ◌&&◌, if◌then◌else◌, List, [], ◌∷◌, Some, None, ap, arith, drop, fold, get_or, length, nat_eq, nat_lt, refl, sym, take}
use Rattle.std.specs.List.{list_all}
use Rattle.std.proofs.lemmas.Bool.{false≢true, le-ltb, lt-ltb}
use Rattle.std.proofs.lemmas.List.{take-append-drop, take_all, take_more}
use Rattle.std.proofs.lemmas.List.Folds.{list_all_at, list_all_more}
use Rattle.std.proofs.lemmas.List.Sums.{fold-append, fold_push}
use Rattle.rtps_who.specs.Digits as digits_spec

pub none_by_digit : (a b c : Bool) (n : ℕ) → b ≡ false → None ≡ (if a && (b && c) then Some n else None)
none_by_digit false b c n is = refl
none_by_digit true false c n is = refl
none_by_digit true true c n is = absurd (false≢true (sym is))

pub none_by_size : (a b c : Bool) (n : ℕ) → c ≡ false → None ≡ (if a && (b && c) then Some n else None)
none_by_size false b c n is = refl
none_by_size true false c n is = refl
none_by_size true true false n is = refl
none_by_size true true true n is = absurd (false≢true (sym is))

pub some_by_all : (a b c : Bool) (n : ℕ) → a ≡ true → b ≡ true → c ≡ true → Some n ≡ (if a && (b && c) then Some n else None)
some_by_all true true true n x y z = refl
some_by_all false b c n x y z = absurd (false≢true x)
some_by_all true false c n x y z = absurd (false≢true y)
some_by_all true true false n x y z = absurd (false≢true z)

-- digits make no number smaller
grows : (a : ℕ) (xs : List ℕ) → a ≤ fold digits_spec.digit_more a xs
grows a [] = omega arith
grows a (x ∷ xs) = let onward = grows (digits_spec.digit_more a x) xs in omega arith

pub front_is_less : (n : ℕ) (xs : List ℕ) → digits_spec.decimal (take n xs) ≤ digits_spec.decimal xs
front_is_less n xs =
    let onward = grows (digits_spec.decimal (take n xs)) (drop n xs) in
    let whole : fold digits_spec.digit_more (digits_spec.decimal (take n xs)) (drop n xs) ≡ digits_spec.decimal xs = sym (fold-append digits_spec.digit_more 0 (take n xs) (drop n xs)) ∙ ap digits_spec.decimal (take-append-drop n xs) in
    omega arith

-- ---- what a loop over the digits has passed

pub decimal_more : (octets : List ℕ) (i : ℕ) → i < length octets → digits_spec.decimal (take (i + 1) octets) ≡ digits_spec.digit_more (digits_spec.decimal (take i octets)) (get_or octets i 0)
decimal_more octets i less = ap digits_spec.decimal (take_more octets i 0 less) ∙ fold_push digits_spec.digit_more 0 (take i octets) (get_or octets i 0)

pub digits_more : (octets : List ℕ) (i : ℕ) → i < length octets → list_all digits_spec.is_digit (take i octets) ≡ true → digits_spec.is_digit (get_or octets i 0) ≡ true → list_all digits_spec.is_digit (take (i + 1) octets) ≡ true
digits_more octets i less so_far one = list_all_more digits_spec.is_digit octets i 0 less ∙ ap (λ b. b && digits_spec.is_digit (get_or octets i 0)) so_far ∙ one

pub no_digit : (octets : List ℕ) (i : ℕ) → i < length octets → digits_spec.is_digit (get_or octets i 0) ≡ false → None ≡ digits_spec.number_in octets
no_digit octets i less fails =
    none_by_digit (nat_lt 0 (length octets)) (list_all digits_spec.is_digit octets) (nat_lt (digits_spec.decimal octets) (2 ^ 32)) (digits_spec.decimal octets) (list_all_at digits_spec.is_digit octets i 0 less fails)

pub too_large : (octets : List ℕ) (i value : ℕ) → i < length octets → value ≡ digits_spec.decimal (take i octets) → (digits_spec.digit_more value (get_or octets i 0) < 2 ^ 32 → ⊥) → None ≡ digits_spec.number_in octets
too_large octets i value less is large =
    let front = front_is_less (i + 1) octets in
    let more : digits_spec.decimal (take (i + 1) octets) ≡ digits_spec.digit_more value (get_or octets i 0) = decimal_more octets i less ∙ ap (λ v. digits_spec.digit_more v (get_or octets i 0)) (sym is) in
    none_by_size (nat_lt 0 (length octets)) (list_all digits_spec.is_digit octets) (nat_lt (digits_spec.decimal octets) (2 ^ 32)) (digits_spec.decimal octets) (le-ltb (digits_spec.decimal octets) (2 ^ 32) (at_least (digits_spec.decimal octets) (digits_spec.digit_more value (get_or octets i 0)) (2 ^ 32) (rw more at front) large))
  where
    at_least : (whole part bound : ℕ) → part ≤ whole → (part < bound → ⊥) → bound ≤ whole
    at_least whole part bound most large = omega arith

pub no_text : (octets : List ℕ) → length octets ≡ 0 → None ≡ digits_spec.number_in octets
no_text [] none = refl
no_text (octet ∷ octets) none = absurd (omega arith)

pub all_read : (octets : List ℕ) (i value : ℕ) → 0 < length octets → length octets ≤ i → list_all digits_spec.is_digit (take i octets) ≡ true → value ≡ digits_spec.decimal (take i octets) → value < 2 ^ 32
    → Some value ≡ digits_spec.number_in octets
all_read octets i value some all digits is small =
    let whole : take i octets ≡ octets = take_all i octets all in
    let same : value ≡ digits_spec.decimal octets = is ∙ ap digits_spec.decimal whole in
    ap (λ n. Some n) same
    ∙ some_by_all (nat_lt 0 (length octets)) (list_all digits_spec.is_digit octets) (nat_lt (digits_spec.decimal octets) (2 ^ 32)) (digits_spec.decimal octets) (lt-ltb 0 (length octets) some)
    (sym (ap (list_all digits_spec.is_digit) whole) ∙ digits) (lt-ltb (digits_spec.decimal octets) (2 ^ 32) (omega arith))

pub not_empty : (n : ℕ) → nat_eq n 0 ≡ false → 0 < n
not_empty zero is = absurd (false≢true (sym is))
not_empty (suc n) is = omega arith
