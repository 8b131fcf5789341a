-- A time in seconds, with three places, is a number of JSON.
use Rattle.std.proofs.Common.{◌≡◌, ◌++◌, ◌∷◌, [], ◌∙◌, ◌+◌, ◌<◌, ◌≤◌, ◌^◌, ◌/◌, ◌%◌, ◌==◌, ℕ, Bool, true, false, if◌then◌else◌, List, None, Some, ap, ap₂, arith, codes, cond, decimal, drop, get_or, length, option_and_then, refl, suc, zero}
use Rattle.std.proofs.lemmas.Bool.{and_from, le-leb, ne_eqb}
use Rattle.std.proofs.lemmas.Fmt.{decimal_digit, decimal_is_IsNumeral_wide}
use Rattle.std.proofs.lemmas.List.{drop_all, drop-append-le}
use Rattle.std.proofs.lemmas.Str.Parse.{digit_at}
use Rattle.std.specs.Char.{is_ascii_digit}
use Rattle.std.specs.List.{prefix_len}
use Rattle.json.specs.Print.{IsNumber}
use Rattle.json.specs.Word.{after_digits, after_exponent, after_fraction, after_number, after_whole, head}
use Rattle.rtps_evidence.specs.declared.times.Seconds.{Seconds}
use Rattle.rtps_lines.specs.Lines as lines
use Rattle.rtps_json.proofs.JsonLemmas.{first_digit}

-- digits in front of a point
digits_behind : (digits places : List ℕ) → ((i : ℕ) → i < length digits → (48 ≤ get_or digits i 0) × (get_or digits i 0 ≤ 57)) → prefix_len is_ascii_digit (digits ++ 46 ∷ places) ≡ length digits
digits_behind [] places h = refl
digits_behind (digit ∷ digits) places h =
    let first = h 0 (omega arith) in
    let rest = digits_behind digits places (λ i l. h (suc i) (omega arith)) in
    ap (λ b. cond b (1 + prefix_len is_ascii_digit (digits ++ 46 ∷ places)) 0) (and_from _ _ (le-leb 48 digit first.0) (le-leb digit 57 first.1)) ∙ omega (arith, rest)

whole_behind : (digits places : List ℕ) → 48 < get_or digits 0 0 → prefix_len is_ascii_digit (digits ++ 46 ∷ places) ≡ length digits
    → (after_whole (digits ++ 46 ∷ places) ≡ Some (46 ∷ places)) × ((head (digits ++ 46 ∷ places) == 45) ≡ false)
whole_behind [] places first all = absurd (omega arith)
whole_behind (digit ∷ digits) places first all = (
  rw (ne_eqb digit 48 (λ e. omega arith), all, ne_eqb (suc (length digits)) 0 (λ e. omega arith))
      (ap Some (drop-append-le (length digits) digits (46 ∷ places) (omega arith) ∙ ap (λ l. l ++ 46 ∷ places) (drop_all (length digits) digits (omega arith)))),
  ne_eqb digit 45 (λ e. omega arith),
)

-- a number in front of a point
number_behind : (n : ℕ) (places : List ℕ) → n < 10 ^ 64
    → (after_whole (decimal n ++ 46 ∷ places) ≡ Some (46 ∷ places)) × ((head (decimal n ++ 46 ∷ places) == 45) ≡ false)
number_behind zero places h =
    let e = decimal_digit 0 (omega arith) in
    (ap (λ digits. after_whole (digits ++ 46 ∷ places)) e, ap (λ digits. head (digits ++ 46 ∷ places) == 45) e)
number_behind (suc n) places h =
    whole_behind (decimal (suc n)) places (first_digit (suc n) (omega arith) h) (digits_behind _ places (λ i l. digit_at _ i (decimal_is_IsNumeral_wide (suc n) h).0.1 l))

-- ---- three places

is_digit : (n : ℕ) → n < 10 → is_ascii_digit (48 + n) ≡ true
is_digit n h = and_from _ _ (le-leb 48 (48 + n) (omega arith)) (le-leb (48 + n) 57 (omega (arith, h)))

three_digits : (a b c : ℕ) → is_ascii_digit a ≡ true → is_ascii_digit b ≡ true → is_ascii_digit c ≡ true → after_digits (a ∷ b ∷ c ∷ []) ≡ Some []
three_digits a b c one two three =
    let all : prefix_len is_ascii_digit (a ∷ b ∷ c ∷ []) ≡ 3 =
    ap (λ x. cond x (1 + cond (is_ascii_digit b) (1 + cond (is_ascii_digit c) 1 0) 0) 0) one
    ∙ ap (λ x. 1 + cond x (1 + cond (is_ascii_digit c) 1 0) 0) two
    ∙ ap (λ x. 1 + (1 + cond x 1 0)) three in
    ap (λ n. cond (n == 0) None (Some (drop n (a ∷ b ∷ c ∷ [])))) all

places_are : (n : ℕ) → lines.three_places n ≡ (48 + n / 100 % 10) ∷ (48 + n / 10 % 10) ∷ (48 + n % 10) ∷ []
places_are n =
    ap₂ ◌++◌ (decimal_digit (n / 100 % 10) (omega arith)) (ap₂ ◌++◌ (decimal_digit (n / 10 % 10) (omega arith)) (decimal_digit (n % 10) (omega arith)))

after_places : (n : ℕ) → after_digits (lines.three_places n) ≡ Some []
after_places n =
    ap after_digits (places_are n)
    ∙ three_digits (48 + n / 100 % 10) (48 + n / 10 % 10) (48 + n % 10) (is_digit (n / 100 % 10) (omega arith)) (is_digit (n / 10 % 10) (omega arith)) (is_digit (n % 10) (omega arith))

-- ---- the whole text

pub seconds_are_number : (seconds : Seconds) → seconds.milliseconds < 2 ^ 64 → IsNumber (lines.seconds_text seconds)
unfolding after_number lines.seconds_text
seconds_are_number seconds h = go seconds.negative
  where
    places : List ℕ
    places = lines.three_places seconds.milliseconds

    text : List ℕ
    text = decimal (seconds.milliseconds / 1000) ++ 46 ∷ places

    whole : (after_whole text ≡ Some (46 ∷ places)) × ((head text == 45) ≡ false)
    whole = number_behind (seconds.milliseconds / 1000) places (omega (arith, h))

    behind : option_and_then after_exponent (option_and_then after_fraction (after_whole text)) ≡ Some []
    behind = ap (λ o. option_and_then after_exponent (option_and_then after_fraction o)) whole.0 ∙ ap (option_and_then after_exponent) (after_places seconds.milliseconds)

    go : (negative : Bool) → IsNumber ((if negative then codes "-" else []) ++ text)
    go true = behind
    go false = ap (λ b. option_and_then after_exponent (option_and_then after_fraction (after_whole (cond b (drop 1 text) text)))) whole.1 ∙ behind
