-- What digits decode to, in parts.
use Rattle.std.proofs.Common.{◌≡◌, ℕ, zero, suc, ◌+◌, ◌-◌, ◌*◌, ◌%◌, ◌≤◌, List, [], ◌∷◌, ◌++◌, Bool, true, false, ◌&&◌, Option, Some, None, unwrap_or, Result, Ok, Err, is_some, length, map, take, drop, get_or, refl, sym, ap, ◌∙◌, arith, Fits, w8}
use Rattle.std.specs.Prelude.{is_ok}
use Rattle.std.proofs.lemmas.Bool.{and_parts}
use Rattle.std.proofs.lemmas.List.{take-append-drop, take-take, length-drop, length-take, length-take-le, take_all}
use Rattle.std.proofs.lemmas.List.Sums.{list_all-from_AllPass}
use Rattle.std.proofs.lemmas.Simd.{below_from_Fits, chunk-fits, length-chunk, length-put_chunk, take_more_put_chunk}
use Rattle.std.proofs.Math.Seq.{take-add}
use Rattle.std.specs.List.{list_all}
use Rattle.std.specs.Simd.Lanes.{chunk, put_chunk}
use Rattle.hex.specs.Hex.{decode_of, decode_pairs, digit_or_error, hex_digit_value, is_hex_digit, pair_value}
use Rattle.hex.specs.declared.error.FromHexError.{FromHexError}
use Rattle.hex.proofs.HexLemmas.{decode_of-even, decode_of-ok}
use Rattle.hex.proofs.Pairs.{cons_byte, decode_pairs-ok_pair}
use Rattle.rtps_digits.specs.Pairs as pairs
use Rattle.rtps_digits.proofs.Lanes.{lanes-low, pairs_joined}

regrouped : (a b c : Bool) → (a && (b && c)) ≡ ((a && b) && c)
regrouped true b c = refl
regrouped false b c = refl

pub all-append : (p : ℕ → Bool) (xs ys : List ℕ) → list_all p (xs ++ ys) ≡ (list_all p xs && list_all p ys)
all-append p [] ys = refl
all-append p (x ∷ xs) ys = ap (λ r. p x && r) (all-append p xs ys) ∙ regrouped (p x) (list_all p xs) (list_all p ys)

pub pairs-append : (f : ℕ → ℕ → ℕ) (xs ys : List ℕ) → length xs % 2 ≡ 0
    → pairs.pairs_with f (xs ++ ys) ≡ pairs.pairs_with f xs ++ pairs.pairs_with f ys
pairs-append f [] ys even = refl
pairs-append f (a ∷ []) ys even = absurd (omega arith)
pairs-append f (a ∷ b ∷ xs) ys even = ap (λ r. f a b ∷ r) (pairs-append f xs ys (omega arith))

length-pairs : (f : ℕ → ℕ → ℕ) (xs : List ℕ) → length xs % 2 ≡ 0 → 2 * length (pairs.pairs_with f xs) ≡ length xs
length-pairs f [] even = refl
length-pairs f (a ∷ []) even = absurd (omega arith)
length-pairs f (a ∷ b ∷ xs) even = omega (arith, length-pairs f xs (omega arith))

read_digit : (c i : ℕ) (o : Option ℕ) → is_some o ≡ true → digit_or_error c i o ≡ Ok (unwrap_or o 0)
read_digit c i (Some v) h = refl
read_digit c i None h = cc h

pub decode_pairs-all : (i : ℕ) (s : List ℕ) → length s % 2 ≡ 0 → list_all is_hex_digit s ≡ true
    → decode_pairs i s ≡ Ok (pairs.pairs_of s)
unfolding decode_pairs
decode_pairs-all i [] even all = refl
decode_pairs-all i (a ∷ []) even all = absurd (omega arith)
decode_pairs-all i (a ∷ b ∷ rest) even all =
    let first = and_parts (is_hex_digit a) (is_hex_digit b && list_all is_hex_digit rest) all in
    let second = and_parts (is_hex_digit b) (list_all is_hex_digit rest) first.1 in
    let ha = read_digit a i (hex_digit_value a) first.0 in
    let hb = read_digit b (i + 1) (hex_digit_value b) second.0 in
    let pair : pair_value a b i ≡ Ok (pairs.digit_value a * 16 + pairs.digit_value b) = rw (ha, hb) refl in
    decode_pairs-ok_pair i a b _ rest pair
    ∙ ap (cons_byte (pairs.digit_value a * 16 + pairs.digit_value b)) (decode_pairs-all (i + 2) rest (omega arith) second.1)

pub decode_of-all : (s : List ℕ) → length s % 2 ≡ 0 → list_all is_hex_digit s ≡ true → decode_of s ≡ Ok (pairs.pairs_of s)
decode_of-all s even all = decode_of-even s even ∙ decode_pairs-all 0 s even all

ok_all : (s : List ℕ) (r : Result (List ℕ) FromHexError) → decode_of s ≡ r → is_ok r ≡ true → list_all is_hex_digit s ≡ true
ok_all s (Ok bytes) e h = list_all-from_AllPass is_hex_digit s (decode_of-ok s bytes e).1
ok_all s (Err f) e h = cc h

either_way : (a b : Bool) → (a ≡ true → b ≡ true) → (b ≡ true → a ≡ true) → a ≡ b
either_way true b f g = sym (f refl)
either_way false true f g = g refl
either_way false false f g = refl

pub is_ok-all : (s : List ℕ) → length s % 2 ≡ 0 → is_ok (decode_of s) ≡ list_all is_hex_digit s
is_ok-all s even =
    either_way _ _ (λ h. ok_all s (decode_of s) refl h) (λ h. ap (λ (r : Result (List ℕ) FromHexError). is_ok r) (decode_of-all s even h))

pub octets_of-all : (s : List ℕ) → length s % 2 ≡ 0 → is_ok (decode_of s) ≡ true → pairs.octets_of s ≡ pairs.pairs_of s
octets_of-all s even ok = rw (decode_of-all s even (sym (is_ok-all s even) ∙ ok)) refl

-- ---- digits that are decoded in two parts, of which the second begins within the first

all-take : (p : ℕ → Bool) (j : ℕ) (xs : List ℕ) → list_all p xs ≡ true → list_all p (take j xs) ≡ true
all-take p zero xs all = refl
all-take p (suc j) [] all = refl
all-take p (suc j) (x ∷ xs) all =
    let parts = and_parts (p x) (list_all p xs) all in
    rw parts.0 (all-take p j xs parts.1)

all-drop : (p : ℕ → Bool) (j : ℕ) (xs : List ℕ) → list_all p xs ≡ true → list_all p (drop j xs) ≡ true
all-drop p zero xs all = all
all-drop p (suc j) [] all = refl
all-drop p (suc j) (x ∷ xs) all = all-drop p j xs (and_parts (p x) (list_all p xs) all).1

both_true : (a b : Bool) → a ≡ true → b ≡ true → (a && b) ≡ true
both_true a b x y = rw (x, y) refl

all-parts : (p : ℕ → Bool) (xs : List ℕ) (j m : ℕ) → j ≤ m → list_all p (take m xs) ≡ true → list_all p (drop j xs) ≡ true → list_all p xs ≡ true
all-parts p xs j m within first last =
    let front : list_all p (take j xs) ≡ true = ap (list_all p) (sym (take-take j m xs within)) ∙ all-take p j (take m xs) first in
    ap (list_all p) (sym (take-append-drop j xs)) ∙ all-append p (take j xs) (drop j xs)
    ∙ both_true (list_all p (take j xs)) (list_all p (drop j xs)) front last

-- both parts are digits where the whole is
pub found_parts : (s : List ℕ) (j m : ℕ) → length s % 2 ≡ 0 → j ≤ m
    → (list_all is_hex_digit (take m s) && list_all is_hex_digit (drop j s)) ≡ is_ok (decode_of s)
found_parts s j m even within =
    either_way (list_all is_hex_digit (take m s) && list_all is_hex_digit (drop j s)) (list_all is_hex_digit s)
    (λ h. let parts = and_parts (list_all is_hex_digit (take m s)) (list_all is_hex_digit (drop j s)) h in all-parts is_hex_digit s j m within parts.0 parts.1)
    (λ h. both_true (list_all is_hex_digit (take m s)) (list_all is_hex_digit (drop j s)) (all-take is_hex_digit m s h) (all-drop is_hex_digit j s h))
    ∙ sym (is_ok-all s even)

take-pairs : (f : ℕ → ℕ → ℕ) (k : ℕ) (xs : List ℕ) → take k (pairs.pairs_with f xs) ≡ pairs.pairs_with f (take (2 * k) xs)
take-pairs f zero xs = refl
take-pairs f (suc k) [] = let two : 2 * suc k ≡ suc (suc (2 * k)) = omega arith in rw two refl
take-pairs f (suc k) (a ∷ []) = let two : 2 * suc k ≡ suc (suc (2 * k)) = omega arith in rw two refl
take-pairs f (suc k) (a ∷ b ∷ xs) =
    let two : 2 * suc k ≡ suc (suc (2 * k)) = omega arith in
    rw two (ap (λ r. f a b ∷ r) (take-pairs f k xs))

-- the octets of the first part, as far as the second does not begin, and those of the second
pub octets_parts : (s before : List ℕ) (k v m : ℕ) → m ≡ 2 * v → length s % 2 ≡ 0 → k ≤ v → 2 * k ≤ length s → is_ok (decode_of s) ≡ true
    → take v before ≡ pairs.pairs_of (take m s)
    → take k before ++ pairs.pairs_of (drop (2 * k) s) ≡ pairs.octets_of s
octets_parts s before k v m twice even within fits ok first =
    let half : length (take (2 * k) s) % 2 ≡ 0 = omega (arith, length-take-le (2 * k) s fits) in
    let inner : take (2 * k) (take m s) ≡ take (2 * k) s = take-take (2 * k) m s (omega arith) in
    let front : take k before ≡ pairs.pairs_of (take (2 * k) s) =
    sym (take-take k v before within) ∙ ap (take k) first ∙ take-pairs _ k (take m s) ∙ ap pairs.pairs_of inner in
    ap (λ r. r ++ pairs.pairs_of (drop (2 * k) s)) front
    ∙ sym (pairs-append _ (take (2 * k) s) (drop (2 * k) s) half)
    ∙ ap pairs.pairs_of (take-append-drop (2 * k) s) ∙ sym (octets_of-all s even ok)

-- the last octets are written over
put_last : (octets written : List ℕ) (k : ℕ) → k + length written ≡ length octets → put_chunk k octets written ≡ take k octets ++ written
put_last octets written k whole =
    sym (take_all (length octets) (put_chunk k octets written) (omega (arith, length-put_chunk k octets written)))
    ∙ take_more_put_chunk k octets written (length octets) (sym whole) (omega arith)

-- ---- one vector more

-- the digits at a place fill a vector
values_found : (s values : List ℕ) (at : ℕ) → ((i : ℕ) → Fits w8 (get_or s i 0)) → values ≡ map pairs.lane_value (chunk at 32 s)
    → list_all pairs.is_low values ≡ list_all is_hex_digit (chunk at 32 s)
values_found s values at bytes are =
    ap (list_all pairs.is_low) are ∙ lanes-low (chunk at 32 s) (below_from_Fits w8 (chunk at 32 s) (chunk-fits w8 at 32 s bytes))

values_joined : (s values written : List ℕ) (at : ℕ) → ((i : ℕ) → Fits w8 (get_or s i 0)) → values ≡ map pairs.lane_value (chunk at 32 s)
    → written ≡ pairs.pairs_with pairs.join values → list_all is_hex_digit (chunk at 32 s) ≡ true
    → written ≡ pairs.pairs_of (chunk at 32 s)
values_joined s values written at bytes are joins all =
    joins ∙ ap (pairs.pairs_with pairs.join) are ∙ pairs_joined (chunk at 32 s) (below_from_Fits w8 (chunk at 32 s) (chunk-fits w8 at 32 s bytes)) all

pub chunk_found : (s values : List ℕ) (k : ℕ) → ((i : ℕ) → Fits w8 (get_or s i 0))
    → values ≡ map pairs.lane_value (chunk (32 * k) 32 s) → list_all pairs.is_low values ≡ true
    → list_all is_hex_digit (chunk (32 * k) 32 s) ≡ true
chunk_found s values k bytes are low = sym (values_found s values (32 * k) bytes are) ∙ low

pub step_found : (s worst now values : List ℕ) (k : ℕ) → 32 * k + 32 ≤ length s → ((i : ℕ) → Fits w8 (get_or s i 0))
    → values ≡ map pairs.lane_value (chunk (32 * k) 32 s)
    → list_all pairs.is_low now ≡ (list_all pairs.is_low worst && list_all pairs.is_low values)
    → list_all pairs.is_low worst ≡ list_all is_hex_digit (take (32 * k) s)
    → list_all pairs.is_low now ≡ list_all is_hex_digit (take (32 * (k + 1)) s)
step_found s worst now values k fits bytes are both inv =
    let next : 32 * (k + 1) ≡ 32 * k + 32 = omega arith in
    let low = values_found s values (32 * k) bytes are in
    both ∙ (λ i. inv i && low i) ∙ sym (all-append is_hex_digit (take (32 * k) s) (chunk (32 * k) 32 s))
    ∙ ap (list_all is_hex_digit) (sym (take-add (32 * k) 32 s)) ∙ ap (λ m. list_all is_hex_digit (take m s)) (sym next)

pub step_octets : (s octets values written : List ℕ) (k : ℕ) → 32 * k + 32 ≤ length s → 16 * k + 16 ≤ length octets
    → ((i : ℕ) → Fits w8 (get_or s i 0))
    → values ≡ map pairs.lane_value (chunk (32 * k) 32 s) → written ≡ pairs.pairs_with pairs.join values
    → list_all is_hex_digit (chunk (32 * k) 32 s) ≡ true
    → take (16 * k) octets ≡ pairs.pairs_of (take (32 * k) s)
    → take (16 * (k + 1)) (put_chunk (16 * k) octets written) ≡ pairs.pairs_of (take (32 * (k + 1)) s)
step_octets s octets values written k fits room bytes are joins all inv =
    let long : length (chunk (32 * k) 32 s) ≡ 32 = length-chunk (32 * k) 32 s fits in
    let next : 32 * (k + 1) ≡ 32 * k + 32 = omega arith in
    let even : length (take (32 * k) s) % 2 ≡ 0 = omega (arith, length-take (32 * k) s) in
    let new : written ≡ pairs.pairs_of (chunk (32 * k) 32 s) = values_joined s values written (32 * k) bytes are joins all in
    let half = length-pairs (λ a b. pairs.digit_value a * 16 + pairs.digit_value b) (chunk (32 * k) 32 s) (omega arith) in
    let sixteen : length written ≡ 16 = omega (arith, ap length new) in
    take_more_put_chunk (16 * k) octets written (16 * (k + 1)) (omega arith) (omega arith)
    ∙ (λ i. inv i ++ new i)
    ∙ sym (pairs-append _ (take (32 * k) s) (chunk (32 * k) 32 s) even)
    ∙ ap pairs.pairs_of (sym (take-add (32 * k) 32 s)) ∙ ap (λ m. pairs.pairs_of (take m s)) (sym next)

-- the last digits fill a vector
last_chunk : (s : List ℕ) (k : ℕ) → length s ≡ 2 * k + 32 → chunk (2 * k) 32 s ≡ drop (length s - 32) s
last_chunk s k size =
    let place : length s - 32 ≡ 2 * k = omega arith in
    take_all 32 (drop (2 * k) s) (omega (arith, length-drop (2 * k) s)) ∙ ap (λ n. drop n s) (sym place)

pub last_found : (s values : List ℕ) (k : ℕ) → length s ≡ 2 * k + 32 → ((i : ℕ) → Fits w8 (get_or s i 0)) → values ≡ map pairs.lane_value (chunk (2 * k) 32 s)
    → list_all pairs.is_low values ≡ list_all is_hex_digit (drop (length s - 32) s)
last_found s values k size bytes are = values_found s values (2 * k) bytes are ∙ ap (list_all is_hex_digit) (last_chunk s k size)

pub last_octets : (s values written octets : List ℕ) (k : ℕ) → length s ≡ 2 * k + 32 → length octets ≡ k + 16 → ((i : ℕ) → Fits w8 (get_or s i 0))
    → values ≡ map pairs.lane_value (chunk (2 * k) 32 s) → written ≡ pairs.pairs_with pairs.join values → list_all pairs.is_low values ≡ true
    → put_chunk k octets written ≡ take k octets ++ pairs.pairs_of (drop (length s - 32) s)
last_octets s values written octets k size room bytes are joins low =
    let all : list_all is_hex_digit (chunk (2 * k) 32 s) ≡ true = sym (values_found s values (2 * k) bytes are) ∙ low in
    let new : written ≡ pairs.pairs_of (chunk (2 * k) 32 s) = values_joined s values written (2 * k) bytes are joins all in
    let long : length (chunk (2 * k) 32 s) ≡ 32 = length-chunk (2 * k) 32 s (omega arith) in
    let half = length-pairs (λ a b. pairs.digit_value a * 16 + pairs.digit_value b) (chunk (2 * k) 32 s) (omega arith) in
    let sixteen : length written ≡ 16 = omega (arith, ap length new) in
    put_last octets written k (omega arith) ∙ ap (λ r. take k octets ++ r) (new ∙ ap pairs.pairs_of (last_chunk s k size))
