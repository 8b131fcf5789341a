-- Facts on the digits of octets.
use Rattle.std.proofs.Common.{◌≡◌, ℕ, ◌*◌, ◌/◌, ◌%◌, List, [], ◌∷◌, ◌++◌, true, ltb, length, take, refl, ap, ◌∙◌, take_at, slice_index, IsAscii, ltb-true}
use Rattle.std.proofs.lemmas.Bool.{and_parts}
use Rattle.std.proofs.lemmas.Str.Ascii.{IsAscii-cons, IsAscii-nil}
use Rattle.std.specs.List.{list_all}
use Rattle.hex.proofs.HexLemmas.{IsAscii-encode_with, length-encode_with}
use Rattle.hex.specs.Hex.{encode_lower, encode_with, lower_digits}

pub ascii_where_low : (codes : List ℕ) → list_all (λ code. ltb code 128) codes ≡ true → IsAscii codes
ascii_where_low [] low = IsAscii-nil
ascii_where_low (code ∷ codes) low =
    let parts = and_parts (ltb code 128) (list_all (λ c. ltb c 128) codes) low in
    IsAscii-cons code codes (ltb-true code 128 parts.0) (ascii_where_low codes parts.1)

-- digits are ASCII
pub IsAscii-encode_lower : (octets : List ℕ) → IsAscii (encode_lower octets)
IsAscii-encode_lower octets = IsAscii-encode_with lower_digits octets (ascii_where_low lower_digits refl)

encode_with-append : (table xs ys : List ℕ) → encode_with table (xs ++ ys) ≡ encode_with table xs ++ encode_with table ys
unfolding encode_with
encode_with-append table [] ys = refl
encode_with-append table (x ∷ xs) ys = λ i. slice_index table (x / 16) ∷ slice_index table (x % 16) ∷ encode_with-append table xs ys i

-- the first digits are those of the first octets
pub take-encode_lower : (digits octets more : List ℕ) → digits ≡ encode_lower (octets ++ more) → take (2 * length octets) digits ≡ encode_lower octets
take-encode_lower digits octets more are =
    ap (take (2 * length octets)) (are ∙ encode_with-append lower_digits octets more)
    ∙ take_at (encode_lower octets) (encode_lower more) (2 * length octets) (length-encode_with lower_digits octets)
