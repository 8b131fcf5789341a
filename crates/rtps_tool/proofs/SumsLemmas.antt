-- Each step of the sum can be undone: so where one word is another, the sum is another.
use Rattle.std.proofs.Common.{◌≡◌, ◌<◌, ℕ, ◌+◌, ◌*◌, ◌/◌, ◌%◌, ◌^◌, List, [], ◌∷◌, ◌++◌, ap, sym, ◌∙◌, arith}
use Rattle.std.specs.Prelude.{bit_xor, bit_or}
use Rattle.std.specs.Int.{w64, bit_at, rotate_left}
use Rattle.std.specs.List.{fold}
use Rattle.std.proofs.lemmas.Nat.{mod_below, mul-mod_first, or_shifted, xor_comm, xor_lt}
use Rattle.std.proofs.lemmas.Nat.Bits.{bit_at_xor, bit_at-lt, same_from_bits}
use Rattle.rtps_tool.specs.Sums as sums

-- of what is added bit by bit
xor_tells : (a b c : ℕ) → bit_xor a b ≡ bit_xor a c → b ≡ c
xor_tells a b c same = same_from_bits b c (λ i.
    let both = ap (λ (n : ℕ). bit_at n i) same in
    omega (arith, bit_at_xor a b i, bit_at_xor a c i, both, bit_at-lt a i, bit_at-lt b i, bit_at-lt c i))

-- of what is multiplied: by the number that undoes it
factor_undone : (n : ℕ) → n < 2 ^ 64 → n * 11400714819323198485 % 2 ^ 64 * 17428512612931826493 % 2 ^ 64 ≡ n
factor_undone n fits = omega (arith, mul-mod_first (n * 11400714819323198485) 17428512612931826493 (2 ^ 64))

factor_tells : (a b : ℕ) → a < 2 ^ 64 → b < 2 ^ 64 → a * 11400714819323198485 % 2 ^ 64 ≡ b * 11400714819323198485 % 2 ^ 64 → a ≡ b
factor_tells a b fits fits' same = sym (factor_undone a fits) ∙ ap (λ (n : ℕ). n * 17428512612931826493 % 2 ^ 64) same ∙ factor_undone b fits'

five_tells : (a b : ℕ) → a < 2 ^ 64 → b < 2 ^ 64 → a * 5 % 2 ^ 64 ≡ b * 5 % 2 ^ 64 → a ≡ b
five_tells a b fits fits' same = omega (arith, same, fits, fits')

-- of what is turned: its two parts change places
turned : (n : ℕ) → n < 2 ^ 64 → rotate_left w64 n 29 ≡ n % 2 ^ 35 * 2 ^ 29 + n / 2 ^ 35
turned n fits =
    let moved : n * 2 ^ 29 % 2 ^ 64 ≡ n % 2 ^ 35 * 2 ^ 29 = omega arith in
    ap (λ (high : ℕ). bit_or high (n / 2 ^ 35)) moved ∙ or_shifted (n % 2 ^ 35) 29 (n / 2 ^ 35) (omega arith)

turned_fits : (n : ℕ) → n < 2 ^ 64 → rotate_left w64 n 29 < 2 ^ 64
turned_fits n fits = omega (arith, turned n fits)

turned_tells : (a b : ℕ) → a < 2 ^ 64 → b < 2 ^ 64 → rotate_left w64 a 29 ≡ rotate_left w64 b 29 → a ≡ b
turned_tells a b fits fits' same = omega (arith, turned a fits, turned b fits', same)

-- what a sum and a word make together, before it is turned
abbrev mixed : ℕ → ℕ → ℕ
mixed sum word = bit_xor sum (word * 11400714819323198485 % 2 ^ 64)

mixed_fits : (sum word : ℕ) → sum < 2 ^ 64 → mixed sum word < 2 ^ 64
mixed_fits sum word fits = xor_lt 64 sum (word * 11400714819323198485 % 2 ^ 64) fits (omega arith)

mixed_tells : (sum other word word' : ℕ) → sum < 2 ^ 64 → other < 2 ^ 64 → sums.sum_word sum word ≡ sums.sum_word other word' → mixed sum word ≡ mixed other word'
unfolding sums.sum_word
mixed_tells sum other word word' fits fits' same =
    let one = mixed_fits sum word fits in
    let two = mixed_fits other word' fits' in
    turned_tells (mixed sum word) (mixed other word') one two
    (five_tells (rotate_left w64 (mixed sum word) 29) (rotate_left w64 (mixed other word') 29) (turned_fits (mixed sum word) one) (turned_fits (mixed other word') two) same)

sum_fits : (sum word : ℕ) → sums.sum_word sum word < 2 ^ 64
unfolding sums.sum_word
sum_fits sum word = mod_below (rotate_left w64 (mixed sum word) 29 * 5) (2 ^ 64) (omega arith)

word_tells : (sum word word' : ℕ) → sum < 2 ^ 64 → word < 2 ^ 64 → word' < 2 ^ 64 → sums.sum_word sum word ≡ sums.sum_word sum word' → word ≡ word'
word_tells sum word word' fits one two same =
    factor_tells word word' one two
    (xor_tells sum (word * 11400714819323198485 % 2 ^ 64) (word' * 11400714819323198485 % 2 ^ 64) (mixed_tells sum sum word word' fits fits same))

sum_tells : (word sum other : ℕ) → sum < 2 ^ 64 → other < 2 ^ 64 → sums.sum_word sum word ≡ sums.sum_word other word → sum ≡ other
sum_tells word sum other fits fits' same =
    let moved = word * 11400714819323198485 % 2 ^ 64 in
    xor_tells moved sum other (xor_comm moved sum ∙ mixed_tells sum other word word fits fits' same ∙ xor_comm other moved)

-- and so of all words
sums_tell : (words : List ℕ) (sum other : ℕ) → sum < 2 ^ 64 → other < 2 ^ 64 → fold sums.sum_word sum words ≡ fold sums.sum_word other words → sum ≡ other
sums_tell [] sum other fits fits' same = same
sums_tell (word ∷ words) sum other fits fits' same =
    sum_tells word sum other fits fits' (sums_tell words (sums.sum_word sum word) (sums.sum_word other word) (sum_fits sum word) (sum_fits other word) same)

pub words_tell : (before behind : List ℕ) (sum one other : ℕ) → sum < 2 ^ 64 → one < 2 ^ 64 → other < 2 ^ 64
    → fold sums.sum_word sum (before ++ one ∷ behind) ≡ fold sums.sum_word sum (before ++ other ∷ behind) → one ≡ other
words_tell [] behind sum one other fits first second same =
    word_tells sum one other fits first second (sums_tell behind (sums.sum_word sum one) (sums.sum_word sum other) (sum_fits sum one) (sum_fits sum other) same)
words_tell (word ∷ before) behind sum one other fits first second same = words_tell before behind (sums.sum_word sum word) one other (sum_fits sum word) first second same
