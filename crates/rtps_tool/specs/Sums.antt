-- The sum over datagrams, by which what is read again is held against what was read before. own: a file may be written to while it is
-- read. Where one octet of a datagram is another, the sum is another: each step gives, for one word, another sum for each sum, and for one
-- sum another sum for each word. Where more has changed, it is the same by chance alone. It is no defence against one who looks for
-- two files with the same sum.
use Rattle.std.specs.Prelude.{ℕ, ◌*◌, ◌/◌, ◌%◌, ◌^◌, ◌++◌, ◌∷◌, [], List, bit_xor, drop, length, map}
use Rattle.std.specs.Int.{w64, from_le_bytes, rotate_left}
use Rattle.std.specs.List.{fold}
use Rattle.std.specs.Simd.{first_chunks}
use Rattle.rtps_capture.specs.Course as course

-- the sum over no datagrams. own: not 0, which words that are 0 would leave as it is. It is the fraction of pi, in 64 bits
abbrev pub initial : ℕ
initial = 2611923443488327891

-- a sum with a word more. own: each of these four steps can be undone; the word is multiplied by 2 ^ 64 / 1.618.., the odd number beside it
unfoldable pub sum_word : ℕ → ℕ → ℕ
sum_word sum word = rotate_left w64 (bit_xor sum (word * 11400714819323198485 % 2 ^ 64)) 29 * 5 % 2 ^ 64

-- up to eight octets as a word, the lowest one first; where there are fewer, as if octets of 0 came behind them
abbrev pub word_of : List ℕ → ℕ
word_of octets = from_le_bytes w64 octets

-- the words of a datagram: its size, each eight octets, and those that are left behind them, which can be none
abbrev pub words_of : List ℕ → List ℕ
words_of octets = length octets ∷ (map word_of (first_chunks 8 (length octets / 8) octets) ++ word_of (drop (length octets / 8 * 8) octets) ∷ [])

-- with the words of these octets
abbrev pub sum_octets : ℕ → List ℕ → ℕ
sum_octets sum octets = fold sum_word sum (words_of octets)

-- with one datagram more
abbrev pub sum_with : ℕ → course.DatagramValue → ℕ
sum_with sum one = sum_octets sum one.octets

-- with all of these
abbrev pub sum_of : ℕ → List course.DatagramValue → ℕ
sum_of sum datagrams = fold sum_with sum datagrams

-- the octets of each of them
abbrev pub octets_of : List course.DatagramValue → List (List ℕ)
octets_of datagrams = map (λ (one : course.DatagramValue). one.octets) datagrams
