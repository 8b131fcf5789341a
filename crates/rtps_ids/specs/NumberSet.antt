-- Sets of sequence numbers. DDSI-RTPS 2.5, 8.3.5.5 "SequenceNumberSet" and 9.4.2.6 "SequenceNumberSet": a base, a count
-- of bits, and words of 32 bits. Bit i stands for the number base + i. The first bit is the highest of the first word.
use Rattle.std.specs.Prelude.{ℕ, ℤ, pos, ◌+◌, ◌-◌, ◌*◌, ◌/◌, ◌%◌, ◌^◌, ◌+ℤ◌, ◌<◌, ◌≡◌, ◌||◌, ◌&&◌, ◌==◌, int_lt, nat_le, nat_lt, Bool, if◌then◌else◌, List, drop, length, map, min, slice_index, Option, Some, None}
use Rattle.std.specs.Int.{bit_at}
use Rattle.std.specs.Int.RustNames.{unsigned_abs}
use Rattle.std.specs.List.{range_with_len}
use Rattle.rtps_ids.specs.Octets as octets_spec
use Rattle.rtps_ids.specs.declared.layout.set.TheConstants as set
use Rattle.rtps_ids.specs.declared.order.Order.{Order}
use Rattle.rtps_ids.specs.declared.set_fault.SetFault.{SetFault}

-- a set as the code keeps it: the base, how many bits it has, and eight words in which no later bit is set
pub record NumberSetValue : Type 0 where
  pub base : ℕ
  pub count : ℕ
  pub words : List ℕ

-- bit i of the words, counted from the highest bit of the first word
abbrev pub bit_of : List ℕ → ℕ → ℕ
bit_of words i = bit_at (slice_index words (i / set.WORD_BITS)) (set.WORD_BITS - 1 - i % set.WORD_BITS)

-- n is base + i for a bit i that is set
pub record IsMember (set : NumberSetValue) (n : ℤ) : Type 0 where
  pub bit : ℕ
  pub in_count : bit < set.count
  pub number : n ≡ pos (set.base + bit)
  pub is_set : bit_of set.words bit ≡ 1

-- the same as a test. A law says that both agree
abbrev pub is_member : NumberSetValue → ℕ → Bool
is_member set n = nat_le set.base n && (nat_lt (n - set.base) set.count && (bit_of set.words (n - set.base) == 1))

-- how many of the bits of word i stand for a number
abbrev pub kept_bits : ℕ → ℕ → ℕ
kept_bits count i = min set.WORD_BITS (count - set.WORD_BITS * i)

-- word i without the bits that stand for no number (own: such bits are ignored, so they are cleared)
abbrev pub cleared : ℕ → ℕ → ℕ → ℕ
cleared count word i = if nat_lt (set.WORD_BITS * i) count then word / 2 ^ (set.WORD_BITS - kept_bits count i) * 2 ^ (set.WORD_BITS - kept_bits count i) else 0

-- the eight words that `word` gives, without the bits that stand for no number
unfoldable pub cleared_words : ℕ → (ℕ → ℕ) → List ℕ
cleared_words count word = map (λ i. cleared count (word i) i) (range_with_len 0 8)

-- Whether no set has this base and count: a base below 0, more than 256 bits, bits although the base is 0, or a number
-- above 2^63 - 1.
-- own: base 0 without bits is a set, since readers send it before they have received anything.
unfoldable pub is_bad : ℤ → ℕ → Bool
is_bad base count =
    int_lt base (pos 0) || nat_lt set.MOST_BITS count || (int_lt base (pos 1) && nat_lt 0 count)
    || (int_lt (pos 0) base && int_lt (pos (2 ^ 63)) (base +ℤ pos count))

-- the base, at the beginning of octets that spell a set
abbrev pub spelled_base : Order → List ℕ → ℤ
spelled_base order octets = octets_spec.sequence_number_of order octets

-- the count, after the base
abbrev pub spelled_count : Order → List ℕ → ℕ
spelled_count order octets = octets_spec.number_of order 4 (drop set.COUNT octets)

-- word i
abbrev pub spelled_word : Order → List ℕ → ℕ → ℕ
spelled_word order octets i = octets_spec.number_of order 4 (drop (set.WORDS + set.WORD_SIZE * i) octets)

-- how many words a set of `count` bits has
abbrev pub words_of_count : ℕ → ℕ
words_of_count count = (count + (set.WORD_BITS - 1)) / set.WORD_BITS

-- how many octets a set of `count` bits takes: the base, the count and the words
abbrev pub octets_of_count : ℕ → ℕ
octets_of_count count = set.WORDS + set.WORD_SIZE * words_of_count count

-- why octets begin with no set: they end before the count does, else the set is bad, else they end before its words do
unfoldable pub set_fault : Order → List ℕ → Option SetFault
set_fault order octets =
    if nat_lt (length octets) set.WORDS then Some SetFault.CutWords
    else if is_bad (spelled_base order octets) (spelled_count order octets) then Some SetFault.BadSet
    else if nat_lt (length octets) (octets_of_count (spelled_count order octets)) then Some SetFault.CutWords
    else None

-- the set that octets without a fault spell at their beginning
abbrev pub spelled_set : Order → List ℕ → NumberSetValue
spelled_set order octets =
    record {
      base = unsigned_abs (spelled_base order octets);
      count = spelled_count order octets;
      words = cleared_words (spelled_count order octets) (spelled_word order octets);
    }

-- what is true of every set of the code
pub record IsKeptSet (set : NumberSetValue) : Type 0 where
  pub few : set.count < 257
  pub start : set.base ≡ 0 → set.count ≡ 0
  pub end : 0 < set.base → set.base + set.count < 2 ^ 63 + 1
  pub low : set.base < 2 ^ 63
  pub eight : length set.words ≡ 8
  -- bits past the count are clear
  pub clear : set.words ≡ cleared_words set.count (λ i. slice_index set.words i)
