-- Numbers as octets. DDSI-RTPS 2.5, 9.4.5.1.2 "Flags" (flag E gives the order) and 9.3.2 "Mapping of the Types that
-- Appear Within Submessages or Built-in Topic Data" (the octets of each type).
use Rattle.std.specs.Prelude.{ℕ, ◌+◌, ◌*◌, ◌/◌, ◌%◌, ◌^◌, ℤ, nat_le, if◌then◌else◌, List, ◌++◌, drop, length, Option, Some, None}
use Rattle.std.specs.Int.{cast_unsigned, w64}
use Rattle.byteorder.specs.Endian.{big_bytes, big_number, little_bytes, little_number, twos_complement}
use Rattle.rtps_ids.specs.declared.order.Order.{Order}

-- the number that the first `width` octets spell: the sum of octet i times 256 to the power of width - 1 - i for Big,
-- and of octet i times 256 to the power of i for Little
unfoldable pub number_of : Order → ℕ → List ℕ → ℕ
number_of Order.Big width octets = big_number width octets
number_of Order.Little width octets = little_number width octets

-- the sequence number that the first eight octets spell: a signed high part of four octets, and then an unsigned low
-- part of four, in either order (9.3.2, "SequenceNumber_t")
unfoldable pub sequence_number_of : Order → List ℕ → ℤ
sequence_number_of order octets = twos_complement 8 (number_of order 4 octets * 2 ^ 32 + number_of order 4 (drop 4 octets))

-- what `value` reads from offset `at` on, or None if there are fewer than `width` octets
abbrev pub read_at : {X : Type 0} → (List ℕ → X) → ℕ → List ℕ → ℕ → Option X
read_at value width octets at = if nat_le (at + width) (length octets) then Some (value (drop at octets)) else None

-- the `width` octets of a number: octet i is the number divided by 256 to the power of width - 1 - i for Big, and by
-- 256 to the power of i for Little, modulo 256
unfoldable pub octets_of : Order → ℕ → ℕ → List ℕ
octets_of Order.Big width value = big_bytes width value
octets_of Order.Little width value = little_bytes width value

-- the eight octets of a sequence number in two's complement: its high 32 bits, and then its low 32 bits, each in this
-- order (9.3.2, "SequenceNumber_t")
unfoldable pub sequence_number_octets : Order → ℤ → List ℕ
sequence_number_octets order value = octets_of order 4 (cast_unsigned w64 value / 2 ^ 32) ++ octets_of order 4 (cast_unsigned w64 value % 2 ^ 32)
