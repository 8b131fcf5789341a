-- The sizes and offsets of a set, as the standard has them. Each value is written only here and in `layout`. DDSI-RTPS
-- 2.5, 9.4.2.6 "SequenceNumberSet".
use Rattle.std.specs.Prelude.{◌≡◌}
use Rattle.rtps_ids.specs.declared.layout.set.TheConstants as set

-- the offsets of the count and of the words, the octets and the bits of a word, and the most bits of a set
abbrev pub set_is : Type 0
set_is = (set.COUNT ≡ 8) × (set.WORDS ≡ 12) × (set.WORD_SIZE ≡ 4) × (set.WORD_BITS ≡ 32) × (set.MOST_BITS ≡ 256)
