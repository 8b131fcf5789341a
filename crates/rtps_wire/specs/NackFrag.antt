-- NACK_FRAG: a reader asks for fragments of a sample. DDSI-RTPS 2.5, 8.3.8.12 "NackFrag", 9.4.5.14 "NackFrag Submessage" and
-- 9.4.2.8 "FragmentNumberSet". own: if its body breaks a rule, it has no fault, but it asks for nothing. It is skipped then.
use Rattle.std.specs.Prelude.{ℕ, ℤ, ◌+◌, ◌*◌, ◌&&◌, pos, int_lt, nat_le, Bool, List, drop, length, map, slice_index, unwrap_or, Option, Some, None, if◌then◌else◌}
use Rattle.std.specs.Int.RustNames.{unsigned_abs}
use Rattle.std.specs.List.{range_with_len}
use Rattle.rtps_ids.specs.NumberSet as number_set
use Rattle.rtps_ids.specs.Octets as octets
use Rattle.rtps_ids.specs.declared.layout.set.TheConstants as set
use Rattle.rtps_ids.specs.declared.order.Order.{Order}
use Rattle.rtps_wire.specs.Fields as fields
use Rattle.rtps_wire.specs.Message as message
use Rattle.rtps_wire.specs.Skipped as skipped
use Rattle.rtps_wire.specs.declared.nack_frag.NackFrag.{NackFrag}
use Rattle.rtps_wire.specs.declared.layout.id.TheConstants as id
use Rattle.rtps_wire.specs.declared.layout.nack_frag.TheConstants as nack_frag

-- writerSN: the number of the sample
abbrev pub asked_number : Order → List ℕ → ℤ
asked_number order body = octets.sequence_number_of order (drop nack_frag.NUMBER body)

-- the base of the set of fragment numbers
abbrev pub fragment_base : Order → List ℕ → ℕ
fragment_base order body = octets.number_of order 4 (drop nack_frag.BASE body)

-- how many bits the set has
abbrev pub fragment_bits : Order → List ℕ → ℕ
fragment_bits order body = octets.number_of order 4 (drop nack_frag.BITS body)

-- word i of the set; 0 where the body ends before it
abbrev pub fragment_word : Order → List ℕ → ℕ → ℕ
fragment_word order body i = unwrap_or (octets.read_at (octets.number_of order 4) 4 body (nack_frag.WORDS + set.WORD_SIZE * i)) 0

-- eight words, as many as a set can have
abbrev pub fragment_words : Order → List ℕ → List ℕ
fragment_words order body = map (fragment_word order body) (range_with_len 0 8)

-- the offset of the count, after the words that hold the bits
abbrev pub place_of_count : Order → List ℕ → ℕ
place_of_count order body = nack_frag.WORDS + set.WORD_SIZE * number_set.words_of_count (fragment_bits order body)

-- Whether a body can be read: it has all fields; writerSN is a sequence number; the set begins with a fragment's number, which
-- is 1 or more, and has as many bits as a set can have.
abbrev pub is_nack_frag : Order → List ℕ → Bool
is_nack_frag order body =
    nat_le (place_of_count order body + 4) (length body)
    && int_lt (pos 0) (asked_number order body)
    && nat_le 1 (fragment_base order body)
    && nat_le (fragment_bits order body) set.MOST_BITS

-- what such a body asks for. own: bits of a word that stand for no fragment are cleared
abbrev pub nack_frag_of : Order → List ℕ → NackFrag
nack_frag_of order body =
    record {
      reader = fields.entity_at nack_frag.READER body;
      writer = fields.entity_at nack_frag.WRITER body;
      number = unsigned_abs (asked_number order body);
      set = record {
        base = fragment_base order body;
        count = fragment_bits order body;
        words = number_set.cleared_words (fragment_bits order body) (λ i. slice_index (fragment_words order body) i);
      };
      count = octets.number_of order 4 (drop (place_of_count order body) body);
    }

-- what a body asks for, if it can be read
abbrev pub nack_frag_in : Order → List ℕ → Option NackFrag
nack_frag_in order body = if is_nack_frag order body then Some (nack_frag_of order body) else None

-- what the first submessage of these octets asks for, if it is a NACK_FRAG without a fault that can be read
unfoldable pub nack_frag_at : List ℕ → Option NackFrag
nack_frag_at rest = if skipped.begins_with id.NACK_FRAG rest then nack_frag_in (message.order_of (message.flags_of rest)) (message.body_octets rest) else None
