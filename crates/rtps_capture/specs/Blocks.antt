-- The blocks of a pcapng file. PCAP Now Generic Capture File Format (IETF draft), 3 "General File Structure" and 4 "Block
-- Definitions".
-- own: of a block its length is looked at first, then whether the file has all of it, then the repetition, then its fields. Of
-- a section header the number that tells the order comes before these. Of options two
-- of an interface are read. The stated length of a section is not looked at, and blocks of other types are passed over.
use Rattle.std.specs.Prelude.{ℕ, ◌+◌, ◌-◌, ◌%◌, ◌==◌, ◌≤◌, ◌&&◌, ◌||◌, not, nat_le, nat_lt, Bool, if◌then◌else◌, List, length, Option, Some, None}
use Rattle.rtps_ids.specs.declared.order.Order.{Order}
use Rattle.rtps_capture.specs.OctetNumbers as octet_numbers
use Rattle.rtps_capture.specs.declared.blocks.Block.{Block}
use Rattle.rtps_capture.specs.declared.layout.block.TheConstants as block
use Rattle.rtps_capture.specs.declared.layout.interface.TheConstants as interface
use Rattle.rtps_capture.specs.declared.layout.packet_block.TheConstants as packet_block
use Rattle.rtps_capture.specs.declared.layout.section.TheConstants as section

-- a file that begins with the type of a section header
abbrev pub is_pcapng : List ℕ → Bool
is_pcapng file = nat_le 4 (length file) && octet_numbers.four_at Order.Big file 0 == block.SECTION

-- the order in which four octets are the number that tells it
abbrev pub order_told : List ℕ → ℕ → Option Order
order_told file at = octet_numbers.order_by (λ number. number == section.BYTE_ORDER) file at

-- how many octets the fixed fields of a body have
abbrev pub fixed_size : ℕ → ℕ
fixed_size kind =
    if kind == block.SECTION then section.FIXED
    else if kind == block.INTERFACE then interface.FIXED
    else if kind == block.ENHANCED || kind == block.OLD then packet_block.FIXED
    else if kind == block.SIMPLE then packet_block.SIMPLE
    else 0

-- a length that can be: a multiple of four, with room for the fixed fields
abbrev pub is_size : ℕ → ℕ → Bool
is_size kind size = size % block.UNIT == 0 && nat_le (block.LEAST + fixed_size kind) size

-- the length behind the body is the one in front of it
abbrev pub is_repeated : Order → List ℕ → ℕ → ℕ → Bool
is_repeated order file at size = octet_numbers.four_at order file (at + size - block.REPETITION) == size

-- no section header, or one of the major version that is read
abbrev pub is_major : ℕ → Order → List ℕ → ℕ → Bool
is_major kind order file at = not (kind == block.SECTION) || octet_numbers.two_at order file (at + section.MAJOR) == section.VERSION

-- the block of this type and length
abbrev pub block_sized : ℕ → Order → List ℕ → ℕ → ℕ → Block
block_sized kind order file at size =
    if is_size kind size then
    (if nat_le size (length file - at) then
    (if is_repeated order file at size && is_major kind order file at then Block.Whole (record { kind = kind; order = order; to = at + size }) else Block.Bad)
    else Block.Unfinished)
    else Block.Bad

-- the block of this type, in a section of this order; in front of its body is its length
unfoldable pub block_with : ℕ → Order → List ℕ → ℕ → Block
block_with kind order file at = block_sized kind order file at (octet_numbers.four_at order file (at + block.LENGTH))

-- the section header, once its order is told
abbrev pub section_with : Option Order → List ℕ → ℕ → Block
section_with None file at = Block.Bad
section_with (Some order) file at = block_with block.SECTION order file at

-- the block at a place of a file, in a section of this order
unfoldable pub block_at : Order → List ℕ → ℕ → Block
block_at order file at =
    if nat_lt (length file - at) block.BODY then Block.Unfinished
    else if octet_numbers.four_at order file at == block.SECTION then
    (if nat_lt (length file - at) block.LEAST then Block.Unfinished else section_with (order_told file (at + section.MAGIC)) file at)
    else block_with (octet_numbers.four_at order file at) order file at

-- how many octets decide what a block of this type and length is: all of it, or its front where that tells that it cannot be
abbrev pub needed_sized : ℕ → ℕ → ℕ
needed_sized kind size = if is_size kind size then size else block.LEAST

-- of a block whose numbers lie in this order; None where its front does not tell it
abbrev pub needed_ordered : ℕ → Option Order → List ℕ → ℕ → ℕ
needed_ordered kind None file at = block.LEAST
needed_ordered kind (Some order) file at = needed_sized kind (octet_numbers.four_at order file (at + block.LENGTH))

-- how many octets decide what the block at a place is
abbrev pub block_needed : Order → List ℕ → ℕ → ℕ
block_needed order file at =
    if nat_lt (length file - at) block.LEAST then block.LEAST
    else if octet_numbers.four_at order file at == block.SECTION then needed_ordered block.SECTION (order_told file (at + section.MAGIC)) file at
    else needed_sized (octet_numbers.four_at order file at) (octet_numbers.four_at order file (at + block.LENGTH))

-- a block stands in the file, with room for its fixed fields
abbrev pub BlockStands : ℕ → List ℕ → Block → Type 0
BlockStands at file (Block.Whole whole) = (at + block.LEAST + fixed_size whole.kind ≤ whole.to) × (whole.to ≤ length file)
BlockStands at file other = Unit {0}
