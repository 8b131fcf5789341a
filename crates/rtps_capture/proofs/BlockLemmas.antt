-- The blocks of a pcapng file by what is left of its octets: places are counted from its front.
use Rattle.std.proofs.Common.{◌≡◌, ℕ, ◌+◌, ◌-◌, ◌≤◌, Bool, true, false, List, length, drop, refl, sym, ap, ap₂, ◌∙◌, arith}
use Rattle.std.specs.Prelude.{None, Option, Some, ◌==◌, ◌&&◌, nat_le, nat_lt, slice_get, if◌then◌else◌}
use Rattle.std.proofs.lemmas.Bool.Decides.{nat_tests}
use Rattle.std.proofs.lemmas.List.{length-drop}
use Rattle.rtps_ids.specs.declared.order.Order.{Order}
use Rattle.rtps_capture.specs.Blocks as blocks
use Rattle.rtps_capture.specs.Frames as frames
use Rattle.rtps_capture.specs.Left as left
use Rattle.rtps_capture.specs.LinkTypes as link_types
use Rattle.rtps_capture.specs.OctetNumbers as octet_numbers
use Rattle.rtps_capture.specs.Packets as packets
use Rattle.rtps_capture.specs.Times as times
use Rattle.rtps_capture.specs.declared.blocks.Block.{Block}
use Rattle.rtps_capture.specs.declared.blocks.Interface.{Interface}
use Rattle.rtps_capture.specs.declared.blocks.WholeBlock.{WholeBlock}
use Rattle.rtps_capture.specs.declared.byte_range.ByteRange.{ByteRange}
use Rattle.rtps_capture.specs.declared.captures.Captures.{Captures}
use Rattle.rtps_capture.specs.declared.frames.Frame.{Frame}
use Rattle.rtps_capture.specs.declared.layout.block.TheConstants as block
use Rattle.rtps_capture.specs.declared.layout.section.TheConstants as section
use Rattle.rtps_capture.specs.declared.link_type.LinkType.{LinkType}
use Rattle.rtps_capture.proofs.OctetLemmas.{four_there, range_there, two_there}

-- a block whose end is counted from another place on
abbrev pub moved_block : ℕ → Block → Block
moved_block by (Block.Whole whole) = Block.Whole (record whole { to = by + whole.to })
moved_block by other = other

sized_moves : (kind : ℕ) (order : Order) (octets : List ℕ) (at size : ℕ) → blocks.block_sized kind order octets at size ≡ moved_block at (blocks.block_sized kind order (drop at octets) 0 size)
sized_moves kind order octets at size = by (blocks.is_size kind size) refl
  where
    front : List ℕ
    front = drop at octets

    room : nat_le size (length front - 0) ≡ nat_le size (length octets - at)
    room = grind (arith, nat_tests, length-drop at octets)

    chosen : (there repeated major : Bool)
        → (if there then (if repeated && major then Block.Whole (record { kind = kind; order = order; to = at + size }) else Block.Bad) else Block.Unfinished)
        ≡ moved_block at (if there then (if repeated && major then Block.Whole (record { kind = kind; order = order; to = 0 + size }) else Block.Bad) else Block.Unfinished)
    chosen false repeated major = refl
    chosen true false major = refl
    chosen true true false = refl
    chosen true true true = ap (λ (n : ℕ). Block.Whole (record { kind = kind; order = order; to = n })) {x = at + size} {y = at + (0 + size)} (omega arith)

    by : (fits : Bool) → blocks.is_size kind size ≡ fits
        → (if fits then (if nat_le size (length octets - at) then (if blocks.is_repeated order octets at size && blocks.is_major kind order octets at then Block.Whole (record { kind = kind; order = order; to = at + size }) else Block.Bad) else Block.Unfinished) else Block.Bad)
        ≡ moved_block at (if fits then (if nat_le size (length front - 0) then (if blocks.is_repeated order front 0 size && blocks.is_major kind order front 0 then Block.Whole (record { kind = kind; order = order; to = 0 + size }) else Block.Bad) else Block.Unfinished) else Block.Bad)
    by false is = refl
    by true is =
        let least : 12 ≤ size = grind (arith, nat_tests) in
        let repeated = four_there order octets at (0 + size - block.REPETITION) (at + size - block.REPETITION) (omega arith) in
        let major = two_there order octets at (0 + section.MAJOR) (at + section.MAJOR) (omega arith) in
        rw (room, repeated, major) (chosen (nat_le size (length octets - at)) (blocks.is_repeated order octets at size) (blocks.is_major kind order octets at))

with_moves : (kind : ℕ) (order : Order) (octets : List ℕ) (at : ℕ) → blocks.block_with kind order octets at ≡ moved_block at (blocks.block_with kind order (drop at octets) 0)
unfolding blocks.block_with
with_moves kind order octets at =
    let size = four_there order octets at (0 + block.LENGTH) (at + block.LENGTH) (omega arith) in
    rw size (sized_moves kind order octets at (octet_numbers.four_at order octets (at + block.LENGTH)))

section_moves : (order : Option Order) (octets : List ℕ) (at : ℕ) → blocks.section_with order octets at ≡ moved_block at (blocks.section_with order (drop at octets) 0)
section_moves None octets at = refl
section_moves (Some order) octets at = with_moves block.SECTION order octets at

pub block_moves : (order : Order) (octets : List ℕ) (at : ℕ) → blocks.block_at order octets at ≡ moved_block at (blocks.block_at order (drop at octets) 0)
unfolding blocks.block_at
block_moves order octets at =
    let big = four_there Order.Big octets at (0 + section.MAGIC) (at + section.MAGIC) (omega arith) in
    let little = four_there Order.Little octets at (0 + section.MAGIC) (at + section.MAGIC) (omega arith) in
    rw (short, shorter, big, little) (
    by (nat_lt (length octets - at) block.BODY) (octet_numbers.four_at order octets at == block.SECTION) (nat_lt (length octets - at) block.LEAST))
  where
    front : List ℕ
    front = drop at octets

    short : nat_lt (length front - 0) block.BODY ≡ nat_lt (length octets - at) block.BODY
    short = grind (arith, nat_tests, length-drop at octets)

    shorter : nat_lt (length front - 0) block.LEAST ≡ nat_lt (length octets - at) block.LEAST
    shorter = grind (arith, nat_tests, length-drop at octets)

    by : (cut is_section cut_section : Bool)
        → (if cut then Block.Unfinished else if is_section then (if cut_section then Block.Unfinished else blocks.section_with (blocks.order_told octets (at + section.MAGIC)) octets at) else blocks.block_with (octet_numbers.four_at order octets at) order octets at)
        ≡ moved_block at (if cut then Block.Unfinished else if is_section then (if cut_section then Block.Unfinished else blocks.section_with (blocks.order_told octets (at + section.MAGIC)) front 0) else blocks.block_with (octet_numbers.four_at order octets at) order front 0)
    by true is_section cut_section = refl
    by false true true = refl
    by false true false = section_moves (blocks.order_told octets (at + section.MAGIC)) octets at
    by false false cut_section = with_moves (octet_numbers.four_at order octets at) order octets at

link_moves : (interface : Interface) (ticks : Option ℕ) (by : ℕ) (range : ByteRange) (link : Option LinkType)
    → frames.frame_of_link interface ticks (packets.moved_range by range) link ≡ left.moved_frame by (frames.frame_of_link interface ticks range link)
link_moves interface ticks by range None = refl
link_moves interface ticks by range (Some link) = refl

interface_moves : (ticks : Option ℕ) (by : ℕ) (range : ByteRange) (interface : Option Interface)
    → frames.frame_of_interface ticks (packets.moved_range by range) interface ≡ left.moved_frame by (frames.frame_of_interface ticks range interface)
interface_moves ticks by range None = refl
interface_moves ticks by range (Some interface) = link_moves interface ticks by range (link_types.link_type_numbered interface.link)

framed_moves : (interface : Option Interface) (ticks : Option ℕ) (size by : ℕ) (range : ByteRange)
    → frames.framed interface ticks size (packets.moved_range by range) ≡ left.moved_frame by (frames.framed interface ticks size range)
unfolding frames.framed
framed_moves interface ticks size by range =
    let width : (by + range.to) - (by + range.from) ≡ range.to - range.from = omega arith in
    rw width (chosen (frames.is_damaged Captures.Any size) (nat_le size (range.to - range.from)))
  where
    chosen : (damaged fits : Bool)
        → (if damaged then Frame.Damaged else if fits then frames.frame_of_interface ticks (record { from = by + range.from; to = by + range.from + size }) interface else Frame.CutFrame)
        ≡ left.moved_frame by (if damaged then Frame.Damaged else if fits then frames.frame_of_interface ticks (record { from = range.from; to = range.from + size }) interface else Frame.CutFrame)
    chosen true fits = refl
    chosen false false = refl
    chosen false true =
        ap (λ (n : ℕ). frames.frame_of_interface ticks (record { from = by + range.from; to = n }) interface) {x = by + range.from + size} {y = by + (range.from + size)} (omega arith)
        ∙ interface_moves ticks by (record { from = range.from; to = range.from + size }) interface

-- a range from one place to another
abbrev range_of : ℕ → ℕ → ByteRange
range_of from to = record { from = from; to = to }

later_range : (by from to begin end : ℕ) → begin ≡ by + from → end ≡ by + to → range_of begin end ≡ packets.moved_range by (range_of from to)
later_range by from to begin end first last = ap₂ range_of first last

-- a block that ends so much later
abbrev pub whole_behind : ℕ → WholeBlock → WholeBlock
whole_behind by whole = record whole { to = by + whole.to }

packet_moves : (interfaces : List Interface) (number : ℕ) (whole : WholeBlock) (octets : List ℕ) (at : ℕ) → 12 ≤ whole.to
    → frames.packet_framed interfaces number (whole_behind at whole) octets at ≡ left.moved_frame at (frames.packet_framed interfaces number whole (drop at octets) 0)
packet_moves interfaces number whole octets at least =
    let high = four_there whole.order octets at (0 + 8 + 4) (at + 8 + 4) (omega arith) in
    let low = four_there whole.order octets at (0 + 8 + 4 + 4) (at + 8 + 4 + 4) (omega arith) in
    let size = four_there whole.order octets at (0 + 8 + 12) (at + 8 + 12) (omega arith) in
    let range = later_range at (0 + 8 + 20) (whole.to - 4) (at + 8 + 20) (at + whole.to - 4) (omega arith) (omega arith) in
    rw (high, low, size) (
    ap (frames.framed (slice_get interfaces number) (Some (times.pair_at whole.order octets (at + 8 + 4))) (octet_numbers.four_at whole.order octets (at + 8 + 12))) range
    ∙ framed_moves (slice_get interfaces number) (Some (times.pair_at whole.order octets (at + 8 + 4))) (octet_numbers.four_at whole.order octets (at + 8 + 12)) at (record { from = 0 + 8 + 20; to = whole.to - 4 }))

simple_moves : (first : Option Interface) (whole : WholeBlock) (octets : List ℕ) (at : ℕ) → 16 ≤ whole.to
    → frames.simple_framed first (whole_behind at whole) octets at ≡ left.moved_frame at (frames.simple_framed first whole (drop at octets) 0)
simple_moves first whole octets at least =
    let original = four_there whole.order octets at (0 + 8) (at + 8) (omega arith) in
    let room : (at + whole.to - 4) - (at + 8 + 4) ≡ (whole.to - 4) - (0 + 8 + 4) = omega arith in
    let range = later_range at (0 + 8 + 4) (whole.to - 4) (at + 8 + 4) (at + whole.to - 4) (omega arith) (omega arith) in
    let size = frames.simple_size (frames.snap_of first) (octet_numbers.four_at whole.order octets (at + 8)) ((whole.to - 4) - (0 + 8 + 4)) in
    rw (original, room) (ap (frames.framed first None size) range ∙ framed_moves first None size at (record { from = 0 + 8 + 4; to = whole.to - 4 }))

pub frame_moves : (interfaces : List Interface) (whole : WholeBlock) (octets : List ℕ) (at : ℕ) → 12 + blocks.fixed_size whole.kind ≤ whole.to
    → frames.frame_of_block interfaces (whole_behind at whole) octets at ≡ left.moved_frame at (frames.frame_of_block interfaces whole (drop at octets) 0)
unfolding frames.frame_of_block
frame_moves interfaces whole octets at least = by (whole.kind == block.ENHANCED) (whole.kind == block.OLD) (whole.kind == block.SIMPLE) refl
  where
    front : List ℕ
    front = drop at octets

    later : WholeBlock
    later = whole_behind at whole

    by : (enhanced old simple : Bool) → (whole.kind == block.SIMPLE) ≡ simple
        → (if enhanced then frames.packet_framed interfaces (octet_numbers.four_at whole.order octets (at + 8)) later octets at
        else if old then frames.packet_framed interfaces (octet_numbers.two_at whole.order octets (at + 8)) later octets at
        else if simple then frames.simple_framed (slice_get interfaces 0) later octets at else Frame.NoFrame)
        ≡ left.moved_frame at (if enhanced then frames.packet_framed interfaces (octet_numbers.four_at whole.order front (0 + 8)) whole front 0
        else if old then frames.packet_framed interfaces (octet_numbers.two_at whole.order front (0 + 8)) whole front 0
        else if simple then frames.simple_framed (slice_get interfaces 0) whole front 0 else Frame.NoFrame)
    by true old simple is =
        ap (λ (n : ℕ). frames.packet_framed interfaces n later octets at) (sym (four_there whole.order octets at (0 + 8) (at + 8) (omega arith)))
        ∙ packet_moves interfaces (octet_numbers.four_at whole.order front (0 + 8)) whole octets at (omega (arith, least))
    by false true simple is =
        ap (λ (n : ℕ). frames.packet_framed interfaces n later octets at) (sym (two_there whole.order octets at (0 + 8) (at + 8) (omega arith)))
        ∙ packet_moves interfaces (octet_numbers.two_at whole.order front (0 + 8)) whole octets at (omega (arith, least))
    by false false true is =
        let kind : whole.kind ≡ 3 = grind (arith, nat_tests) in
        let fixed : blocks.fixed_size whole.kind ≡ 4 = ap blocks.fixed_size kind in
        simple_moves (slice_get interfaces 0) whole octets at (omega (arith, least, fixed))
    by false false false is = refl

pub interfaces_move : (interfaces : List Interface) (whole : WholeBlock) (octets : List ℕ) (at : ℕ) → 12 ≤ whole.to
    → frames.interfaces_behind interfaces (whole_behind at whole) octets at ≡ frames.interfaces_behind interfaces whole (drop at octets) 0
unfolding frames.interfaces_behind
interfaces_move interfaces whole octets at least =
    let link = two_there whole.order octets at (0 + 8 + 0) (at + 8 + 0) (omega arith) in
    let snap = four_there whole.order octets at (0 + 8 + 4) (at + 8 + 4) (omega arith) in
    let options = range_there octets at (0 + 8 + 8) (whole.to - 4) (at + 8 + 8) (at + whole.to - 4) (omega arith) (omega arith) in rw (link, snap, options) refl
