-- The blocks of a pcapng file: the octets of a block decide what it is and gives, whatever comes behind.
use Rattle.std.proofs.Common.{◌≡◌, ℕ, ◌+◌, ◌-◌, ◌≤◌, Bool, true, false, List, [], ◌∷◌, ◌++◌, length, refl, sym, ap, ◌∙◌, arith}
use Rattle.std.specs.Prelude.{None, Option, Some, ◌==◌, ◌&&◌, nat_le, nat_lt, slice_get, if◌then◌else◌}
use Rattle.std.proofs.lemmas.Bool.Decides.{nat_tests}
use Rattle.std.proofs.lemmas.List.{length-append}
use Rattle.rtps_ids.specs.declared.order.Order.{Order}
use Rattle.rtps_capture.specs.Blocks as blocks
use Rattle.rtps_capture.specs.Frames as frames
use Rattle.rtps_capture.specs.OctetNumbers as octet_numbers
use Rattle.rtps_capture.specs.declared.blocks.Block.{Block}
use Rattle.rtps_capture.specs.declared.blocks.Interface.{Interface}
use Rattle.rtps_capture.specs.declared.blocks.WholeBlock.{WholeBlock}
use Rattle.rtps_capture.specs.declared.frames.Frame.{Frame}
use Rattle.rtps_capture.specs.declared.layout.block.TheConstants as block
use Rattle.rtps_capture.specs.declared.layout.section.TheConstants as section
use Rattle.rtps_capture.proofs.ComingLemmas.{slice_range-append}
use Rattle.rtps_capture.proofs.OctetLemmas.{four_at-append, two_at-append}

-- the file does not end within it
abbrev pub IsFinished : Block → Type 0
IsFinished Block.Unfinished = ⊥
IsFinished other = Unit {0}

number_same : (one other : ℕ) → (one == other) ≡ true → one ≡ other
number_same one other is = grind (arith, nat_tests)

-- a block that the octets in front decide
abbrev pub AreSameBlocks : Block → Block → Type 0
AreSameBlocks one other = (other ≡ one) × IsFinished one

sized_decided : (kind : ℕ) (order : Order) (octets more : List ℕ) (at size : ℕ) → at + 12 ≤ length octets → at + blocks.needed_sized kind size ≤ length octets
    → AreSameBlocks (blocks.block_sized kind order octets at size) (blocks.block_sized kind order (octets ++ more) at size)
sized_decided kind order octets more at size front enough = by (blocks.is_size kind size) refl enough
  where
    longer : length (octets ++ more) ≡ length octets + length more
    longer = length-append octets more

    chosen : (repeated major : Bool) → IsFinished (if repeated && major then Block.Whole (record { kind = kind; order = order; to = at + size }) else Block.Bad)
    chosen true true = tt
    chosen true false = tt
    chosen false major = tt

    by : (fits : Bool) → blocks.is_size kind size ≡ fits → at + (if fits then size else block.LEAST) ≤ length octets
        → AreSameBlocks
        (if fits then (if nat_le size (length octets - at) then (if blocks.is_repeated order octets at size && blocks.is_major kind order octets at then Block.Whole (record { kind = kind; order = order; to = at + size }) else Block.Bad) else Block.Unfinished) else Block.Bad)
        (if fits then (if nat_le size (length (octets ++ more) - at) then (if blocks.is_repeated order (octets ++ more) at size && blocks.is_major kind order (octets ++ more) at then Block.Whole (record { kind = kind; order = order; to = at + size }) else Block.Bad) else Block.Unfinished) else Block.Bad)
    by false is there = (refl, tt)
    by true is there =
        let least : 12 + blocks.fixed_size kind ≤ size = grind (arith, nat_tests) in
        let one : nat_le size (length octets - at) ≡ true = grind (arith, nat_tests) in
        let other : nat_le size (length (octets ++ more) - at) ≡ true = grind (arith, nat_tests, longer) in
        let repeated : blocks.is_repeated order (octets ++ more) at size ≡ blocks.is_repeated order octets at size =
        ap (λ (n : ℕ). n == size) (four_at-append order octets more (at + size - block.REPETITION) (omega (arith, least, there))) in
        rw (one, other, repeated) (majored (kind == block.SECTION) refl least there)
      where
        majored : (is_section : Bool) → (kind == block.SECTION) ≡ is_section → 12 + blocks.fixed_size kind ≤ size → at + size ≤ length octets
            → AreSameBlocks (if blocks.is_repeated order octets at size && blocks.is_major kind order octets at then Block.Whole (record { kind = kind; order = order; to = at + size }) else Block.Bad)
            (if blocks.is_repeated order octets at size && blocks.is_major kind order (octets ++ more) at then Block.Whole (record { kind = kind; order = order; to = at + size }) else Block.Bad)
        majored false is least there =
            let one : blocks.is_major kind order octets at ≡ true = rw is refl in
            let other : blocks.is_major kind order (octets ++ more) at ≡ true = rw is refl in
            rw (one, other) (refl, chosen (blocks.is_repeated order octets at size) true)
        majored true is least there =
            let same : kind ≡ block.SECTION = grind (arith, nat_tests) in
            let fixed : blocks.fixed_size kind ≡ 16 = ap blocks.fixed_size same in
            let major = two_at-append order octets more (at + section.MAJOR) (omega (arith, least, there, fixed)) in
            rw major (refl, chosen (blocks.is_repeated order octets at size) (blocks.is_major kind order octets at))

with_decided : (kind : ℕ) (order : Order) (octets more : List ℕ) (at : ℕ) → at + 12 ≤ length octets → at + blocks.needed_sized kind (octet_numbers.four_at order octets (at + block.LENGTH)) ≤ length octets
    → AreSameBlocks (blocks.block_with kind order octets at) (blocks.block_with kind order (octets ++ more) at)
unfolding blocks.block_with
with_decided kind order octets more at front enough =
    let size = four_at-append order octets more (at + block.LENGTH) (omega (arith, front)) in
    rw size (sized_decided kind order octets more at (octet_numbers.four_at order octets (at + block.LENGTH)) front enough)

section_decided : (order : Option Order) (octets more : List ℕ) (at : ℕ) → at + 12 ≤ length octets → at + blocks.needed_ordered block.SECTION order octets at ≤ length octets
    → AreSameBlocks (blocks.section_with order octets at) (blocks.section_with order (octets ++ more) at)
section_decided None octets more at front enough = (refl, tt)
section_decided (Some order) octets more at front enough = with_decided block.SECTION order octets more at front enough

pub block_decided : (order : Order) (octets more : List ℕ) (at : ℕ) → at + blocks.block_needed order octets at ≤ length octets → AreSameBlocks (blocks.block_at order octets at) (blocks.block_at order (octets ++ more) at)
unfolding blocks.block_at
block_decided order octets more at enough = by (nat_lt (length octets - at) block.LEAST) refl enough
  where
    all : List ℕ
    all = octets ++ more

    longer : length all ≡ length octets + length more
    longer = length-append octets more

    by : (short : Bool) → nat_lt (length octets - at) block.LEAST ≡ short
        → at + (if short then block.LEAST else if octet_numbers.four_at order octets at == block.SECTION then blocks.needed_ordered block.SECTION (blocks.order_told octets (at + section.MAGIC)) octets at else blocks.needed_sized (octet_numbers.four_at order octets at) (octet_numbers.four_at order octets (at + block.LENGTH))) ≤ length octets
        → AreSameBlocks
        (if nat_lt (length octets - at) block.BODY then Block.Unfinished else if octet_numbers.four_at order octets at == block.SECTION then (if nat_lt (length octets - at) block.LEAST then Block.Unfinished else blocks.section_with (blocks.order_told octets (at + section.MAGIC)) octets at) else blocks.block_with (octet_numbers.four_at order octets at) order octets at)
        (if nat_lt (length all - at) block.BODY then Block.Unfinished else if octet_numbers.four_at order all at == block.SECTION then (if nat_lt (length all - at) block.LEAST then Block.Unfinished else blocks.section_with (blocks.order_told all (at + section.MAGIC)) all at) else blocks.block_with (octet_numbers.four_at order all at) order all at)
    by true is there = absurd (grind (arith, nat_tests))
    by false is there =
        let front : at + 12 ≤ length octets = grind (arith, nat_tests) in
        let one : nat_lt (length octets - at) block.BODY ≡ false = grind (arith, nat_tests) in
        let other : nat_lt (length all - at) block.BODY ≡ false = grind (arith, nat_tests, longer) in
        let next : nat_lt (length all - at) block.LEAST ≡ false = grind (arith, nat_tests, longer) in
        let kind = four_at-append order octets more at (omega (arith, front)) in
        let big = four_at-append Order.Big octets more (at + section.MAGIC) (omega (arith, front)) in
        let little = four_at-append Order.Little octets more (at + section.MAGIC) (omega (arith, front)) in
        rw (one, other, is, next, kind, big, little) (kinds (octet_numbers.four_at order octets at == block.SECTION) front there)
      where
        kinds : (is_section : Bool) → at + 12 ≤ length octets
            → at + (if is_section then blocks.needed_ordered block.SECTION (blocks.order_told octets (at + section.MAGIC)) octets at else blocks.needed_sized (octet_numbers.four_at order octets at) (octet_numbers.four_at order octets (at + block.LENGTH))) ≤ length octets
            → AreSameBlocks
            (if is_section then blocks.section_with (blocks.order_told octets (at + section.MAGIC)) octets at else blocks.block_with (octet_numbers.four_at order octets at) order octets at)
            (if is_section then blocks.section_with (blocks.order_told octets (at + section.MAGIC)) all at else blocks.block_with (octet_numbers.four_at order octets at) order all at)
        kinds true front there = section_decided (blocks.order_told octets (at + section.MAGIC)) octets more at front there
        kinds false front there = with_decided (octet_numbers.four_at order octets at) order octets more at front there

packet_decided : (interfaces : List Interface) (number : ℕ) (whole : WholeBlock) (octets more : List ℕ) (at : ℕ) → at + 32 ≤ whole.to → whole.to ≤ length octets
    → frames.packet_framed interfaces number whole (octets ++ more) at ≡ frames.packet_framed interfaces number whole octets at
packet_decided interfaces number whole octets more at least within =
    let high = four_at-append whole.order octets more (at + 8 + 4) (omega (arith, least, within)) in
    let low = four_at-append whole.order octets more (at + 8 + 4 + 4) (omega (arith, least, within)) in
    let size = four_at-append whole.order octets more (at + 8 + 12) (omega (arith, least, within)) in rw (high, low, size) refl

pub frame_decided : (interfaces : List Interface) (whole : WholeBlock) (octets more : List ℕ) (at : ℕ) → blocks.BlockStands at octets (Block.Whole whole)
    → frames.frame_of_block interfaces whole (octets ++ more) at ≡ frames.frame_of_block interfaces whole octets at
unfolding frames.frame_of_block
frame_decided interfaces whole octets more at stands = by (whole.kind == block.ENHANCED) refl (whole.kind == block.OLD) refl (whole.kind == block.SIMPLE) refl
  where
    all : List ℕ
    all = octets ++ more

    by : (enhanced : Bool) → (whole.kind == block.ENHANCED) ≡ enhanced → (old : Bool) → (whole.kind == block.OLD) ≡ old → (simple : Bool) → (whole.kind == block.SIMPLE) ≡ simple
        → (if enhanced then frames.packet_framed interfaces (octet_numbers.four_at whole.order all (at + 8)) whole all at
        else if old then frames.packet_framed interfaces (octet_numbers.two_at whole.order all (at + 8)) whole all at
        else if simple then frames.simple_framed (slice_get interfaces 0) whole all at else Frame.NoFrame)
        ≡ (if enhanced then frames.packet_framed interfaces (octet_numbers.four_at whole.order octets (at + 8)) whole octets at
        else if old then frames.packet_framed interfaces (octet_numbers.two_at whole.order octets (at + 8)) whole octets at
        else if simple then frames.simple_framed (slice_get interfaces 0) whole octets at else Frame.NoFrame)
    by true is old is_old simple is_simple =
        let kind : whole.kind ≡ 6 = grind (arith, nat_tests) in
        let fixed : blocks.fixed_size whole.kind ≡ 20 = ap blocks.fixed_size kind in
        let number = four_at-append whole.order octets more (at + 8) (omega (arith, stands.0, stands.1, fixed)) in
        rw number (packet_decided interfaces (octet_numbers.four_at whole.order octets (at + 8)) whole octets more at (omega (arith, stands.0, fixed)) stands.1)
    by false is true is_old simple is_simple =
        let kind : whole.kind ≡ 2 = grind (arith, nat_tests) in
        let fixed : blocks.fixed_size whole.kind ≡ 20 = ap blocks.fixed_size kind in
        let number = two_at-append whole.order octets more (at + 8) (omega (arith, stands.0, stands.1, fixed)) in
        rw number (packet_decided interfaces (octet_numbers.two_at whole.order octets (at + 8)) whole octets more at (omega (arith, stands.0, fixed)) stands.1)
    by false is false is_old true is_simple =
        let kind : whole.kind ≡ 3 = grind (arith, nat_tests) in
        let fixed : blocks.fixed_size whole.kind ≡ 4 = ap blocks.fixed_size kind in
        let original = four_at-append whole.order octets more (at + 8) (omega (arith, stands.0, stands.1, fixed)) in rw original refl
    by false is false is_old false is_simple = refl

pub interfaces_decided : (interfaces : List Interface) (whole : WholeBlock) (octets more : List ℕ) (at : ℕ) → blocks.BlockStands at octets (Block.Whole whole)
    → frames.interfaces_behind interfaces whole (octets ++ more) at ≡ frames.interfaces_behind interfaces whole octets at
unfolding frames.interfaces_behind
interfaces_decided interfaces whole octets more at stands = by (whole.kind == block.SECTION) (whole.kind == block.INTERFACE) refl
  where
    all : List ℕ
    all = octets ++ more

    by : (is_section declares : Bool) → (whole.kind == block.INTERFACE) ≡ declares
        → (if is_section then [] else if declares then interfaces ++ frames.interface_of whole all at ∷ [] else interfaces)
        ≡ (if is_section then [] else if declares then interfaces ++ frames.interface_of whole octets at ∷ [] else interfaces)
    by true declares is = refl
    by false false is = refl
    by false true is =
        let kind : whole.kind ≡ 1 = grind (arith, nat_tests) in
        let fixed : blocks.fixed_size whole.kind ≡ 8 = ap blocks.fixed_size kind in
        let link = two_at-append whole.order octets more (at + 8 + 0) (omega (arith, stands.0, stands.1, fixed)) in
        let snap = four_at-append whole.order octets more (at + 8 + 4) (omega (arith, stands.0, stands.1, fixed)) in
        let options = slice_range-append (at + 8 + 8) (whole.to - 4) octets more (omega (arith, stands.0, fixed)) (omega (arith, stands.1)) in rw (link, snap, options) refl

-- a block has the type that stands in front of it
with_kind : (kind : ℕ) (order : Order) (octets : List ℕ) (at : ℕ) (whole : WholeBlock) → blocks.block_with kind order octets at ≡ Block.Whole whole → whole.kind ≡ kind
unfolding blocks.block_with
with_kind kind order octets at whole is = by (blocks.is_size kind size) (nat_le size (length octets - at)) (blocks.is_repeated order octets at size && blocks.is_major kind order octets at) is
  where
    size : ℕ
    size = octet_numbers.four_at order octets (at + block.LENGTH)

    by : (fits there right : Bool) → (if fits then (if there then (if right then Block.Whole (record { kind = kind; order = order; to = at + size }) else Block.Bad) else Block.Unfinished) else Block.Bad) ≡ Block.Whole whole
        → whole.kind ≡ kind
    by false there right none = absurd cc
    by true false right none = absurd cc
    by true true false none = absurd cc
    by true true true some = let same : record { kind = kind; order = order; to = at + size } ≡ whole = cc in ap (λ (w : WholeBlock). w.kind) (sym same)

section_kind : (order : Option Order) (octets : List ℕ) (at : ℕ) (whole : WholeBlock) → blocks.section_with order octets at ≡ Block.Whole whole → whole.kind ≡ block.SECTION
section_kind None octets at whole none = absurd cc
section_kind (Some order) octets at whole is = with_kind block.SECTION order octets at whole is

pub block_kind : (order : Order) (octets : List ℕ) (at : ℕ) (whole : WholeBlock) → blocks.block_at order octets at ≡ Block.Whole whole → whole.kind ≡ octet_numbers.four_at order octets at
unfolding blocks.block_at
block_kind order octets at whole is = by (nat_lt (length octets - at) block.BODY) (octet_numbers.four_at order octets at == block.SECTION) refl (nat_lt (length octets - at) block.LEAST) is
  where
    by : (short is_section : Bool) → (octet_numbers.four_at order octets at == block.SECTION) ≡ is_section → (shorter : Bool)
        → (if short then Block.Unfinished else if is_section then (if shorter then Block.Unfinished else blocks.section_with (blocks.order_told octets (at + section.MAGIC)) octets at) else blocks.block_with (octet_numbers.four_at order octets at) order octets at) ≡ Block.Whole whole
        → whole.kind ≡ octet_numbers.four_at order octets at
    by true is_section same shorter none = absurd cc
    by false true same true none = absurd cc
    by false true same false some = section_kind (blocks.order_told octets (at + section.MAGIC)) octets at whole some ∙ sym (number_same (octet_numbers.four_at order octets at) block.SECTION same)
    by false false same shorter some = with_kind (octet_numbers.four_at order octets at) order octets at whole some
