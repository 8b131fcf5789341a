-- The frames of a capture by what is left of its octets: what is held in front decides what comes next, and places are counted from it.
use Rattle.std.proofs.Common.{◌≡◌, ℕ, ◌+◌, ◌-◌, ◌<◌, ◌≤◌, Bool, true, false, List, [], ◌++◌, length, drop, refl, sym, ap, ap₂, subst, ◌∙◌, append_assoc, append-nil, inl, inr, arith}
use Rattle.std.specs.Prelude.{None, Option, Some, Result, Ok, Err, IfOk, ◌⊎◌, ◌==◌, nat_le, nat_lt, if◌then◌else◌, IfSome, option_and_then, option_map}
use Rattle.std.proofs.lemmas.Bool.Decides.{nat_tests}
use Rattle.std.proofs.lemmas.List.{drop-append-le, length-append, length-drop}
use Rattle.rtps_ids.specs.declared.order.Order.{Order}
use Rattle.rtps_capture.specs.Blocks as blocks
use Rattle.rtps_capture.specs.Frames as frames_spec
use Rattle.rtps_capture.specs.Held as held_spec
use Rattle.rtps_capture.specs.Left as left_spec
use Rattle.rtps_capture.specs.LinkTypes as link_types
use Rattle.rtps_capture.specs.OctetNumbers as octet_numbers
use Rattle.rtps_capture.specs.Opening as opening
use Rattle.rtps_capture.specs.Times as times
use Rattle.rtps_capture.specs.declared.frames.Frame.{Frame}
use Rattle.rtps_capture.specs.declared.blocks.Block.{Block}
use Rattle.rtps_capture.specs.declared.blocks.Interface.{Interface}
use Rattle.rtps_capture.specs.declared.captures.Captures.{Captures}
use Rattle.rtps_capture.specs.declared.frames.Frames.{Frames}
use Rattle.rtps_capture.specs.declared.frames.Records.{Records}
use Rattle.rtps_capture.specs.declared.layout.block.TheConstants as block
use Rattle.rtps_capture.specs.declared.layout.file.TheConstants as file_header
use Rattle.rtps_capture.specs.declared.layout.record.TheConstants as frame_header
use Rattle.rtps_capture.specs.declared.layout.section.TheConstants as section
use Rattle.rtps_capture.specs.declared.link_type.LinkType.{LinkType}
use Rattle.rtps_capture.specs.declared.read_fault.ReadFault.{ReadFault}
use Rattle.rtps_capture.proofs.BlockFrontLemmas.{IsFinished, block_decided, block_kind, frame_decided, interfaces_decided}
use Rattle.rtps_capture.proofs.FrameLemmas.{block_stands, step_leads}
use Rattle.rtps_capture.proofs.OctetLemmas.{four_at-append, two_at-append}
use Rattle.rtps_capture.proofs.Offered.{is_pcapng-append, order_of-append}

-- with more octets behind
abbrev pub with_more : frames_spec.Unread → List ℕ → frames_spec.Unread
with_more unread more = record unread { octets = unread.octets ++ more }

-- a step that the octets in front decide
abbrev pub AreSame : frames_spec.Step → frames_spec.Step → List ℕ → Type 0
AreSame one other octets = (other.gives ≡ one.gives) × (left_spec.ends_reading one.gives ≡ false → other.next ≡ record one.next { octets = octets })

pub time-append : (nanoseconds : Bool) (order : Order) (octets more : List ℕ) (at : ℕ) → at + 16 ≤ length octets
    → times.record_time nanoseconds order (octets ++ more) at ≡ times.record_time nanoseconds order octets at
time-append nanoseconds order octets more at within =
    let seconds = four_at-append order octets more (at + 0) (omega arith) in
    let fraction = four_at-append order octets more (at + 4) (omega arith) in rw (seconds, fraction) refl

-- one of two steps
abbrev chosen : Bool → frames_spec.Step → frames_spec.Step → frames_spec.Step
chosen is one other = if is then one else other

-- a record that is whole
abbrev whole_step : frames_spec.Unread → Records → ℕ → ℕ → frames_spec.Step
whole_step unread records size time = record {
  gives = Frame.Captured (record {
    link = records.link;
    range = record { from = frames_spec.frame_from unread; to = frames_spec.frame_from unread + size };
    time = Some time;
  });
  next = record unread { at = frames_spec.frame_from unread + size };
}

record_decided : (unread : frames_spec.Unread) (records : Records) (more : List ℕ) → unread.at + left_spec.record_needed unread ≤ length unread.octets
    → AreSame (frames_spec.step_of_record unread records) (frames_spec.step_of_record (with_more unread more) records) (unread.octets ++ more)
record_decided unread records more enough = by (nat_le (frames_spec.frame_from unread) (length unread.octets)) refl enough
  where
    all : frames_spec.Unread
    all = with_more unread more

    longer : length all.octets ≡ length unread.octets + length more
    longer = length-append unread.octets more

    size : ℕ
    size = octet_numbers.four_at unread.order unread.octets (unread.at + frame_header.CAPTURED)

    by : (room : Bool) → nat_le (frames_spec.frame_from unread) (length unread.octets) ≡ room
        → unread.at + (if room then left_spec.record_size unread size else frame_header.SIZE) ≤ length unread.octets
        → AreSame (if room then frames_spec.step_of_sized unread records size else frames_spec.end_with Frame.Rest unread) (frames_spec.step_of_record all records) all.octets
    by false is there = absurd (grind (arith, nat_tests))
    by true is there =
        let within : unread.at + 16 ≤ length unread.octets = grind (arith, nat_tests) in
        let room : nat_le (frames_spec.frame_from all) (length all.octets) ≡ true = grind (arith, nat_tests, longer) in
        let same : octet_numbers.four_at all.order all.octets (all.at + frame_header.CAPTURED) ≡ size = four_at-append unread.order unread.octets more (unread.at + 8) (omega arith) in
        rw (room, same) (sized (frames_spec.is_damaged unread.captures size) refl there (time-append records.nanoseconds unread.order unread.octets more unread.at within))
      where
        sized : (damaged : Bool) → frames_spec.is_damaged unread.captures size ≡ damaged → unread.at + (if damaged then frame_header.SIZE else frame_header.SIZE + size) ≤ length unread.octets
            → times.record_time records.nanoseconds unread.order all.octets unread.at ≡ times.record_time records.nanoseconds unread.order unread.octets unread.at
            → AreSame (if damaged then frames_spec.end_with Frame.Damaged unread else chosen (nat_le size (length unread.octets - frames_spec.frame_from unread)) (whole_step unread records size (times.record_time records.nanoseconds unread.order unread.octets unread.at)) (frames_spec.end_with Frame.Rest unread))
            (if damaged then frames_spec.end_with Frame.Damaged all else chosen (nat_le size (length all.octets - frames_spec.frame_from all)) (whole_step all records size (times.record_time records.nanoseconds unread.order all.octets unread.at)) (frames_spec.end_with Frame.Rest all)) all.octets
        sized true bad fits time = (refl, λ ends. absurd cc)
        sized false good fits time =
            let one : nat_le size (length unread.octets - frames_spec.frame_from unread) ≡ true = grind (arith, nat_tests) in
            let other : nat_le size (length all.octets - frames_spec.frame_from all) ≡ true = grind (arith, nat_tests, longer) in rw (one, other, time) (refl, λ _. refl)

blocks_same : (unread : frames_spec.Unread) (more : List ℕ) (found : Block) → IsFinished found → blocks.BlockStands unread.at unread.octets found
    → AreSame (frames_spec.step_of_block unread found) (frames_spec.step_of_block (with_more unread more) found) (unread.octets ++ more)
blocks_same unread more Block.Unfinished finished stands = absurd finished
blocks_same unread more Block.Bad finished stands = (refl, λ ends. absurd cc)
blocks_same unread more (Block.Whole whole) finished stands = (
  frame_decided unread.interfaces whole unread.octets more unread.at stands,
  λ _. ap (λ (interfaces : List Interface). record unread { octets = unread.octets ++ more; at = whole.to; order = whole.order; interfaces = interfaces })
      (interfaces_decided unread.interfaces whole unread.octets more unread.at stands),
)

block_step_decided : (unread : frames_spec.Unread) (more : List ℕ) → unread.at + blocks.block_needed unread.order unread.octets unread.at ≤ length unread.octets
    → AreSame (frames_spec.step_of_block unread (blocks.block_at unread.order unread.octets unread.at)) (frames_spec.step_of_block (with_more unread more) (blocks.block_at unread.order (unread.octets ++ more) unread.at))
    (unread.octets ++ more)
block_step_decided unread more enough =
    let same = block_decided unread.order unread.octets more unread.at enough in
    let found = blocks.block_at unread.order unread.octets unread.at in
    subst (λ (other : Block). AreSame (frames_spec.step_of_block unread found) (frames_spec.step_of_block (with_more unread more) other) (unread.octets ++ more)) (sym same.0)
    (blocks_same unread more found same.1 (block_stands unread.order unread.octets unread.at (omega (arith, enough))))

-- the octets that are needed decide what comes next
decided : (unread : frames_spec.Unread) (more : List ℕ) → unread.at + left_spec.needed unread ≤ length unread.octets → left_spec.IsDecided unread more
unfolding frames_spec.step_of
decided unread more enough = by unread.records refl
  where
    by : (records : Option Records) → unread.records ≡ records → AreSame (frames_spec.step_by unread records) (frames_spec.step_by (with_more unread more) records) (unread.octets ++ more)
    by None is =
        let same : left_spec.needed unread ≡ blocks.block_needed unread.order unread.octets unread.at = ap (left_spec.needed_by unread) is in
        block_step_decided unread more (subst (λ (n : ℕ). unread.at + n ≤ length unread.octets) same enough)
    by (Some records) is =
        let same : left_spec.needed unread ≡ left_spec.record_needed unread = ap (left_spec.needed_by unread) is in
        record_decided unread records more (subst (λ (n : ℕ). unread.at + n ≤ length unread.octets) same enough)

-- so do those that are there where no more come
all_decided : (unread : frames_spec.Unread) → unread.at < length unread.octets → left_spec.IsDecided unread []
all_decided unread left = rw (append-nil unread.octets) (refl, λ _. sym (ap (λ (l : List ℕ). record (frames_spec.step_of unread).next { octets = l }) (sym (step_leads unread left).same)))

-- those that are held decide what comes next: they are enough, or no more come
pub held_decides : (unread : frames_spec.Unread) (more : List ℕ) → (unread.at + left_spec.needed unread ≤ length unread.octets) ⊎ (more ≡ []) → unread.at < length unread.octets
    → left_spec.IsDecided unread more
held_decides unread more (inl enough) left = decided unread more enough
held_decides unread more (inr none) left = subst (left_spec.IsDecided unread) (sym none) (all_decided unread left)

sized_some : (kind size : ℕ) → 0 < blocks.needed_sized kind size
sized_some kind size = by (blocks.is_size kind size) refl
  where
    by : (fits : Bool) → blocks.is_size kind size ≡ fits → 0 < (if fits then size else block.LEAST)
    by true is = grind (arith, nat_tests)
    by false is = omega arith

needed_some : (unread : frames_spec.Unread) → 0 < left_spec.needed unread
needed_some unread = by unread.records
  where
    sized : (damaged : Bool) (size : ℕ) → 0 < (if damaged then frame_header.SIZE else frame_header.SIZE + size)
    sized true size = omega arith
    sized false size = omega arith

    some : (room damaged : Bool) (size : ℕ) → 0 < (if room then if damaged then frame_header.SIZE else frame_header.SIZE + size else frame_header.SIZE)
    some true damaged size = sized damaged size
    some false damaged size = omega arith

    block_some : (short is_section : Bool) (own : Option Order) (kind size : ℕ)
        → 0 < (if short then 12 else if is_section then blocks.needed_ordered block.SECTION own unread.octets unread.at else blocks.needed_sized kind size)
    block_some true is_section own kind size = omega arith
    block_some false true None kind size = omega arith
    block_some false true (Some order) kind size = sized_some block.SECTION (octet_numbers.four_at order unread.octets (unread.at + block.LENGTH))
    block_some false false own kind size = sized_some kind size

    by : (records : Option Records) → 0 < left_spec.needed_by unread records
    by None =
        let octets = unread.octets in
        let at = unread.at in
        block_some (nat_lt (length octets - at) block.LEAST) (octet_numbers.four_at unread.order octets at == block.SECTION) (blocks.order_told octets (at + section.MAGIC)) (octet_numbers.four_at unread.order octets at)
        (octet_numbers.four_at unread.order octets (at + block.LENGTH))
    by (Some records) =
        let size = octet_numbers.four_at unread.order unread.octets (unread.at + frame_header.CAPTURED) in some (nat_le (frames_spec.frame_from unread) (length unread.octets)) (frames_spec.is_damaged unread.captures size) size

-- a step over what is held is one over all that is left
pub frame_given : (old passed new : Frames) (held next rest more : List ℕ) (frame : Frame) → old.at ≤ length held
    → passed ≡ record old { at = 0 } → next ++ more ≡ drop old.at held ++ rest
    → (passed.at + left_spec.needed (frames_spec.unread_of next passed) ≤ length next) ⊎ (more ≡ []) → passed.at < length next → frames_spec.TakesStep (frames_spec.step_of (frames_spec.unread_of next passed)) frame (frames_spec.unread_of next new)
    → left_spec.GivesFrame (frames_spec.unread_of (held ++ rest) old) (frames_spec.unread_of (next ++ more) new) (Some frame)
frame_given old passed new held next rest more frame within is kept enough some taken =
    let front : drop old.at (held ++ rest) ≡ next ++ more = drop-append-le old.at held rest within ∙ sym kept in
    let size : length (held ++ rest) - old.at ≡ length next + length more = sym (length-drop old.at (held ++ rest)) ∙ ap (λ (l : List ℕ). length l) front ∙ length-append next more in
    let decides = held_decides (frames_spec.unread_of next passed) more enough some in
    let all : left_spec.behind_passed (frames_spec.unread_of (held ++ rest) old) ≡ frames_spec.unread_of (next ++ more) passed = ap₂ frames_spec.unread_of front (sym is) in (
      omega (arith, size, some),
      subst (λ (u : frames_spec.Unread). left_spec.IsStep (frames_spec.step_of u) frame (frames_spec.unread_of (next ++ more) new)) (sym all) (
        taken.0 ∙ sym decides.0,
        λ going. ap (λ (u : frames_spec.Unread). record u { octets = next ++ more }) taken.1 ∙ sym (decides.1 (ap left_spec.ends_reading (sym taken.0) ∙ going)),
      ),
    )

pub none_given : (old passed : Frames) (held next rest more : List ℕ) → old.at ≤ length held → passed ≡ record old { at = 0 }
    → next ++ more ≡ drop old.at held ++ rest → (passed.at + left_spec.needed (frames_spec.unread_of next passed) ≤ length next) ⊎ (more ≡ [])
    → length next ≤ passed.at → left_spec.GivesFrame (frames_spec.unread_of (held ++ rest) old) (frames_spec.unread_of (next ++ more) passed) None
none_given old passed held next rest more within is kept (inl enough) none = absurd (omega (arith, enough, none, needed_some (frames_spec.unread_of next passed)))
none_given old passed held next rest more within is kept (inr ended) none =
    let front : drop old.at (held ++ rest) ≡ next ++ more = drop-append-le old.at held rest within ∙ sym kept in
    let size : length (held ++ rest) - old.at ≡ length next + length more = sym (length-drop old.at (held ++ rest)) ∙ ap (λ (l : List ℕ). length l) front ∙ length-append next more in
    let at : passed.at ≡ 0 = ap (λ (f : Frames). f.at) is in
    let last : length more ≡ 0 = ap (λ (l : List ℕ). length l) ended in
    let whole = length-append next more in (omega (arith, size, at, last, none), omega (arith, at, last, none, whole))

link_type_in-append : (order : Order) (octets more : List ℕ) → 24 ≤ length octets → opening.link_type_in order (octets ++ more) ≡ opening.link_type_in order octets
unfolding opening.link_type_in
link_type_in-append order octets more enough =
    let one : nat_lt (length octets) file_header.SIZE ≡ false = grind (arith, nat_tests) in
    let size = length-append octets more in
    let other : nat_lt (length (octets ++ more)) file_header.SIZE ≡ false = grind (arith, nat_tests, size) in
    let major = two_at-append order octets more 4 (omega arith) in
    let link = four_at-append order octets more 20 (omega arith) in rw (one, other, major, link) refl

-- a file that is no pcapng file begins with no section
not_section : (file : List ℕ) → 4 ≤ length file → blocks.is_pcapng file ≡ false → frames_spec.section_opened file (blocks.block_at Order.Big file 0) ≡ None
not_section file enough other = by (blocks.block_at Order.Big file 0) refl
  where
    unlike : (octet_numbers.four_at Order.Big file 0 == block.SECTION) ≡ false
    unlike = let room : nat_le 4 (length file) ≡ true = grind (arith, nat_tests) in rw room at other

    by : (found : Block) → blocks.block_at Order.Big file 0 ≡ found → frames_spec.section_opened file found ≡ None
    by Block.Unfinished is = refl
    by Block.Bad is = refl
    by (Block.Whole whole) is =
        let kind = block_kind Order.Big file 0 whole is in
        let test : (whole.kind == block.SECTION) ≡ false = ap (λ (n : ℕ). n == block.SECTION) kind ∙ unlike in rw test refl

section_same : (octets more : List ℕ) (found : Block) → frames_spec.section_opened (octets ++ more) found ≡ option_map (λ unread. with_more unread more) (frames_spec.section_opened octets found)
section_same octets more Block.Unfinished = refl
section_same octets more Block.Bad = refl
section_same octets more (Block.Whole whole) = by (whole.kind == block.SECTION)
  where
    by : (section : Bool)
        → (if section then Some (record { captures = Captures.Any; octets = octets ++ more; at = whole.to; order = whole.order; records = None; interfaces = [] }) else None)
        ≡ option_map (λ unread. with_more unread more)
        (if section then Some (record { captures = Captures.Any; octets = octets; at = whole.to; order = whole.order; records = None; interfaces = [] }) else None)
    by true = refl
    by false = refl

section_decided : (octets more : List ℕ) → 4 ≤ length octets → opening.section_needed Captures.Any octets ≤ length octets
    → frames_spec.section_opened (octets ++ more) (blocks.block_at Order.Big (octets ++ more) 0) ≡ option_map (λ unread. with_more unread more) (frames_spec.section_opened octets (blocks.block_at Order.Big octets 0))
section_decided octets more there enough = by (blocks.is_pcapng octets) refl
  where
    by : (pcapng : Bool) → blocks.is_pcapng octets ≡ pcapng
        → frames_spec.section_opened (octets ++ more) (blocks.block_at Order.Big (octets ++ more) 0) ≡ option_map (λ unread. with_more unread more) (frames_spec.section_opened octets (blocks.block_at Order.Big octets 0))
    by true is =
        let needed : opening.section_needed Captures.Any octets ≡ blocks.block_needed Order.Big octets 0 = rw is refl in
        let within : 0 + blocks.block_needed Order.Big octets 0 ≤ length octets = subst (λ (n : ℕ). 0 + n ≤ length octets) needed (omega (arith, enough)) in
        ap (frames_spec.section_opened (octets ++ more)) (block_decided Order.Big octets more 0 within).0 ∙ section_same octets more (blocks.block_at Order.Big octets 0)
    by false is =
        not_section (octets ++ more) (omega (arith, there, length-append octets more)) (is_pcapng-append octets more there ∙ is)
        ∙ sym (ap (option_map (λ (unread : frames_spec.Unread). with_more unread more)) (not_section octets there is))

-- what a header begins is what the octets in front decide
opened_decided : (captures : Captures) (octets more : List ℕ) → opening.opening_needed captures octets ≤ length octets
    → frames_spec.opened captures (octets ++ more) ≡ option_map (λ unread. with_more unread more) (frames_spec.opened captures octets)
unfolding frames_spec.opened
opened_decided captures octets more enough = by (nat_lt (length octets) 4) refl
  where
    four : 4 ≤ length octets → frames_spec.opened_by captures (octets ++ more) (opening.order_of (octets ++ more)) ≡ option_map (λ unread. with_more unread more) (frames_spec.opened_by captures octets (opening.order_of octets))
    four there = ap (frames_spec.opened_by captures (octets ++ more)) (order_of-append octets more there) ∙ ordered (opening.order_of octets) refl captures enough
      where
        short : nat_lt (length octets) 4 ≡ false
        short = grind (arith, nat_tests)

        ordered : (order : Option Order) → opening.order_of octets ≡ order → (those : Captures) → opening.opening_needed those octets ≤ length octets
            → frames_spec.opened_by those (octets ++ more) order ≡ option_map (λ unread. with_more unread more) (frames_spec.opened_by those octets order)
        ordered None is Captures.Classic needed = refl
        ordered None is Captures.Any needed =
            let all : opening.opening_needed Captures.Any octets ≡ opening.section_needed Captures.Any octets = rw (short, is) refl in
            section_decided octets more there (subst (λ (n : ℕ). n ≤ length octets) all needed)
        ordered (Some order) is those needed =
            let all : opening.opening_needed those octets ≡ file_header.SIZE = rw (short, is) refl in
            let enough : 24 ≤ length octets = omega (arith, all, needed) in
            ap (option_map (frames_spec.classic_with those (octets ++ more) order)) (ap (option_and_then (link_types.link_read those)) (link_type_in-append order octets more enough))
            ∙ linked (option_and_then (link_types.link_read those) (opening.link_type_in order octets))
          where
            linked : (link : Option LinkType) → option_map (frames_spec.classic_with those (octets ++ more) order) link
                ≡ option_map (λ unread. with_more unread more) (option_map (frames_spec.classic_with those octets order) link)
            linked None = refl
            linked (Some link) = let magic = four_at-append order octets more 0 (omega (arith, there)) in rw magic refl

    by : (short : Bool) → nat_lt (length octets) 4 ≡ short
        → frames_spec.opened_by captures (octets ++ more) (opening.order_of (octets ++ more)) ≡ option_map (λ unread. with_more unread more) (frames_spec.opened_by captures octets (opening.order_of octets))
    by true is = let few : opening.opening_needed captures octets ≡ 4 = rw is refl in absurd (grind (arith, nat_tests, few, enough))
    by false is = four (grind (arith, nat_tests))

-- So what a step over what is held gives is what comes next: what is held was passed up to the place that was reached, and then filled.
pub step_given : (unread left : Option (List ℕ)) (old held next : held_spec.HeldValue) (before passed after : Frames) (result : Result (Option Frame) ReadFault) → before.at ≤ length old.octets
    → held ≡ record old { octets = drop before.at old.octets } → passed ≡ record before { at = 0 } → held_spec.Fills unread left held next
    → (passed.at + left_spec.needed (frames_spec.unread_of next.octets passed) ≤ length next.octets) ⊎ (next.ended ≡ true)
    → IfOk result (λ given. given ≡ None → (length next.octets ≤ passed.at) × (after ≡ passed))
    → IfOk result (λ given. IfSome given (λ frame. (passed.at < length next.octets) × frames_spec.TakesStep (frames_spec.step_of (frames_spec.unread_of next.octets passed)) frame (frames_spec.unread_of next.octets after)))
    → IfOk result (left_spec.GivesNext unread left old next before after)
step_given unread left old held next before passed after result within is_held is fills enough none some = by result none some
  where
    more : List ℕ
    more = fills.more

    reads : held_spec.Reads unread left old next more
    reads =
        let count : held.read ≡ old.read = ap (λ (h : held_spec.HeldValue). h.read) is_held in
        let same : held.ended ≡ old.ended = ap (λ (h : held_spec.HeldValue). h.ended) is_held in
        record {
          taken = fills.reads.taken;
          counted = fills.reads.counted ∙ ap (λ (n : ℕ). n + length more) count;
          closed = λ ended. fills.reads.closed (same ∙ ended);
          at_end = λ was. fills.reads.at_end (λ ended. was (sym same ∙ ended));
        }

    kept : (later : List ℕ) → next.octets ++ later ≡ drop before.at old.octets ++ (more ++ later)
    kept later =
        ap (λ (l : List ℕ). l ++ later) (fills.octets ∙ ap (λ (h : held_spec.HeldValue). h.octets ++ more) is_held) ∙ append_assoc (drop before.at old.octets) more later

    chosen_by : (later : List ℕ) → held_spec.MayCome next later → (passed.at + left_spec.needed (frames_spec.unread_of next.octets passed) ≤ length next.octets) ⊎ (next.ended ≡ true)
        → (passed.at + left_spec.needed (frames_spec.unread_of next.octets passed) ≤ length next.octets) ⊎ (later ≡ [])
    chosen_by later may (inl fits) = inl fits
    chosen_by later may (inr ended) = inr (may ended)

    by : (result : Result (Option Frame) ReadFault) → IfOk result (λ given. given ≡ None → (length next.octets ≤ passed.at) × (after ≡ passed))
        → IfOk result (λ given. IfSome given (λ frame. (passed.at < length next.octets) × frames_spec.TakesStep (frames_spec.step_of (frames_spec.unread_of next.octets passed)) frame (frames_spec.unread_of next.octets after)))
        → IfOk result (left_spec.GivesNext unread left old next before after)
    by (Err fault) none some = tt
    by (Ok None) none some = record {
      more = more;
      reads = reads;
      gives = λ later may. subst (λ (f : Frames). left_spec.GivesFrame (frames_spec.unread_of (old.octets ++ (more ++ later)) before) (frames_spec.unread_of (next.octets ++ later) f) None) (sym (none refl).1)
          (none_given before passed old.octets next.octets (more ++ later) later within is (kept later) (chosen_by later may enough) (none refl).0);
    }
    by (Ok (Some frame)) none some = record {
      more = more;
      reads = reads;
      gives = λ later may. frame_given before passed after old.octets next.octets (more ++ later) later frame within is (kept later) (chosen_by later may enough) some.0 some.1;
    }

-- where nothing comes next, the input ended
pub none_ended : (next : held_spec.HeldValue) (passed after : Frames) (result : Result (Option Frame) ReadFault)
    → (passed.at + left_spec.needed (frames_spec.unread_of next.octets passed) ≤ length next.octets) ⊎ (next.ended ≡ true)
    → IfOk result (λ given. given ≡ None → (length next.octets ≤ passed.at) × (after ≡ passed)) → IfOk result (λ given. given ≡ None → next.ended ≡ true)
none_ended next passed after (Err fault) enough none = tt
none_ended next passed after (Ok given) (inl fits) none = λ is. let past = (none is).0 in absurd (omega (arith, fits, past, needed_some (frames_spec.unread_of next.octets passed)))
none_ended next passed after (Ok given) (inr ended) none = λ is. ended

-- what is held of a file decides what it begins with
opened_all : (captures : Captures) (held more : List ℕ) → (opening.opening_needed captures held ≤ length held) ⊎ (more ≡ [])
    → frames_spec.opened captures (held ++ more) ≡ option_map (λ unread. with_more unread more) (frames_spec.opened captures held)
opened_all captures held more (inl enough) = opened_decided captures held more enough
opened_all captures held more (inr none) =
    subst (λ (l : List ℕ). frames_spec.opened captures (held ++ l) ≡ option_map (λ unread. with_more unread l) (frames_spec.opened captures held)) (sym none)
    (rw (append-nil held) (same (frames_spec.opened captures held) refl))
  where
    same : (found : Option frames_spec.Unread) → frames_spec.opened captures held ≡ found → found ≡ option_map (λ unread. with_more unread []) found
    same None is = refl
    same (Some unread) is = ap Some (ap (λ (l : List ℕ). record unread { octets = l }) (sym (append-nil unread.octets)))

chosen_so : (captures : Captures) (held : held_spec.HeldValue) (later : List ℕ) → (opening.opening_needed captures held.octets ≤ length held.octets) ⊎ (held.ended ≡ true) → held_spec.MayCome held later
    → (opening.opening_needed captures held.octets ≤ length held.octets) ⊎ (later ≡ [])
chosen_so captures held later (inl enough) may = inl enough
chosen_so captures held later (inr ended) may = inr (may ended)

-- with whatever comes later, a file begins so
pub opened_so : (captures : Captures) (held : held_spec.HeldValue) (frames : Frames) (later : List ℕ) → (opening.opening_needed captures held.octets ≤ length held.octets) ⊎ (held.ended ≡ true)
    → held_spec.MayCome held later → frames_spec.opened captures held.octets ≡ Some (frames_spec.unread_of held.octets frames)
    → frames_spec.opened captures (held.octets ++ later) ≡ Some (frames_spec.unread_of (held.octets ++ later) frames)
opened_so captures held frames later enough may is =
    opened_all captures held.octets later (chosen_so captures held later enough may) ∙ ap (option_map (λ (unread : frames_spec.Unread). with_more unread later)) is

pub unopened_so : (captures : Captures) (held : held_spec.HeldValue) (later : List ℕ) → (opening.opening_needed captures held.octets ≤ length held.octets) ⊎ (held.ended ≡ true)
    → held_spec.MayCome held later → frames_spec.opened captures held.octets ≡ None → frames_spec.opened captures (held.octets ++ later) ≡ None
unopened_so captures held later enough may is =
    opened_all captures held.octets later (chosen_so captures held later enough may) ∙ ap (option_map (λ (unread : frames_spec.Unread). with_more unread later)) is
