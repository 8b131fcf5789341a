-- The frames of a capture of either form, one step at a time.
use Rattle.std.proofs.Common.{◌≡◌, ℕ, zero, suc, ◌+◌, ◌-◌, ◌<◌, ◌≤◌, Bool, true, false, List, [], ◌∷◌, length, refl, sym, ap, ap₂, ◌∙◌, arith}
use Rattle.std.specs.Prelude.{None, Option, Some, ◌==◌, ◌&&◌, nat_lt, nat_le, if◌then◌else◌}
use Rattle.std.proofs.lemmas.Bool.Decides.{nat_tests}
use Rattle.rtps_ids.specs.declared.order.Order.{Order}
use Rattle.rtps_capture.specs.Frames as frames_spec
use Rattle.rtps_capture.specs.Blocks as blocks
use Rattle.rtps_capture.specs.OctetNumbers as octet_numbers
use Rattle.rtps_capture.specs.Times as times
use Rattle.rtps_capture.specs.declared.frames.Frame.{Frame}
use Rattle.rtps_capture.specs.declared.blocks.Block.{Block}
use Rattle.rtps_capture.specs.declared.layout.block.TheConstants as block
use Rattle.rtps_capture.specs.declared.layout.section.TheConstants as section
use Rattle.rtps_capture.specs.declared.frames.Records.{Records}
use Rattle.rtps_capture.specs.declared.layout.record.TheConstants as frame_header

-- a block of this size stands in the file
sized_stands : (kind : ℕ) (order : Order) (file : List ℕ) (at size : ℕ) → at ≤ length file → blocks.BlockStands at file (blocks.block_sized kind order file at size)
sized_stands kind order file at size within =
    by (blocks.is_size kind size) refl (nat_le size (length file - at)) refl (blocks.is_repeated order file at size) (blocks.is_major kind order file at)
  where
    by : (fits : Bool) → blocks.is_size kind size ≡ fits → (there : Bool) → nat_le size (length file - at) ≡ there → (repeated major : Bool)
        → blocks.BlockStands at file (if fits then (if there then (if repeated && major then Block.Whole (record { kind = kind; order = order; to = at + size }) else Block.Bad) else Block.Unfinished) else Block.Bad)
    by false is there has repeated major = tt
    by true is false has repeated major = tt
    by true is true has false major = tt
    by true is true has true false = tt
    by true is true has true true = (grind (arith, nat_tests), grind (arith, nat_tests))

with_stands : (kind : ℕ) (order : Order) (file : List ℕ) (at : ℕ) → at ≤ length file → blocks.BlockStands at file (blocks.block_with kind order file at)
unfolding blocks.block_with
with_stands kind order file at within = sized_stands kind order file at (octet_numbers.four_at order file (at + block.LENGTH)) within

section_stands : (order : Option Order) (file : List ℕ) (at : ℕ) → at ≤ length file → blocks.BlockStands at file (blocks.section_with order file at)
section_stands None file at within = tt
section_stands (Some order) file at within = with_stands block.SECTION order file at within

pub block_stands : (order : Order) (file : List ℕ) (at : ℕ) → at ≤ length file → blocks.BlockStands at file (blocks.block_at order file at)
unfolding blocks.block_at
block_stands order file at within =
    by (nat_lt (length file - at) block.BODY) (octet_numbers.four_at order file at == block.SECTION) (nat_lt (length file - at) block.LEAST)
  where
    by : (short is_section shorter : Bool)
        → blocks.BlockStands at file (if short then Block.Unfinished else if is_section then (if shorter then Block.Unfinished else blocks.section_with (blocks.order_told file (at + section.MAGIC)) file at) else blocks.block_with (octet_numbers.four_at order file at) order file at)
    by true is_section shorter = tt
    by false true true = tt
    by false true false = section_stands (blocks.order_told file (at + section.MAGIC)) file at within
    by false false shorter = with_stands (octet_numbers.four_at order file at) order file at within

-- a step leads on in the same file
pub record LeadsOn (old new : frames_spec.Unread) : Type 0 where
  pub onward : old.at < new.at
  pub same : new.octets ≡ old.octets
  pub captures : new.captures ≡ old.captures

block_leads : (unread : frames_spec.Unread) (found : Block) → unread.at < length unread.octets → blocks.BlockStands unread.at unread.octets found → LeadsOn unread (frames_spec.step_of_block unread found).next
block_leads unread Block.Unfinished left stands = record { onward = left; same = refl; captures = refl }
block_leads unread Block.Bad left stands = record { onward = left; same = refl; captures = refl }
block_leads unread (Block.Whole whole) left stands = record { onward = omega (arith, stands.0); same = refl; captures = refl }

-- one of two steps
abbrev chosen : Bool → frames_spec.Step → frames_spec.Step → frames_spec.Step
chosen is one other = if is then one else other

-- a record that is whole
abbrev whole_step : frames_spec.Unread → Records → ℕ → frames_spec.Step
whole_step unread records size = record {
  gives = Frame.Captured (record {
    link = records.link;
    range = record { from = frames_spec.frame_from unread; to = frames_spec.frame_from unread + size };
    time = Some (times.record_time records.nanoseconds unread.order unread.octets unread.at);
  });
  next = record unread { at = frames_spec.frame_from unread + size };
}

record_leads : (unread : frames_spec.Unread) (records : Records) → unread.at < length unread.octets → LeadsOn unread (frames_spec.step_of_record unread records).next
record_leads unread records left =
    by (nat_le (frames_spec.frame_from unread) (length unread.octets)) (frames_spec.is_damaged unread.captures size) (nat_le size (length unread.octets - frames_spec.frame_from unread))
  where
    size : ℕ
    size = octet_numbers.four_at unread.order unread.octets (unread.at + frame_header.CAPTURED)

    by : (room damaged fits : Bool)
        → LeadsOn unread (chosen room (chosen damaged (frames_spec.end_with Frame.Damaged unread) (chosen fits (whole_step unread records size) (frames_spec.end_with Frame.Rest unread))) (frames_spec.end_with Frame.Rest unread)).next
    by false damaged fits = record { onward = left; same = refl; captures = refl }
    by true true fits = record { onward = left; same = refl; captures = refl }
    by true false true = record { onward = omega arith; same = refl; captures = refl }
    by true false false = record { onward = left; same = refl; captures = refl }

pub step_leads : (unread : frames_spec.Unread) → unread.at < length unread.octets → LeadsOn unread (frames_spec.step_of unread).next
unfolding frames_spec.step_of
step_leads unread left = by unread.records
  where
    by : (records : Option Records) → LeadsOn unread (frames_spec.step_by unread records).next
    by None = block_leads unread (blocks.block_at unread.order unread.octets unread.at) left (block_stands unread.order unread.octets unread.at (omega arith))
    by (Some records) = record_leads unread records left

steps_within-done : (n : ℕ) (unread : frames_spec.Unread) → length unread.octets ≤ unread.at → frames_spec.steps_within n unread ≡ []
unfolding frames_spec.steps_within
steps_within-done zero unread past = refl
steps_within-done (suc n) unread past = let none : nat_lt unread.at (length unread.octets) ≡ false = grind (arith, nat_tests) in rw none refl

-- as many steps as there are octets are enough
steps_within-enough : (m n : ℕ) (unread : frames_spec.Unread) → length unread.octets ≤ unread.at + m → length unread.octets ≤ unread.at + n → frames_spec.steps_within m unread ≡ frames_spec.steps_within n unread
unfolding frames_spec.steps_within
steps_within-enough zero n unread p q = sym (steps_within-done n unread (omega arith))
steps_within-enough (suc m) zero unread p q = steps_within-done (suc m) unread (omega arith)
steps_within-enough (suc m) (suc n) unread p q = by (nat_lt unread.at (length unread.octets)) refl (steps_within-enough m n (frames_spec.step_of unread).next)
  where
    next : frames_spec.Unread
    next = (frames_spec.step_of unread).next

    by : (left : Bool) → nat_lt unread.at (length unread.octets) ≡ left
        → (length next.octets ≤ next.at + m → length next.octets ≤ next.at + n → frames_spec.steps_within m next ≡ frames_spec.steps_within n next)
        → (if left then (frames_spec.step_of unread).gives ∷ frames_spec.steps_within m next else []) ≡ (if left then (frames_spec.step_of unread).gives ∷ frames_spec.steps_within n next else [])
    by false is rest = refl
    by true is rest =
        let leads = step_leads unread (grind (arith, nat_tests)) in
        let size = ap (λ (l : List ℕ). length l) leads.same in
        ap (λ (more : List Frame). (frames_spec.step_of unread).gives ∷ more) (rest (omega (arith, leads.onward, size)) (omega (arith, leads.onward, size)))

pub left-done : (unread : frames_spec.Unread) → length unread.octets ≤ unread.at → frames_spec.frames_left unread ≡ []
unfolding frames_spec.frames_left
left-done unread past = steps_within-done (length unread.octets - unread.at) unread past

pub left-step : (unread : frames_spec.Unread) → unread.at < length unread.octets → frames_spec.frames_left unread ≡ (frames_spec.step_of unread).gives ∷ frames_spec.frames_left (frames_spec.step_of unread).next
unfolding frames_spec.frames_left frames_spec.steps_within
left-step unread left = by (length unread.octets - unread.at) refl
  where
    next : frames_spec.Unread
    next = (frames_spec.step_of unread).next

    by : (n : ℕ) → length unread.octets - unread.at ≡ n → frames_spec.steps_within n unread ≡ (frames_spec.step_of unread).gives ∷ frames_spec.steps_within (length next.octets - next.at) next
    by zero size = absurd (omega arith)
    by (suc n) size =
        let more : nat_lt unread.at (length unread.octets) ≡ true = grind (arith, nat_tests) in
        let leads = step_leads unread left in
        let same = ap (λ (l : List ℕ). length l) leads.same in
        rw more (ap (λ (frames : List Frame). (frames_spec.step_of unread).gives ∷ frames)
        (steps_within-enough n (length next.octets - next.at) next (omega (arith, leads.onward, same)) (omega arith)))

-- each takes an octet at least
length-steps_within : (n : ℕ) (unread : frames_spec.Unread) → length (frames_spec.steps_within n unread) ≤ n
unfolding frames_spec.steps_within
length-steps_within zero unread = omega arith
length-steps_within (suc n) unread = by (nat_lt unread.at (length unread.octets)) (length-steps_within n (frames_spec.step_of unread).next)
  where
    by : (left : Bool) → length (frames_spec.steps_within n (frames_spec.step_of unread).next) ≤ n
        → length (if left then (frames_spec.step_of unread).gives ∷ frames_spec.steps_within n (frames_spec.step_of unread).next else []) ≤ suc n
    by true rest = omega arith
    by false rest = omega arith

pub length-left : (unread : frames_spec.Unread) → length (frames_spec.frames_left unread) ≤ length unread.octets
unfolding frames_spec.frames_left
length-left unread = omega (arith, length-steps_within (length unread.octets - unread.at) unread)

-- what is read is what the file has
pub read : (unread : frames_spec.Unread) (frames : List Frame) → frames_spec.HasFrames unread frames → frames_spec.frames_left unread ≡ frames
read unread [] past = left-done unread past
read unread (frame ∷ frames) has =
    left-step unread has.0 ∙ ap₂ (λ (f : Frame) (fs : List Frame). f ∷ fs) (sym has.1) (read (frames_spec.step_of unread).next frames has.2)

has_frames : (n : ℕ) (unread : frames_spec.Unread) → length unread.octets ≤ unread.at + n → (frames : List Frame) × frames_spec.HasFrames unread frames
has_frames zero unread enough = ([], omega arith)
has_frames (suc n) unread enough = by (nat_lt unread.at (length unread.octets)) refl (has_frames n (frames_spec.step_of unread).next)
  where
    next : frames_spec.Unread
    next = (frames_spec.step_of unread).next

    by : (left : Bool) → nat_lt unread.at (length unread.octets) ≡ left
        → (length next.octets ≤ next.at + n → (frames : List Frame) × frames_spec.HasFrames next frames) → (frames : List Frame) × frames_spec.HasFrames unread frames
    by false past rest = ([], grind (arith, nat_tests))
    by true left rest =
        let there : unread.at < length unread.octets = grind (arith, nat_tests) in
        let leads = step_leads unread there in
        let size = ap (λ (l : List ℕ). length l) leads.same in
        let more = rest (omega (arith, leads.onward, size)) in ((frames_spec.step_of unread).gives ∷ more.0, (there, refl, more.1))

pub exists : (unread : frames_spec.Unread) → (frames : List Frame) × frames_spec.HasFrames unread frames
exists unread = has_frames (length unread.octets) unread (omega arith)

pub unique : (unread : frames_spec.Unread) (frames others : List Frame) → frames_spec.HasFrames unread frames → frames_spec.HasFrames unread others → frames ≡ others
unique unread frames others has other = sym (read unread frames has) ∙ read unread others other
