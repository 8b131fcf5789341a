-- The course of a capture, step by step: it goes by what is left of the octets.
use Rattle.std.proofs.Common.{◌≡◌, ℕ, zero, suc, ◌+◌, ◌-◌, ◌<◌, ◌≤◌, Bool, true, false, List, [], ◌++◌, length, drop, take, refl, sym, ap, ap₂, ◌∙◌, arith}
use Rattle.std.specs.Prelude.{None, Option, Some, Result, Ok, Err, nat_le, nat_lt, if◌then◌else◌, slice_range}
use Rattle.std.proofs.lemmas.Bool.Decides.{nat_tests}
use Rattle.std.proofs.lemmas.List.{drop-drop, drop_all, length-drop}
use Rattle.rtps_capture.specs.Blocks as blocks
use Rattle.rtps_capture.specs.Course as course
use Rattle.rtps_capture.specs.Frames as frames
use Rattle.rtps_capture.specs.Left as left_spec
use Rattle.rtps_capture.specs.OctetNumbers as octet_numbers
use Rattle.rtps_capture.specs.Times as times
use Rattle.rtps_capture.specs.declared.blocks.Block.{Block}
use Rattle.rtps_capture.specs.declared.blocks.Interface.{Interface}
use Rattle.rtps_capture.specs.declared.capture.CaptureFault.{CaptureFault}
use Rattle.rtps_capture.specs.declared.captures.Captures.{Captures}
use Rattle.rtps_capture.specs.declared.frames.Frame.{Frame}
use Rattle.rtps_capture.specs.declared.frames.Records.{Records}
use Rattle.rtps_capture.specs.declared.layout.record.TheConstants as frame_header
use Rattle.rtps_capture.proofs.BlockLemmas.{block_moves, frame_moves, interfaces_move, moved_block}
use Rattle.rtps_capture.proofs.ComingLemmas.{slice_range-append}
use Rattle.rtps_capture.proofs.FrameLemmas.{block_stands, left-done, left-step, step_leads}
use Rattle.rtps_capture.proofs.OctetLemmas.{four_at-drop}

slice_range-drop : (by from to : ℕ) (octets : List ℕ) → slice_range octets (by + from) (by + to) ≡ slice_range (drop by octets) from to
slice_range-drop by from to octets = let size : (by + to) - (by + from) ≡ to - from = omega arith in ap₂ take size (sym (drop-drop from by octets))

-- what a frame gives does not depend on the place from which places are counted, nor on what is behind it
frame_moved : (captures : Captures) (most by : ℕ) (octets : List ℕ) (notes : course.Notes) (frame : Frame)
    → course.frame_gives captures most octets notes (left_spec.moved_frame by frame) ≡ course.frame_gives captures most (drop by octets) notes frame
unfolding course.frame_gives course.gives_captured
frame_moved captures most by octets notes (Frame.Captured frame) = rw (slice_range-drop by frame.range.from frame.range.to octets) refl
frame_moved captures most by octets notes (Frame.Unread link time) = refl
frame_moved captures most by octets notes Frame.NoFrame = refl
frame_moved captures most by octets notes Frame.Rest = refl
frame_moved captures most by octets notes Frame.BadBlock = refl
frame_moved captures most by octets notes Frame.Damaged = refl
frame_moved captures most by octets notes Frame.CutFrame = refl

pub frame_within : (captures : Captures) (most : ℕ) (octets more : List ℕ) (notes : course.Notes) (frame : Frame) → frames.StandsInFile (length octets) frame
    → course.frame_gives captures most (octets ++ more) notes frame ≡ course.frame_gives captures most octets notes frame
unfolding course.frame_gives course.gives_captured
frame_within captures most octets more notes (Frame.Captured frame) stands = rw (slice_range-append frame.range.from frame.range.to octets more stands.0 stands.1) refl
frame_within captures most octets more notes (Frame.Unread link time) stands = refl
frame_within captures most octets more notes Frame.NoFrame stands = refl
frame_within captures most octets more notes Frame.Rest stands = refl
frame_within captures most octets more notes Frame.BadBlock stands = refl
frame_within captures most octets more notes Frame.Damaged stands = refl
frame_within captures most octets more notes Frame.CutFrame stands = refl

-- a step of what is left, with places counted from its front
pub record Moves (unread : frames.Unread) (one other : frames.Step) : Type 0 where
  pub gives : one.gives ≡ left_spec.moved_frame unread.at other.gives
  pub next : left_spec.behind_passed one.next ≡ left_spec.behind_passed other.next

end_moves : (unread : frames.Unread) (frame : Frame) → left_spec.moved_frame unread.at frame ≡ frame → Moves unread (frames.end_with frame unread) (frames.end_with frame (left_spec.behind_passed unread))
end_moves unread frame same =
    let octets = drop unread.at unread.octets in
    record {
      gives = sym same;
      next =
          ap (λ (l : List ℕ). record unread { octets = l; at = 0 })
          (drop_all (length unread.octets) unread.octets (omega arith) ∙ sym (drop_all (length octets) octets (omega arith)));
    }

-- one of two steps
abbrev chosen : Bool → frames.Step → frames.Step → frames.Step
chosen is one other = if is then one else other

-- a record that is whole
abbrev whole_step : frames.Unread → Records → ℕ → frames.Step
whole_step unread records size = record {
  gives = Frame.Captured (record {
    link = records.link;
    range = record { from = frames.frame_from unread; to = frames.frame_from unread + size };
    time = Some (times.record_time records.nanoseconds unread.order unread.octets unread.at);
  });
  next = record unread { at = frames.frame_from unread + size };
}

whole_moves : (unread : frames.Unread) (records : Records) (size : ℕ) → Moves unread (whole_step unread records size) (whole_step (left_spec.behind_passed unread) records size)
whole_moves unread records size =
    let seconds = four_at-drop unread.order unread.octets unread.at (0 + 0) in
    let fraction = four_at-drop unread.order unread.octets unread.at (0 + 4) in
    let to : frames.frame_from unread + size ≡ unread.at + (0 + 16 + size) = omega arith in
    record {
      gives = rw (seconds, fraction, to) refl;
      next =
          ap (λ (l : List ℕ). record unread { octets = l; at = 0 })
          (ap (λ (n : ℕ). drop n unread.octets) to ∙ sym (drop-drop (0 + 16 + size) unread.at unread.octets));
    }

record_moves : (unread : frames.Unread) (records : Records) → unread.at < length unread.octets
    → Moves unread (frames.step_of_record unread records) (frames.step_of_record (left_spec.behind_passed unread) records)
record_moves unread records left = rw (room, same) (by (nat_le (frames.frame_from unread) (length unread.octets)) refl)
  where
    front : frames.Unread
    front = left_spec.behind_passed unread

    size : ℕ
    size = octet_numbers.four_at unread.order unread.octets (unread.at + frame_header.CAPTURED)

    shorter : length front.octets ≡ length unread.octets - unread.at
    shorter = length-drop unread.at unread.octets

    room : nat_le (frames.frame_from front) (length front.octets) ≡ nat_le (frames.frame_from unread) (length unread.octets)
    room = grind (arith, nat_tests, shorter)

    same : octet_numbers.four_at front.order front.octets (front.at + frame_header.CAPTURED) ≡ size
    same = four_at-drop unread.order unread.octets unread.at (0 + 8)

    by : (there : Bool) → nat_le (frames.frame_from unread) (length unread.octets) ≡ there
        → Moves unread (if there then frames.step_of_sized unread records size else frames.end_with Frame.Rest unread) (if there then frames.step_of_sized front records size else frames.end_with Frame.Rest front)
    by false is = end_moves unread Frame.Rest refl
    by true is = sized (frames.is_damaged unread.captures size)
      where
        fits : nat_le size (length front.octets - frames.frame_from front) ≡ nat_le size (length unread.octets - frames.frame_from unread)
        fits = grind (arith, nat_tests, shorter)

        whole : (fit : Bool) → Moves unread (chosen fit (whole_step unread records size) (frames.end_with Frame.Rest unread)) (chosen fit (whole_step front records size) (frames.end_with Frame.Rest front))
        whole true = whole_moves unread records size
        whole false = end_moves unread Frame.Rest refl

        sized : (damaged : Bool)
            → Moves unread (chosen damaged (frames.end_with Frame.Damaged unread) (chosen (nat_le size (length unread.octets - frames.frame_from unread)) (whole_step unread records size) (frames.end_with Frame.Rest unread)))
            (chosen damaged (frames.end_with Frame.Damaged front) (chosen (nat_le size (length front.octets - frames.frame_from front)) (whole_step front records size) (frames.end_with Frame.Rest front)))
        sized true = end_moves unread Frame.Damaged refl
        sized false = rw fits (whole (nat_le size (length unread.octets - frames.frame_from unread)))

block_stepped : (unread : frames.Unread) (found : Block) → blocks.BlockStands 0 (drop unread.at unread.octets) found
    → Moves unread (frames.step_of_block unread (moved_block unread.at found)) (frames.step_of_block (left_spec.behind_passed unread) found)
block_stepped unread Block.Unfinished stands = end_moves unread Frame.Rest refl
block_stepped unread Block.Bad stands = end_moves unread Frame.BadBlock refl
block_stepped unread (Block.Whole whole) stands =
    let least : 12 + blocks.fixed_size whole.kind ≤ whole.to = omega (arith, stands.0) in
    record {
      gives = frame_moves unread.interfaces whole unread.octets unread.at least;
      next =
          ap₂ (λ (l : List ℕ) (interfaces : List Interface). record unread { octets = l; at = 0; order = whole.order; interfaces = interfaces })
          (sym (drop-drop whole.to unread.at unread.octets)) (interfaces_move unread.interfaces whole unread.octets unread.at (omega (arith, least)));
    }

blocks_move : (unread : frames.Unread) → unread.at < length unread.octets
    → Moves unread (frames.step_of_block unread (blocks.block_at unread.order unread.octets unread.at)) (frames.step_of_block (left_spec.behind_passed unread) (blocks.block_at unread.order (drop unread.at unread.octets) 0))
blocks_move unread left =
    let front = drop unread.at unread.octets in
    rw (block_moves unread.order unread.octets unread.at) (block_stepped unread (blocks.block_at unread.order front 0) (block_stands unread.order front 0 (omega arith)))

pub step_moves : (unread : frames.Unread) → unread.at < length unread.octets → Moves unread (frames.step_of unread) (frames.step_of (left_spec.behind_passed unread))
unfolding frames.step_of
step_moves unread left = by unread.records
  where
    by : (records : Option Records) → Moves unread (frames.step_by unread records) (frames.step_by (left_spec.behind_passed unread) records)
    by None = blocks_move unread left
    by (Some records) = record_moves unread records left

-- the course of what is left, one step on
course_step : (most : ℕ) (notes : course.Notes) (unread : frames.Unread) → unread.at < length unread.octets
    → course.course_left most notes unread ≡ course.course_with (course.frame_gives unread.captures most unread.octets notes (frames.step_of unread).gives) (λ more. course.course_left most more (frames.step_of unread).next)
unfolding course.course_left
course_step most notes unread left =
    let leads = step_leads unread left in
    rw (left-step unread left, leads.same, leads.captures) refl

course_done : (most : ℕ) (notes : course.Notes) (unread : frames.Unread) → length unread.octets ≤ unread.at → course.course_left most notes unread ≡ record { datagrams = []; end = Ok (course.summary_of notes) }
unfolding course.course_left
course_done most notes unread past = rw (left-done unread past) refl

with_same : (given : Result course.Given CaptureFault) (one other : course.Notes → course.Course) → ((next : course.Notes) → one next ≡ other next) → course.course_with given one ≡ course.course_with given other
with_same (Ok given) one other same = rw (same given.notes) refl
with_same (Err fault) one other same = refl

-- so much of a file is told the same, whatever is passed in front of it
abbrev AreMoved : ℕ → ℕ → Type 0
AreMoved n most = (notes : course.Notes) (unread : frames.Unread) → length unread.octets ≤ unread.at + n → course.course_left most notes unread ≡ course.course_left most notes (left_spec.behind_passed unread)

one_moves : (n most : ℕ) → AreMoved n most → (notes : course.Notes) (unread : frames.Unread) → length unread.octets ≤ unread.at + suc n → unread.at < length unread.octets
    → course.course_left most notes unread ≡ course.course_left most notes (left_spec.behind_passed unread)
one_moves n most others notes unread enough left =
    let front = left_spec.behind_passed unread in
    let shorter = length-drop unread.at unread.octets in
    let there : front.at < length front.octets = omega (arith, shorter, left) in
    let moves = step_moves unread left in
    let one = step_leads unread left in
    let other = step_leads front there in
    let size = ap (λ (l : List ℕ). length l) one.same in
    let rest = ap (λ (l : List ℕ). length l) other.same in
    let more : (next : course.Notes) → course.course_left most next (frames.step_of unread).next ≡ course.course_left most next (frames.step_of front).next = λ next.
    others next (frames.step_of unread).next (omega (arith, one.onward, size, enough)) ∙ ap (course.course_left most next) moves.next
    ∙ sym (others next (frames.step_of front).next (omega (arith, other.onward, rest, shorter, enough))) in
    let gives : course.frame_gives unread.captures most unread.octets notes (frames.step_of unread).gives ≡ course.frame_gives front.captures most front.octets notes (frames.step_of front).gives =
    ap (course.frame_gives unread.captures most unread.octets notes) moves.gives ∙ frame_moved unread.captures most unread.at unread.octets notes (frames.step_of front).gives in
    course_step most notes unread left
    ∙ ap (λ (given : Result course.Given CaptureFault). course.course_with given (λ next. course.course_left most next (frames.step_of unread).next)) gives
    ∙ with_same (course.frame_gives front.captures most front.octets notes (frames.step_of front).gives) (λ next. course.course_left most next (frames.step_of unread).next)
    (λ next. course.course_left most next (frames.step_of front).next) more
    ∙ sym (course_step most notes front there)

none_moves : (most : ℕ) (notes : course.Notes) (unread : frames.Unread) → length unread.octets ≤ unread.at → course.course_left most notes unread ≡ course.course_left most notes (left_spec.behind_passed unread)
none_moves most notes unread past =
    let shorter = length-drop unread.at unread.octets in course_done most notes unread past ∙ sym (course_done most notes (left_spec.behind_passed unread) (omega (arith, shorter, past)))

all_move : (n most : ℕ) → AreMoved n most
all_move zero most notes unread enough = none_moves most notes unread (omega (arith, enough))
all_move (suc n) most notes unread enough = by (nat_lt unread.at (length unread.octets)) refl (all_move n most)
  where
    by : (left : Bool) → nat_lt unread.at (length unread.octets) ≡ left → AreMoved n most → course.course_left most notes unread ≡ course.course_left most notes (left_spec.behind_passed unread)
    by true is others = one_moves n most others notes unread enough (grind (arith, nat_tests))
    by false is others = none_moves most notes unread (grind (arith, nat_tests))

-- behind a frame where nothing can be found the course ends, whatever is there
ended : (captures : Captures) (most : ℕ) (octets others : List ℕ) (notes : course.Notes) (frame : Frame) (one other : course.Notes → course.Course) → left_spec.ends_reading frame ≡ true
    → course.course_with (course.frame_gives captures most octets notes frame) one ≡ course.course_with (course.frame_gives captures most others notes frame) other
unfolding course.frame_gives
ended captures most octets others notes (Frame.Captured frame) one other is = absurd cc
ended captures most octets others notes (Frame.Unread link time) one other is = absurd cc
ended captures most octets others notes Frame.NoFrame one other is = absurd cc
ended captures most octets others notes Frame.Rest one other is = absurd cc
ended captures most octets others notes Frame.BadBlock one other is = refl
ended captures most octets others notes Frame.Damaged one other is = refl
ended captures most octets others notes Frame.CutFrame one other is = absurd cc

-- A step over all that is left was taken, and its frame stands in what is held: so the course goes on.
pub course_given : (most : ℕ) (notes : course.Notes) (old new : frames.Unread) (held more : List ℕ) (frame : Frame) → old.at + 1 ≤ length old.octets → left_spec.IsStep (frames.step_of (left_spec.behind_passed old)) frame new
    → new.octets ≡ held ++ more → frames.StandsInFile (length held) frame
    → course.course_left most notes old ≡ course.course_with (course.frame_gives old.captures most held notes frame) (λ next. course.course_left most next new)
course_given most notes old new held more frame left step octets stands =
    all_move (length old.octets) most notes old (omega arith) ∙ course_step most notes front there
    ∙ ap (λ (f : Frame). course.course_with (course.frame_gives old.captures most front.octets notes f) (λ next. course.course_left most next (frames.step_of front).next)) (sym step.0)
    ∙ by (left_spec.ends_reading frame) refl
  where
    front : frames.Unread
    front = left_spec.behind_passed old

    there : front.at < length front.octets
    there = omega (arith, length-drop old.at old.octets, left)

    by : (ends : Bool) → left_spec.ends_reading frame ≡ ends
        → course.course_with (course.frame_gives old.captures most front.octets notes frame) (λ next. course.course_left most next (frames.step_of front).next)
        ≡ course.course_with (course.frame_gives old.captures most held notes frame) (λ next. course.course_left most next new)
    by true is = ended old.captures most front.octets held notes frame (λ next. course.course_left most next (frames.step_of front).next) (λ next. course.course_left most next new) is
    by false is =
        let same = step.1 is in
        let all : front.octets ≡ held ++ more = sym (step_leads front there).same ∙ ap (λ (u : frames.Unread). u.octets) (sym same) ∙ octets in
        ap (λ (l : List ℕ). course.course_with (course.frame_gives old.captures most l notes frame) (λ next. course.course_left most next (frames.step_of front).next)) all
        ∙ ap (λ (given : Result course.Given CaptureFault). course.course_with given (λ next. course.course_left most next (frames.step_of front).next)) (frame_within old.captures most held more notes frame stands)
        ∙ ap (λ (u : frames.Unread). course.course_with (course.frame_gives old.captures most held notes frame) (λ next. course.course_left most next u)) (sym same)

-- no frame is left
pub course_ends : (most : ℕ) (notes : course.Notes) (unread : frames.Unread) → length unread.octets ≤ unread.at → course.course_left most notes unread ≡ record { datagrams = []; end = Ok (course.summary_of notes) }
course_ends most notes unread past = course_done most notes unread past
