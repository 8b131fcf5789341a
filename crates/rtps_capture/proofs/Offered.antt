-- Lemmas about the definitions of this crate, for the crates above it: whether octets begin a capture, the first four
-- tell, and what is read of any capture is the same where more datagrams are wanted.
use Rattle.std.proofs.Common.{◌≡◌, ◌≤◌, List, [], ◌∷◌, ℕ, Bool, ◌++◌, length, true, false, refl, ap, sym, ◌∙◌, arith}
use Rattle.std.specs.Prelude.{nat_le, nat_lt, Option, None, Some, Result, Ok, Err}
use Rattle.std.proofs.lemmas.Bool.Decides.{nat_tests}
use Rattle.std.proofs.lemmas.List.{length-append, take-append-le}
use Rattle.rtps_ids.specs.Octets as octets
use Rattle.rtps_ids.specs.declared.order.Order.{Order}
use Rattle.rtps_capture.specs.Capture as capture
use Rattle.rtps_capture.specs.Frames as frames
use Rattle.rtps_capture.specs.Blocks as blocks
use Rattle.rtps_capture.specs.Opening as opening
use Rattle.rtps_capture.specs.declared.capture.CaptureFault.{CaptureFault}
use Rattle.rtps_capture.specs.declared.captures.Captures.{Captures}
use Rattle.rtps_capture.specs.declared.frames.Frame.{Frame}

pub order_of-append : (start more : List ℕ) → 4 ≤ length start → opening.order_of (start ++ more) ≡ opening.order_of start
unfolding opening.order_of
order_of-append start more enough =
    let one : nat_lt (length start) 4 ≡ false = grind (arith, nat_tests) in
    let size : 4 ≤ length (start ++ more) = omega (arith, length-append start more) in
    let other : nat_lt (length (start ++ more)) 4 ≡ false = grind (arith, nat_tests) in
    let same = take-append-le 4 start more enough in
    rw (one, other, same) refl

-- the number of the first octets
number_of-append : (start more : List ℕ) → 4 ≤ length start → octets.number_of Order.Big 4 (start ++ more) ≡ octets.number_of Order.Big 4 start
unfolding octets.number_of
number_of-append [] more enough = absurd (omega arith)
number_of-append (a ∷ []) more enough = absurd (omega arith)
number_of-append (a ∷ b ∷ []) more enough = absurd (omega arith)
number_of-append (a ∷ b ∷ c ∷ []) more enough = absurd (omega arith)
number_of-append (a ∷ b ∷ c ∷ d ∷ rest) more enough = refl

pub is_pcapng-append : (start more : List ℕ) → 4 ≤ length start → blocks.is_pcapng (start ++ more) ≡ blocks.is_pcapng start
is_pcapng-append start more enough =
    let one : nat_le 4 (length start) ≡ true = grind (arith, nat_tests) in
    let size : 4 ≤ length (start ++ more) = omega (arith, length-append start more) in
    let other : nat_le 4 (length (start ++ more)) ≡ true = grind (arith, nat_tests) in
    rw (one, other, number_of-append start more enough) refl

-- what was limited is less than what more would be
limited_within : (most more : ℕ) (one so_far : capture.Collected) → most ≤ more → capture.limited most one ≡ Ok so_far → capture.limited more one ≡ Ok so_far
limited_within most more one so_far within is = by (nat_lt most (length one.datagrams)) refl
  where
    by : (past : Bool) → nat_lt most (length one.datagrams) ≡ past → capture.limited more one ≡ Ok so_far
    by true far = let many : capture.limited most one ≡ Err CaptureFault.TooMany = rw far refl in absurd cc
    by false near =
        let few : nat_lt more (length one.datagrams) ≡ false = grind (arith, nat_tests) in
        let same : capture.limited most one ≡ Ok one = rw near refl in
        let all : capture.limited more one ≡ Ok one = rw few refl in
        all ∙ sym same ∙ is

noted_within : (captures : Captures) (file : List ℕ) (most more : ℕ) (before so_far : capture.Collected) (frame : Frame) → most ≤ more
    → capture.noted captures file most before frame ≡ Ok so_far → capture.noted captures file more before frame ≡ Ok so_far
unfolding capture.noted
noted_within captures file most more before so_far (Frame.Captured frame) within is =
    limited_within most more (capture.collected file frame.time (capture.timed before (Frame.Captured frame)) (capture.contents_in captures file frame)) so_far within is
noted_within captures file most more before so_far other within is = is

-- what is behind a result is told only if that is no fault
pub or_fault_ok : (is : Result capture.Collected CaptureFault) (more : capture.Collected → Result capture.Collected CaptureFault) (so_far : capture.Collected) → capture.or_fault is more ≡ Ok so_far
    → (before : capture.Collected) × (is ≡ Ok before) × (more before ≡ Ok so_far)
or_fault_ok (Ok before) more so_far is = (before, refl, is)
or_fault_ok (Err e) more so_far is = absurd cc

all_noted_within : (captures : Captures) (file : List ℕ) (most more : ℕ) (before so_far : capture.Collected) (frames : List Frame) → most ≤ more
    → capture.all_noted captures file most before frames ≡ Ok so_far → capture.all_noted captures file more before frames ≡ Ok so_far
all_noted_within captures file most more before so_far [] within is = is
all_noted_within captures file most more before so_far (frame ∷ frames) within is =
    let first = or_fault_ok (capture.noted captures file most before frame) (λ one. capture.all_noted captures file most one frames) so_far is in
    ap (λ one. capture.or_fault one (λ now. capture.all_noted captures file more now frames)) (noted_within captures file most more before first.0 frame within first.1)
    ∙ all_noted_within captures file most more first.0 so_far frames within first.2

told : (is : Result capture.Collected CaptureFault) (answer : capture.Answer) → capture.answered is ≡ Ok answer → (so_far : capture.Collected) × (is ≡ Ok so_far)
told (Ok so_far) answer is = (so_far, refl)
told (Err e) answer is = absurd cc

pub capture_read-within : (captures : Captures) (most more : ℕ) (file : List ℕ) (answer : capture.Answer) → most ≤ more → capture.capture_read captures most file ≡ Ok answer
    → capture.capture_read captures more file ≡ Ok answer
unfolding capture.capture_read
capture_read-within captures most more file answer within is = by (frames.opened captures file) is
  where
    by : (found : Option frames.Unread) → capture.opened_read captures most found ≡ Ok answer → capture.opened_read captures more found ≡ Ok answer
    by None none = absurd cc
    by (Some unread) read =
        let left = frames.frames_left unread in
        let all = told (capture.all_noted captures unread.octets most capture.nothing left) answer read in
        ap capture.answered (all_noted_within captures unread.octets most more capture.nothing all.0 left within all.1 ∙ sym all.1) ∙ read
