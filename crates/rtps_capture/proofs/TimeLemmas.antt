-- The start and the end of a capture, frame by frame: the first time stays, and the greatest one.
use Rattle.std.proofs.Common.{◌≡◌, ℕ, Bool, true, false, List, [], ◌∷◌, length, max, refl, sym, ap, ap₂, ◌∙◌, arith}
use Rattle.std.specs.Prelude.{None, Option, Some, Ok, Err, Result, nat_lt, if◌then◌else◌}
use Rattle.std.specs.Option.{option_or}
use Rattle.rtps_capture.specs.Capture as capture
use Rattle.rtps_capture.specs.Frames as frames_spec
use Rattle.rtps_capture.specs.Times as times
use Rattle.rtps_capture.specs.declared.capture.CaptureFault.{CaptureFault}
use Rattle.rtps_capture.specs.declared.captures.Captures.{Captures}
use Rattle.rtps_capture.specs.declared.frames.CapturedFrame.{CapturedFrame}
use Rattle.rtps_capture.specs.declared.frames.Frame.{Frame}
use Rattle.rtps_capture.specs.declared.packet.Contents.{Contents}
use Rattle.rtps_capture.proofs.Offered.{or_fault_ok}

-- the first and the greatest time so far
abbrev Ends : Type 0
Ends = Option ℕ × Option ℕ

abbrev ends_of : capture.Collected → Ends
ends_of so_far = (so_far.start, so_far.end)

-- no time behind one changes it
or_none : (time : Option ℕ) → option_or time None ≡ time
or_none None = refl
or_none (Some time) = refl

or_behind : (one other more : Option ℕ) → option_or (option_or one other) more ≡ option_or one (option_or other more)
or_behind None other more = refl
or_behind (Some one) other more = refl

later_none : (time : Option ℕ) → times.later_of time None ≡ time
later_none None = refl
later_none (Some time) = refl

later_behind : (one other more : Option ℕ) → times.later_of (times.later_of one other) more ≡ times.later_of one (times.later_of other more)
later_behind None other more = refl
later_behind (Some one) None more = refl
later_behind (Some one) (Some other) None = refl
later_behind (Some one) (Some other) (Some more) = ap Some (let same : max (max one other) more ≡ max one (max other more) = omega arith in same)

-- what a frame contains changes neither
contents_ends : (file : List ℕ) (time : Option ℕ) (so_far : capture.Collected) (contents : Contents) → ends_of (capture.collected file time so_far contents) ≡ ends_of so_far
unfolding capture.collected
contents_ends file time so_far (Contents.Datagram range) = refl
contents_ends file time so_far (Contents.Fragment fragment) = refl
contents_ends file time so_far Contents.Cut = refl
contents_ends file time so_far Contents.Other = refl

-- a frame that contains something
captured_ends : (captures : Captures) (file : List ℕ) (most : ℕ) (so_far next : capture.Collected) (frame : CapturedFrame)
    → capture.noted captures file most so_far (Frame.Captured frame) ≡ Ok next → ends_of next ≡ ends_of (capture.timed so_far (Frame.Captured frame))
unfolding capture.noted
captured_ends captures file most so_far next frame is = by (nat_lt most (length there.datagrams)) is
  where
    there : capture.Collected
    there = capture.collected file frame.time (capture.timed so_far (Frame.Captured frame)) (capture.contents_in captures file frame)

    by : (over : Bool) → (if over then Err CaptureFault.TooMany else Ok there) ≡ Ok next → ends_of next ≡ ends_of (capture.timed so_far (Frame.Captured frame))
    by true same = let no = same in cc
    by false same =
        let found : there ≡ next = cc in
        sym (ap ends_of found) ∙ contents_ends file frame.time (capture.timed so_far (Frame.Captured frame)) (capture.contents_in captures file frame)

rest_ends : (captures : Captures) (file : List ℕ) (so_far next : capture.Collected) → capture.with_rest captures file so_far ≡ Ok next → ends_of next ≡ ends_of so_far
rest_ends Captures.Classic file so_far next is = let no = is in cc
rest_ends Captures.Any file so_far next is =
    let same : capture.collected file None so_far Contents.Cut ≡ next = cc in
    sym (ap ends_of same) ∙ contents_ends file None so_far Contents.Cut

-- a frame gives its time where there is none, or an earlier one
noted_ends : (captures : Captures) (file : List ℕ) (most : ℕ) (so_far next : capture.Collected) (frame : Frame) → capture.noted captures file most so_far frame ≡ Ok next
    → ends_of next ≡ ends_of (capture.timed so_far frame)
unfolding capture.noted
noted_ends captures file most so_far next (Frame.Captured frame) is = captured_ends captures file most so_far next frame is
noted_ends captures file most so_far next (Frame.Unread link time) is = cc
noted_ends captures file most so_far next Frame.NoFrame is = cc
noted_ends captures file most so_far next Frame.Rest is = rest_ends captures file (capture.timed so_far Frame.Rest) next is
noted_ends captures file most so_far next other is = let no = is in cc

-- these ends, and those of frames behind them
abbrev ends_with : List Frame → Ends → Ends
ends_with frames ends = (option_or ends.0 (capture.first_time frames), times.later_of ends.1 (capture.last_time frames))

all_ends : (captures : Captures) (file : List ℕ) (most : ℕ) (frames : List Frame) (so_far last : capture.Collected) → capture.all_noted captures file most so_far frames ≡ Ok last
    → ends_of last ≡ ends_with frames (ends_of so_far)
all_ends captures file most [] so_far last is =
    let same : so_far ≡ last = cc in sym (ap ends_of same) ∙ sym (ap₂ (λ (a b : Option ℕ). let ends : Ends = (a, b) in ends) (or_none so_far.start) (later_none so_far.end))
all_ends captures file most (frame ∷ frames) so_far last is =
    let first = or_fault_ok (capture.noted captures file most so_far frame) (λ one. capture.all_noted captures file most one frames) last is in
    all_ends captures file most frames first.0 last first.2
    ∙ ap (ends_with frames) (noted_ends captures file most so_far first.0 frame first.1)
    ∙ ap₂ (λ (a b : Option ℕ). let ends : Ends = (a, b) in ends) (or_behind so_far.start (frames_spec.time_of frame) (capture.first_time frames)) (later_behind so_far.end (frames_spec.time_of frame) (capture.last_time frames))

-- the start and the end that are told of a capture
told_ends : (captures : Captures) (most : ℕ) (file : List ℕ) (unread : frames_spec.Unread) (answer : capture.Answer) → frames_spec.opened captures file ≡ Some unread
    → capture.capture_read captures most file ≡ Ok answer → (answer.start ≡ capture.first_time (frames_spec.frames_left unread)) × (answer.end ≡ capture.last_time (frames_spec.frames_left unread))
unfolding capture.capture_read
told_ends captures most file unread answer begins is = by (capture.all_noted captures unread.octets most capture.nothing (frames_spec.frames_left unread)) refl (sym (ap (capture.opened_read captures most) begins) ∙ is)
  where
    by : (result : Result capture.Collected CaptureFault) → capture.all_noted captures unread.octets most capture.nothing (frames_spec.frames_left unread) ≡ result → capture.answered result ≡ Ok answer
        → (answer.start ≡ capture.first_time (frames_spec.frames_left unread)) × (answer.end ≡ capture.last_time (frames_spec.frames_left unread))
    by (Err fault) was holds = let no = holds in cc
    by (Ok last) was holds =
        let same : capture.answer_of last ≡ answer = cc in
        let ends = all_ends captures unread.octets most (frames_spec.frames_left unread) capture.nothing last was in
        (sym (ap (λ (a : capture.Answer). a.start) same) ∙ ap (λ (e : Ends). e.0) ends, sym (ap (λ (a : capture.Answer). a.end) same) ∙ ap (λ (e : Ends). e.1) ends)

pub start_first : (captures : Captures) (most : ℕ) (file : List ℕ) (unread : frames_spec.Unread) (answer : capture.Answer) → frames_spec.opened captures file ≡ Some unread
    → capture.capture_read captures most file ≡ Ok answer → answer.start ≡ capture.first_time (frames_spec.frames_left unread)
start_first captures most file unread answer begins is = (told_ends captures most file unread answer begins is).0

pub end_greatest : (captures : Captures) (most : ℕ) (file : List ℕ) (unread : frames_spec.Unread) (answer : capture.Answer) → frames_spec.opened captures file ≡ Some unread
    → capture.capture_read captures most file ≡ Ok answer → answer.end ≡ capture.last_time (frames_spec.frames_left unread)
end_greatest captures most file unread answer begins is = (told_ends captures most file unread answer begins is).1
