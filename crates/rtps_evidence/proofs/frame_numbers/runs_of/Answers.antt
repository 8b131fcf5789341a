use Rattle.std.proofs.Math.Facts.{Fits-lt-pow}
use Rattle.std.proofs.lemmas.Bool.Decides.{nat_tests}
use Rattle.std.proofs.Common.{◌≡◌, ◌∙◌, get_or, length, refl, sym, subst, arith, w64}
use Rattle.rtps_evidence.proofs.FrameNumberLemmas.{AreRuns, runs_end, runs_more, runs_same}
use Rattle.rtps_evidence.proofs.frame_numbers.runs_of.Goals.{then-frame_at-frame+in_ok-push, else-frame_at-frame}
use Rattle.rtps_evidence.proofs.frame_numbers.runs_of.Goals as goal

pub loop-place-preserved : goal.loop-place-preserved
loop-place-preserved c =
    let frames = c.args.frames.now in
    let place = c.loop-place.place in
    let so_far = c.loop-place.invariant.runs in
    elim c.if-frame_at-frame.branch [
      | then-frame_at-frame+in_ok-push w ↦
          rw w.runs-is (rw w.last-is (record { runs = runs_more frames place (get_or frames place 0) c.loop-place.last c.loop-place.runs.items _ refl (Fits-lt-pow {w = w64} (c.type_inv.frames place)) w.in_ok-push.ensures.items so_far }))
      | else-frame_at-frame w ↦
          let no = w.if-frame_at-frame.false in
          let same : c.frame_at.result ≡ get_or frames place 0 = grind (arith, nat_tests, no) in
          rw w.runs-is (rw w.last-is (record { runs = runs_same frames place c.loop-place.last c.loop-place.runs.items (sym c.frame_at.ensures ∙ same) so_far }))
    ]

pub returns-clause-frames : goal.returns-clause-frames
returns-clause-frames c =
    let frames = c.args.frames.now in
    let le = c.loop-place-test.false in
    let ge = c.loop-place.auto.place-end in
    let all : c.loop-place.place ≡ length frames = omega (arith, le, ge) in
    runs_end frames c.loop-place.last c.loop-place.runs.items (subst (λ n. AreRuns frames n c.loop-place.last c.loop-place.runs.items) all c.loop-place.invariant.runs)
