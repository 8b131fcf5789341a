use Rattle.std.proofs.Common.{◌∙◌, ap, slice_get, Some}
use Rattle.rtps_evidence.specs.FrameNumbers as frame_numbers
use Rattle.rtps_evidence.proofs.FrameNumberLemmas.{no_frame, some_frame}
use Rattle.rtps_evidence.proofs.frame_numbers.FrameNumbers.get.Goals as goal

pub returns-then-self-place : goal.returns-then-self-place
returns-then-self-place c = no_frame c.self.inside.count c.self.inside.runs.items c.args.place c.if-self-place.true ∙ ap (λ l. slice_get l c.args.place) c.self.view_is

pub returns : goal.returns
returns c =
    let run = c.run_at.ensures ∙ ap (λ l. frame_numbers.run_at frame_numbers.run_of_all l c.args.place) c.deref.ensures.value in
    ap Some (c.frame_at.ensures ∙ ap (λ r. frame_numbers.frame_at r c.args.place) run)
    ∙ some_frame c.self.inside.count c.self.inside.runs.items c.args.place c.if-self-place.false
    ∙ ap (λ l. slice_get l c.args.place) c.self.view_is
