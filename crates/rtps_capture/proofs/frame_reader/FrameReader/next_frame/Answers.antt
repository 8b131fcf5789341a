use Rattle.std.proofs.Common.{◌∙◌, ◌≡◌, None, Option, true, subst, sym}
use Rattle.std.specs.Prelude.{IfOk}
use Rattle.rtps_capture.specs.Held as held_spec
use Rattle.rtps_capture.specs.Left as left_spec
use Rattle.rtps_capture.specs.declared.frames.Frame.{Frame}
use Rattle.rtps_capture.proofs.LeftLemmas.{none_ended, step_given}
use Rattle.rtps_capture.proofs.frame_reader.FrameReader.next_frame.Goals as goal

pub returns-clause-gives : goal.returns-clause-gives
returns-clause-gives g c =
    let old = c.args.self.now in
    let passed = c.pass.new.self in
    let next = c.hold_next.new.self in
    let hold = c.in_ok-hold_next.ensures in
    let stepped = c.step.ensures in
    let unread = g.R.Read.remaining c.args.input.now in
    let left = g.R.Read.remaining c.hold_next.new.input in
    subst (λ (h : held_spec.HeldValue). IfOk c.step.result (left_spec.GivesNext unread left old.held h old.frames c.step.new.self.frames)) (sym stepped.same.0)
    (step_given unread left old.held passed.held next.held old.frames next.frames c.step.new.self.frames c.step.result old.within c.pass.ensures.held (hold.same.0 ∙ c.pass.ensures.frames) hold.fills hold.enough
    stepped.none stepped.some)

pub returns-clause-end : goal.returns-clause-end
returns-clause-end g c =
    let next = c.hold_next.new.self in
    subst (λ (h : held_spec.HeldValue). IfOk c.step.result (λ (given : Option Frame). given ≡ None → h.ended ≡ true)) (sym c.step.ensures.same.0)
    (none_ended next.held next.frames c.step.new.self.frames c.step.result c.in_ok-hold_next.ensures.enough c.step.ensures.none)
