use Rattle.std.proofs.Common.{None, Some, ◌≡◌, List, ℕ, subst}
use Rattle.rtps_capture.specs.Frames as frames_spec
use Rattle.rtps_capture.proofs.AdvanceLemmas.{begins, opens_not, opens_so}
use Rattle.rtps_capture.proofs.capture_reader.CaptureReader.open.Goals as goal

pub returns-in-Some-clause-opened : goal.returns-in-Some-clause-opened
returns-in-Some-clause-opened g c =
    let unread = g.R.Read.remaining c.args.input.now in
    let left = g.R.Read.remaining c.hold_opening.new.input in
    let first = c.in_ok-held.held in
    let held = c.hold_opening.new.held in
    let begun = c.args.begun.now in
    let fills = c.in_ok-hold_opening.ensures.fills in (
      fills.more,
      begins unread left first held begun c.in_ok-held.ensures fills,
      opens_so unread left first held begun c.args.wanted.captures c.args.wanted.most c.new-in-Some.result c.in-Some.frames c.in_ok-held.ensures fills c.in_ok-hold_opening.ensures.enough
          (subst (λ (l : List ℕ). frames_spec.opened c.args.wanted.captures l ≡ Some (frames_spec.unread_of l c.in-Some.frames)) c.octets.ensures c.in-Some.ensures.opened)
          c.new-in-Some.ensures.notes c.new-in-Some.ensures.most,
    )

pub returns-in-None-clause-opened : goal.returns-in-None-clause-opened
returns-in-None-clause-opened g c =
    let unread = g.R.Read.remaining c.args.input.now in
    let left = g.R.Read.remaining c.hold_opening.new.input in
    let first = c.in_ok-held.held in
    let held = c.hold_opening.new.held in
    let begun = c.args.begun.now in
    let fills = c.in_ok-hold_opening.ensures.fills in
    rw (c.read.ensures, c.has_ended.ensures) (
      fills.more,
      begins unread left first held begun c.in_ok-held.ensures fills,
      opens_not unread left first held begun c.args.wanted.captures c.args.wanted.most c.in_ok-held.ensures fills c.in_ok-hold_opening.ensures.enough
          (subst (λ (l : List ℕ). frames_spec.opened c.args.wanted.captures l ≡ None) c.octets.ensures c.in-None.ensures.opened),
    )
