use Rattle.rtps_capture.proofs.HeldLemmas.{fills_on}
use Rattle.rtps_capture.proofs.frame_reader.FrameReader.hold_next.Goals as goal

pub returns-then-not-branch-clause-fills : goal.returns-then-not-branch-clause-fills
returns-then-not-branch-clause-fills g c =
    fills_on (g.R.Read.remaining c.args.input.now) (g.R.Read.remaining c.next.input) (g.R.Read.remaining c.fill.new.input) c.args.self.now.held c.next.self.held c.fill.new.self c.next.invariant.0
    c.in_ok-fill.ensures.fills
