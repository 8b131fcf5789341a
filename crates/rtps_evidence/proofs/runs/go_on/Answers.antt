use Rattle.rtps_evidence.proofs.KindLemmas.{hand_next}
use Rattle.rtps_evidence.proofs.runs.go_on.Goals as goal

pub returns-clause-at_hand : goal.returns-clause-at_hand
returns-clause-at_hand c = λ from has le hand. hand_next from has c.close.new.runs.items c.args.run c.args.next c.if-next.false c.if-next-run.false (c.in_ok-close.ensures from has hand)
