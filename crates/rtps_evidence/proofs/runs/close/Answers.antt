use Rattle.rtps_evidence.proofs.KindLemmas.{closed_some}
use Rattle.rtps_evidence.proofs.runs.close.Goals as goal

pub returns-in_ok-push : goal.returns-in_ok-push
returns-in_ok-push c = λ from has. closed_some from has c.args.runs.now.items c.push.new.self.items c.args.run c.in_ok-push.ensures.items c.if-run.true
