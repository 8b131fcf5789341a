use Rattle.rtps_audit.specs.Said as said
use Rattle.rtps_audit.proofs.index.Index.judge_until.Goals as goal

pub returns : goal.returns
returns c = λ intake is. c.judge_from.ensures (said.datagrams_until c.args.until intake.acts) (c.until.ensures intake is)
