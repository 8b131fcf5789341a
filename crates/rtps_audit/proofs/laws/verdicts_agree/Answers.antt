use Rattle.rtps_audit.proofs.Verdicts.{verdicts_agree}
use Rattle.rtps_audit.proofs.laws.verdicts_agree.Goals as goal

pub returns : goal.returns
returns c = verdicts_agree
