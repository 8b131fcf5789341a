use Rattle.rtps_audit.proofs.OneVerdict.{has_no_two_verdicts}
use Rattle.rtps_audit.proofs.laws.has_no_two_verdicts.Goals as goal

pub returns : goal.returns
returns c = has_no_two_verdicts
