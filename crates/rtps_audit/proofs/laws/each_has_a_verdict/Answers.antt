use Rattle.rtps_audit.proofs.EachVerdict.{each_has_a_verdict}
use Rattle.rtps_audit.proofs.laws.each_has_a_verdict.Goals as goal

pub returns : goal.returns
returns c = each_has_a_verdict
