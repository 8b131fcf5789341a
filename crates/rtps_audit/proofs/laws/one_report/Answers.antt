use Rattle.rtps_audit.proofs.OneVerdict.{one_report}
use Rattle.rtps_audit.proofs.laws.one_report.Goals as goal

pub returns : goal.returns
returns c = one_report c.one_map.ensures.unique
