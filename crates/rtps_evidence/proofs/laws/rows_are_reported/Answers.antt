use Rattle.rtps_evidence.proofs.OneExplanation.{rows_are_reported}
use Rattle.rtps_evidence.proofs.laws.rows_are_reported.Goals as goal

pub returns : goal.returns
returns c = rows_are_reported c.one_report_heard.ensures.rows c.one_map.ensures.unique
