use Rattle.rtps_fragments.proofs.SampleReportLemmas.{one_report, rows_are_one}
use Rattle.rtps_fragments.proofs.laws.one_report_heard.Goals as goal

pub returns : goal.returns
returns c = record { rows = rows_are_one c.has_no_two_verdicts.ensures; report = one_report c.has_no_two_verdicts.ensures c.one_map.ensures.unique }
