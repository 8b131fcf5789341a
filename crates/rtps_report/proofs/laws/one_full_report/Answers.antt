use Rattle.rtps_report.proofs.OneReportLemmas as reports
use Rattle.rtps_report.proofs.laws.one_full_report.Goals as goal

pub returns : goal.returns
returns c = reports.one_full_report c.pairs_have_one_explanation.ensures c.one_map.ensures.unique
