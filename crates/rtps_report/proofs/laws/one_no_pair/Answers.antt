use Rattle.rtps_report.proofs.OneNoPairLemmas as causes
use Rattle.rtps_report.proofs.laws.one_no_pair.Goals as goal

pub returns : goal.returns
returns c = causes.one_no_pair c.one_map.ensures.unique
