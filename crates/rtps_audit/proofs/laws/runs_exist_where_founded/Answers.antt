use Rattle.rtps_audit.proofs.Verdicts.{runs_exist_where_founded}
use Rattle.rtps_audit.proofs.laws.runs_exist_where_founded.Goals as goal

pub returns : goal.returns
returns c = runs_exist_where_founded
