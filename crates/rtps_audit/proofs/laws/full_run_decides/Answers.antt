use Rattle.rtps_audit.proofs.FullRunLemmas.{full_run_decides}
use Rattle.rtps_audit.proofs.laws.full_run_decides.Goals as goal

pub returns : goal.returns
returns c = full_run_decides
