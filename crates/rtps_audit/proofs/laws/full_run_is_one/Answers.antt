use Rattle.rtps_audit.proofs.FullRuns.{full_run_is_one}
use Rattle.rtps_audit.proofs.laws.full_run_is_one.Goals as goal

pub returns : goal.returns
returns c = full_run_is_one
