use Rattle.rtps_audit.proofs.FullRuns.{full_run_decides_recordings}
use Rattle.rtps_audit.proofs.laws.full_run_decides_recordings.Goals as goal

pub returns : goal.returns
returns c = full_run_decides_recordings
