use Rattle.rtps_audit.proofs.FullRuns.{each_recording_has_a_verdict}
use Rattle.rtps_audit.proofs.laws.each_recording_has_a_verdict.Goals as goal

pub returns : goal.returns
returns c = each_recording_has_a_verdict
