use Rattle.rtps_audit.proofs.SameSaid.{verdicts_follow_what_is_said}
use Rattle.rtps_audit.proofs.laws.verdicts_follow_what_is_said.Goals as goal

pub returns : goal.returns
returns c = verdicts_follow_what_is_said
