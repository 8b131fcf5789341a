use Rattle.rtps_fragments.proofs.PlainPairs.{verdicts_stay_without_fragments}
use Rattle.rtps_fragments.proofs.laws.verdicts_stay_without_fragments.Goals as goal

pub returns : goal.returns
returns c = verdicts_stay_without_fragments c.verdicts_follow_what_is_said.ensures
