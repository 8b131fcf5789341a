use Rattle.rtps_fragments.proofs.FragmentVerdicts.{fragments_tell_alike}
use Rattle.rtps_fragments.proofs.laws.fragments_tell_alike.Goals as goal

pub returns : goal.returns
returns c = fragments_tell_alike c.verdicts_agree.ensures c.runs_exist_where_founded.ensures
