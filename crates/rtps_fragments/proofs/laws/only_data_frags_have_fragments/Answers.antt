use Rattle.rtps_fragments.proofs.FragmentCounts.{only_data_frags}
use Rattle.rtps_fragments.proofs.laws.only_data_frags_have_fragments.Goals as goal

pub returns : goal.returns
returns c = only_data_frags
