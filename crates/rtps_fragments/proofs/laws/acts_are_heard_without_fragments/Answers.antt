use Rattle.rtps_fragments.proofs.HearingLemmas.{acts_are_heard_without_fragments}
use Rattle.rtps_fragments.proofs.laws.acts_are_heard_without_fragments.Goals as goal

pub returns : goal.returns
returns c = acts_are_heard_without_fragments
