use Rattle.rtps_fragments.proofs.HearingLemmas.{skipped_fragments_are_not_sent}
use Rattle.rtps_fragments.proofs.laws.skipped_fragments_are_not_sent.Goals as goal

pub returns : goal.returns
returns c = skipped_fragments_are_not_sent
