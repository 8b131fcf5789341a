use Rattle.rtps_fragments.proofs.HearingLemmas.{sent_acts_are_heard}
use Rattle.rtps_fragments.proofs.laws.sent_acts_are_heard.Goals as goal

pub returns : goal.returns
returns c = sent_acts_are_heard
