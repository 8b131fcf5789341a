use Rattle.rtps_fragments.proofs.Noted.{noted_samples_are_sent}
use Rattle.rtps_fragments.proofs.laws.noted_samples_are_sent.Goals as goal

pub returns : goal.returns
returns c = noted_samples_are_sent
