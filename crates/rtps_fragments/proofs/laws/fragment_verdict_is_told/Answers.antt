use Rattle.rtps_fragments.specs.Samples as samples
use Rattle.rtps_fragments.proofs.laws.fragment_verdict_is_told.Goals as goal

pub returns : goal.returns
returns c from speech verdict within = c.fragments_tell_alike.ensures from speech (samples.told_in speech) verdict (c.samples_tell_alike.ensures from speech within)
