use Rattle.rtps_who.proofs.SampleLemmas.{samples_have_their_nodes}
use Rattle.rtps_who.proofs.laws.samples_have_their_nodes.Goals as goal

pub returns : goal.returns
returns c = samples_have_their_nodes
