use Rattle.rtps_fragments.proofs.Announced.{announcers_are_built_in}
use Rattle.rtps_fragments.proofs.laws.announcers_are_built_in.Goals as goal

pub returns : goal.returns
returns c = announcers_are_built_in
