use Rattle.rtps_who.proofs.NameLemmas.{names_come_to_one}
use Rattle.rtps_who.proofs.laws.names_come_to_one.Goals as goal

pub returns : goal.returns
returns c = names_come_to_one
