use Rattle.rtps_parts.proofs.laws.topics_are_named.Goals as goal
use Rattle.rtps_parts.proofs.RosLemmas.{topics_named}

pub returns : goal.returns
returns c = topics_named
