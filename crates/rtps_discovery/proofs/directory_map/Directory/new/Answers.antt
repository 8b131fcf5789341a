use Rattle.rtps_discovery.proofs.MapLaws.{no_acts}
use Rattle.rtps_discovery.proofs.directory_map.Directory.new.Goals as goal

pub returns-clause-map : goal.returns-clause-map
returns-clause-map c = rw (c.new.ensures.empty, c.new-2.ensures.empty) no_acts
