use Rattle.rtps_discovery.proofs.EachHasAMap.{has_map}
use Rattle.rtps_discovery.proofs.MapLaws as those
use Rattle.rtps_discovery.proofs.laws.one_map.Goals as goal

pub returns : goal.returns
returns c = record { exists = has_map; unique = those.one_map }
