use Rattle.rtps_discovery.proofs.MapLaws.{repeated}
use Rattle.rtps_discovery.proofs.laws.repetitions_change_nothing.Goals as goal

pub returns : goal.returns
returns c = λ before act directory. repeated before act directory
