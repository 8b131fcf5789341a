use Rattle.std.proofs.Common.{◌++◌, ap, subst, ◌∙◌}
use Rattle.rtps_discovery.proofs.DataAlone.{faults_alone, map_alone}
use Rattle.rtps_discovery.specs.Directory as directory
use Rattle.rtps_discovery.specs.Notice as notice
use Rattle.rtps_discovery.proofs.directory_map.Directory.note_all.Goals as goal

pub returns-clause-data_map : goal.returns-clause-data_map
returns-clause-data_map c before all is old =
    map_alone before all _ (subst (λ acts. directory.IsMapOf (before ++ acts) c.note_each.new.self) is (c.in_ok-faults.ensures.map before old))

pub returns-clause-data_faults : goal.returns-clause-data_faults
returns-clause-data_faults c all is = c.in_ok-faults.ensures.faults ∙ ap notice.faults_in is ∙ faults_alone all
