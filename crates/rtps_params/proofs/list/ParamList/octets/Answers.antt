use Rattle.rtps_params.proofs.Agreement.{IsList-whole}
use Rattle.rtps_params.proofs.list.ParamList.octets.Goals as goal

pub returns-clause-list : goal.returns-clause-list
returns-clause-list c = IsList-whole c.args.self.now.order c.args.self.now.octets.now c.args.self.now.is_list
