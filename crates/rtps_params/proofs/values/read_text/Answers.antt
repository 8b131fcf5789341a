use Rattle.rtps_params.proofs.Texts.{spelled-by, none_spelled-by}
use Rattle.rtps_params.proofs.values.read_text.Goals as goal

pub returns-clause-spelled : goal.returns-clause-spelled
returns-clause-spelled c = spelled-by c.args.order c.args.value.now c.name_in.result c.name_in.ensures

pub returns-clause-none : goal.returns-clause-none
returns-clause-none c = none_spelled-by c.args.order c.args.value.now c.name_in.result c.name_in.ensures
