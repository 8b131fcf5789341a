use Rattle.rtps_params.proofs.Agreement as agreement
use Rattle.rtps_params.proofs.laws.one_beginning.Goals as goal

pub returns : goal.returns
returns c = agreement.one_beginning
