use Rattle.rtps_params.proofs.Agreement.{IsList-pairs, end_is_fault, end_is_list}
use Rattle.rtps_params.proofs.laws.ends.Goals as goal

pub returns : goal.returns
returns c = record { list = end_is_list; fault = end_is_fault; pairs = λ order pairs list rest. IsList-pairs order pairs list rest }
