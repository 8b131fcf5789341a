use Rattle.std.proofs.Common.{length}
use Rattle.rtps_params.proofs.Ending.{IsEndFrom}
use Rattle.rtps_params.proofs.parameter.list_size.Given as goal

abbrev pub invariant-loop-parameter : goal.invariant-loop-parameter
invariant-loop-parameter l = IsEndFrom l.order l.octets l.rest

abbrev pub decreases-loop-parameter : goal.decreases-loop-parameter
decreases-loop-parameter l = length l.rest
