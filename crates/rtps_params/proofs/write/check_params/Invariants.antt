use Rattle.std.proofs.Common.{◌≡◌, map, take, None}
use Rattle.rtps_params.specs.Item as item
use Rattle.rtps_params.specs.Writing as writing
use Rattle.rtps_params.proofs.write.check_params.Given as goal

abbrev pub invariant-loop-pid : goal.invariant-loop-pid
invariant-loop-pid l = writing.list_fault (map item.pair_of (take l.pid-index l.params)) ≡ None
