use Rattle.std.proofs.Common.{◌≡◌, ◌≤◌, ◌++◌, map, take, vec_capacity}
use Rattle.std.specs.List.{flat_map}
use Rattle.rtps_params.specs.Item as item
use Rattle.rtps_params.specs.Writing as writing
use Rattle.rtps_params.proofs.write.put_params.Given as goal

abbrev pub invariant-loop-pid : goal.invariant-loop-pid
invariant-loop-pid l = record {
  items : l.out.items ≡ l.fn.out.items ++ flat_map (writing.parameter_octets l.order) (map item.pair_of (take l.pid-index l.params));
  room : vec_capacity l.fn.out ≤ vec_capacity l.out;
}
