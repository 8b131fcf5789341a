use Rattle.std.proofs.Common.{◌≡◌, map, take}
use Rattle.rtps_who.specs.Samples.{node_value}
use Rattle.rtps_json.specs.JsonText.{node_json}
use Rattle.rtps_json.specs.Values.{items_json}
use Rattle.rtps_json.proofs.end_members.nodes_member.Given as goal

abbrev pub invariant-loop-node : goal.invariant-loop-node
invariant-loop-node l = items_json l.values.items ≡ map node_json (map node_value (take l.node-index l.nodes))
