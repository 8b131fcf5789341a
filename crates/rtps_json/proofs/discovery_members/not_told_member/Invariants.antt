use Rattle.std.proofs.Common.{◌≡◌, map, take}
use Rattle.rtps_report.specs.NotTold.{not_told_value}
use Rattle.rtps_json.specs.DiscoveryMembers.{not_told_json}
use Rattle.rtps_json.specs.Values.{items_json}
use Rattle.rtps_json.proofs.discovery_members.not_told_member.Given as goal

abbrev pub invariant-loop-one : goal.invariant-loop-one
invariant-loop-one l = items_json l.values.items ≡ map not_told_json (map not_told_value (take l.one-index l.found))
