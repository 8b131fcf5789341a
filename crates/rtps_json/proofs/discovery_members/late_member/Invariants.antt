use Rattle.std.proofs.Common.{◌≡◌, map, take}
use Rattle.rtps_report.specs.LateRows.{late_row_value}
use Rattle.rtps_json.specs.DiscoveryMembers.{late_json}
use Rattle.rtps_json.specs.JsonText.{clock_times}
use Rattle.rtps_json.specs.Values.{items_json}
use Rattle.rtps_json.proofs.discovery_members.late_member.Given as goal

abbrev pub invariant-loop-one : goal.invariant-loop-one
invariant-loop-one l = items_json l.values.items ≡ map (late_json (clock_times l.clock)) (map late_row_value (take l.one-index l.late))
