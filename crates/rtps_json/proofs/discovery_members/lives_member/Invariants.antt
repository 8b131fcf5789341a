use Rattle.std.proofs.Common.{◌≡◌, map, take}
use Rattle.rtps_report.specs.Talk.{talk_value}
use Rattle.rtps_json.specs.DiscoveryMembers.{lives_json}
use Rattle.rtps_json.specs.JsonText.{clock_times}
use Rattle.rtps_json.specs.Values.{items_json}
use Rattle.rtps_json.proofs.discovery_members.lives_member.Given as goal

abbrev pub invariant-loop-one : goal.invariant-loop-one
invariant-loop-one l = items_json l.values.items ≡ map (lives_json (talk_value l.talk) (clock_times l.clock)) (take l.one-index l.one-items)
