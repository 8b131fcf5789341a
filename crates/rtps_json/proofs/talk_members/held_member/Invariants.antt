use Rattle.std.proofs.Common.{◌≡◌, map, take}
use Rattle.rtps_report.specs.BestEfforts.{held_value}
use Rattle.rtps_json.specs.TalkMembers.{held_json}
use Rattle.rtps_json.specs.Values.{items_json}
use Rattle.rtps_json.proofs.talk_members.held_member.Given as goal

abbrev pub invariant-loop-one : goal.invariant-loop-one
invariant-loop-one l = items_json l.values.items ≡ map held_json (map held_value (take l.one-index l.held))
