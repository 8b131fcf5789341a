use Rattle.std.proofs.Common.{◌≡◌, map, take}
use Rattle.rtps_report.specs.BestEfforts.{best_effort_value}
use Rattle.rtps_json.specs.TalkMembers.{best_effort_json}
use Rattle.rtps_json.specs.Values.{items_json}
use Rattle.rtps_json.proofs.talk_members.best_effort_member.Given as goal

abbrev pub invariant-loop-sum : goal.invariant-loop-sum
invariant-loop-sum l = items_json l.values.items ≡ map best_effort_json (map best_effort_value (take l.sum-index l.sums))
