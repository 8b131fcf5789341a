use Rattle.std.proofs.Common.{◌≡◌, map, take}
use Rattle.rtps_policies.specs.Unmatched.{unmatched_value}
use Rattle.rtps_json.specs.TalkMembers.{talking_json}
use Rattle.rtps_json.specs.Values.{items_json}
use Rattle.rtps_json.proofs.talk_members.talking_member.Given as goal

abbrev pub invariant-loop-one : goal.invariant-loop-one
invariant-loop-one l = items_json l.values.items ≡ map talking_json (map unmatched_value (take l.one-index l.talking))
