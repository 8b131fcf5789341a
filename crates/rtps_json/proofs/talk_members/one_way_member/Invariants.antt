use Rattle.std.proofs.Common.{◌≡◌, map, take}
use Rattle.rtps_json.specs.TalkMembers.{one_way_json}
use Rattle.rtps_json.specs.Values.{items_json}
use Rattle.rtps_json.proofs.talk_members.one_way_member.Given as goal

abbrev pub invariant-loop-one : goal.invariant-loop-one
invariant-loop-one l = items_json l.values.items ≡ map one_way_json (take l.one-index l.one_way)
