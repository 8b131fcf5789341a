use Rattle.std.proofs.Common.{◌≡◌, map, take}
use Rattle.rtps_report.specs.Talk.{left_out_value, talk_value}
use Rattle.rtps_json.specs.TalkMembers.{unobserved_json}
use Rattle.rtps_json.specs.Values.{items_json}
use Rattle.rtps_json.proofs.talk_members.unobserved_member.Given as goal

abbrev pub invariant-loop-one : goal.invariant-loop-one
invariant-loop-one l = items_json l.values.items ≡ map (λ one. unobserved_json ((talk_value l.talk).silence one.pair) one) (map left_out_value (take l.one-index l.one-items))
