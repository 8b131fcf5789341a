use Rattle.std.proofs.Common.{◌≡◌, map, take}
use Rattle.rtps_report.specs.Talk.{talk_value}
use Rattle.rtps_json.specs.JsonText.{clock_times}
use Rattle.rtps_json.specs.TalkMembers.{participant_json}
use Rattle.rtps_json.specs.Values.{items_json}
use Rattle.rtps_json.proofs.talk_members.participants_member.Given as goal

abbrev pub invariant-loop-participant : goal.invariant-loop-participant
invariant-loop-participant l = items_json l.values.items ≡ map (participant_json (talk_value l.talk) (clock_times l.clock)) (take l.participant-index l.participant-items)
