use Rattle.std.proofs.Common.{◌≡◌, take, true}
use Rattle.std.specs.List.{list_all}
use Rattle.rtps_report.specs.Participants as participants
use Rattle.rtps_report.proofs.participant.are_on_one_host.Given as goal

-- each of the others so far has the address
abbrev pub invariant-loop-other : goal.invariant-loop-other
invariant-loop-other l = list_all (participants.has_address l.address) (take l.other-index l.others) ≡ true
