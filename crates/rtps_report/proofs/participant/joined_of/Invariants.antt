use Rattle.std.proofs.Common.{map, take}
use Rattle.rtps_audit.specs.Placed as placed
use Rattle.rtps_report.specs.Participants as participants
use Rattle.rtps_report.proofs.participant.joined_of.Given as goal

-- by the acts so far
abbrev pub invariant-loop-placed : goal.invariant-loop-placed
invariant-loop-placed l = participants.AreJoined (map placed.placed_value (take l.placed-index l.announcements)) l.joined
