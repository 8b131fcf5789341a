use Rattle.std.proofs.Common.{◌≡◌, ℕ, List, map, take}
use Rattle.rtps_ids.specs.declared.identity.Guid.{Guid}
use Rattle.rtps_audit.specs.Intake as intake
use Rattle.rtps_audit.specs.Placed as placed
use Rattle.rtps_report.specs.Participants as participants
use Rattle.rtps_report.specs.Stays as stays
use Rattle.rtps_report.specs.Visits as visits
use Rattle.rtps_report.proofs.visits.visits_of.Given as goal

-- those of the participants so far
abbrev pub invariant-loop-participant : goal.invariant-loop-participant
invariant-loop-participant l =
    (intake : intake.Intake) (recording : List (List ℕ)) (announced : List Guid) → stays.ArePresencesOf recording l.seen.times.now.of_datagrams l.seen.presences.now
    → participants.AreJoined (placed.placed_in intake.announcing) l.seen.joined.now → l.participants ≡ map (participants.participant_told intake recording l.seen.times.now) announced
    → visits.AreVisitsIn intake recording l.seen.times.now.of_datagrams (take l.participant-index announced) l.visits
