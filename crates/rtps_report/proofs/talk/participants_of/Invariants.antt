use Rattle.std.proofs.Common.{◌≡◌, map, take}
use Rattle.rtps_audit.specs.Index as index
use Rattle.rtps_audit.specs.Intake as intake_spec
use Rattle.rtps_audit.specs.Placed as placed
use Rattle.rtps_policies.specs.Announcing as announcing
use Rattle.rtps_report.specs.Participants as participants
use Rattle.rtps_report.specs.Stays as stays
use Rattle.rtps_report.proofs.talk.participants_of.Given as goal

abbrev pub invariant-loop-guid : goal.invariant-loop-guid
invariant-loop-guid l =
    (intake : intake_spec.Intake) → index.IsIndexBy intake l.read.index.now → participants.AreJoined (placed.placed_in intake.announcing) l.seen.joined.now
    → stays.ArePresencesOf (map (λ datagram. datagram.now) l.read.datagrams.now) l.read.times.now.of_datagrams l.seen.presences.now
    → announcing.IsAnnouncedBy (intake_spec.acts_together intake.announcing) l.announced
    → l.participants.items ≡ map (participants.participant_told intake (map (λ datagram. datagram.now) l.read.datagrams.now) l.read.times.now) (take l.guid-index l.guid-items)
