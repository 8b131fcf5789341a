use Rattle.std.proofs.Common.{map, take}
use Rattle.rtps_audit.specs.Placed as placed
use Rattle.rtps_report.proofs.ParticipantLemmas.{joined_so_far}
use Rattle.rtps_report.proofs.participant.joined_of.Goals as goal

pub loop-placed-preserved : goal.loop-placed-preserved
loop-placed-preserved c =
    joined_so_far c.args.announcements.now c.loop-placed.placed-index c.placed-item.result c.note_joined.new.joined c.loop-placed-test.true c.placed-item.is
    (c.in_ok-note_joined.ensures (map placed.placed_value (take c.loop-placed.placed-index c.args.announcements.now)) c.loop-placed.invariant)
