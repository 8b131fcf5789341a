use Rattle.rtps_audit.specs.Placed as placed
use Rattle.rtps_report.proofs.ParticipantLemmas.{joined_more, joined_same}
use Rattle.rtps_report.proofs.participant.note_joined.Goals as goal

pub returns-in_default : goal.returns-in_default
returns-in_default c = λ acts were. joined_same acts (placed.placed_value c.args.placed.now) c.args.joined.now c.in_default.ensures were

pub returns : goal.returns
returns c = λ acts were.
    joined_more acts (placed.placed_value c.args.placed.now) c.args.joined.now c.keep_place.new.joined c.in-Some.guid c.in-Some.ensures were c.in_ok-keep_place.ensures
