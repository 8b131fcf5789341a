use Rattle.std.proofs.Common.{◌∙◌, ◌&&◌, sym}
use Rattle.rtps_receiver.specs.Speech as speech
use Rattle.rtps_audit.specs.Placed as placed
use Rattle.rtps_evidence.specs.Locations as locations
use Rattle.rtps_evidence.specs.WayRound as way_round
use Rattle.rtps_evidence.proofs.KeptLemmas.{any_here}
use Rattle.rtps_evidence.proofs.way_round.has_answer_within.Goals as goal

pub returns-then-is_answer_within : goal.returns-then-is_answer_within
returns-then-is_answer_within c =
    let window = c.args.window.now in
    sym (any_here placed.placed_value (λ (at : placed.PlacedValue). speech.is_ack_nack at.act.body && way_round.is_within window.lo window.hi (locations.location_of at)) c.args.lone.now c.loop-placed.placed-index c.placed-item.result c.loop-placed-test.true c.placed-item.is
    (sym c.is_answer_within.ensures ∙ c.if-is_answer_within.true))
