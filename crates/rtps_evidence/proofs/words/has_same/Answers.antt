use Rattle.std.proofs.Common.{◌∙◌, sym}
use Rattle.rtps_audit.specs.Placed as placed
use Rattle.rtps_evidence.specs.WayRound as way_round
use Rattle.rtps_evidence.proofs.KeptLemmas.{any_here}
use Rattle.rtps_evidence.proofs.words.has_same.Goals as goal

pub returns-then-is_same_act : goal.returns-then-is_same_act
returns-then-is_same_act c =
    sym (any_here placed.placed_value (way_round.is_same (placed.placed_value c.args.placed.now)) c.args.shelf.now c.loop-one.one-index c.one-item.result c.loop-one-test.true c.one-item.is (sym c.is_same_act.ensures ∙ c.if-is_same_act.true))
