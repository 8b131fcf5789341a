use Rattle.std.proofs.Common.{◌∙◌, Some, ap, sym}
use Rattle.rtps_audit.specs.Placed as placed
use Rattle.rtps_evidence.specs.Missed as missed
use Rattle.rtps_evidence.proofs.RequestLemmas.{last_noted, last_passed}
use Rattle.rtps_evidence.proofs.first_missed.asking_with.Goals as goal

pub returns-then-asks : goal.returns-then-asks
returns-then-asks c = λ acts is.
    ap Some c.location_of.ensures ∙ last_noted (missed.asks_for c.args.pair.writer c.args.pair.reader c.args.number) acts (placed.placed_value c.args.placed.now) (sym c.asks.ensures ∙ c.if-asks.true)

pub returns-else-asks : goal.returns-else-asks
returns-else-asks c = λ acts is. last_passed (missed.asks_for c.args.pair.writer c.args.pair.reader c.args.number) acts (placed.placed_value c.args.placed.now) c.args.last (sym c.asks.ensures ∙ c.if-asks.false) is
