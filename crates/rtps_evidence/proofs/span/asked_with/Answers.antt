use Rattle.std.proofs.Common.{ℕ}
use Rattle.rtps_audit.specs.Placed as placed
use Rattle.rtps_evidence.specs.Missed as missed
use Rattle.rtps_evidence.proofs.SpanLemmas.{least_told, lesser_below}
use Rattle.rtps_evidence.proofs.span.asked_with.Goals as goal

pub returns-clause-least : goal.returns-clause-least
returns-clause-least c = λ acts is.
    let pair = c.args.pair in
    let test : ℕ → placed.PlacedValue → _ = missed.asks_for pair.writer pair.reader in
    least_told test acts (placed.placed_value c.args.placed.now) c.args.lo c.args.least c.asked_from.result c.lesser.result is c.asked_from.ensures.least c.lesser.ensures

pub returns-clause-in_range : goal.returns-clause-in_range
returns-clause-in_range c = λ low. lesser_below c.args.least c.asked_from.result c.lesser.result low c.asked_from.ensures.in_range c.lesser.ensures
