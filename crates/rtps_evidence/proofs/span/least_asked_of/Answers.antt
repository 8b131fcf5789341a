use Rattle.std.proofs.Common.{List, subst, sym}
use Rattle.std.specs.List.{list_any}
use Rattle.rtps_audit.specs.Placed as placed
use Rattle.rtps_evidence.specs.Missed as missed
use Rattle.rtps_evidence.specs.Spans as spans
use Rattle.rtps_evidence.proofs.NewcomerLemmas.{at_least}
use Rattle.rtps_evidence.proofs.span.least_asked_of.Goals as goal

pub returns-then-asks_for_none-clause-least : goal.returns-then-asks_for_none-clause-least
returns-then-asks_for_none-clause-least c = λ intake is notes n le. c.asks_for_none.ensures c.if-asks_for_none.true intake notes c.args.pair.writer n

pub returns-clause-least : goal.returns-clause-least
returns-clause-least c = λ intake is notes.
    let pair = c.args.pair in
    subst (λ (l : List placed.PlacedValue). spans.IsLeastFrom (λ n. list_any (missed.asks_for pair.writer pair.reader n) l) c.args.lo c.least_asked.result) (c.acts_of.ensures intake is) c.least_asked.ensures.least

pub returns-clause-high : goal.returns-clause-high
returns-clause-high c = at_least (λ n. list_any (missed.asks_for c.args.pair.writer c.args.pair.reader n) _) c.args.lo c.least_asked.result c.least_asked.ensures.least
