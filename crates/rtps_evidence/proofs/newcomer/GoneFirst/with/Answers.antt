use Rattle.std.proofs.Common.{◌∙◌, refl, sym}
use Rattle.rtps_audit.specs.Placed as placed
use Rattle.rtps_evidence.proofs.NewcomerLemmas.{gone_more, gone_still, gone_stops}
use Rattle.rtps_evidence.proofs.newcomer.GoneFirst.with.Goals as goal

pub returns-then-self-clause-gone : goal.returns-then-self-clause-gone
returns-then-self-clause-gone c = λ acts are. gone_still c.args.listener.now acts (placed.placed_value c.args.placed.now) c.args.self.now c.if-self.true are

pub returns-then-is_some-clause-gone : goal.returns-then-is_some-clause-gone
returns-then-is_some-clause-gone c = λ acts are.
    gone_stops c.args.listener.now acts (placed.placed_value c.args.placed.now) c.args.self.now _ c.if-self.false (sym c.number_behind.ensures.some ∙ sym c.is_some.ensures ∙ c.if-is_some.true) refl refl are

pub returns-clause-gone : goal.returns-clause-gone
returns-clause-gone c = λ acts are.
    gone_more c.args.listener.now acts (placed.placed_value c.args.placed.now) c.args.self.now _ c.gap_end.result c.if-self.false (sym c.number_behind.ensures.some ∙ sym c.is_some.ensures ∙ c.if-is_some.false) refl c.max.ensures c.gap_end.ensures.end are
