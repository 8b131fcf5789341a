use Rattle.std.proofs.Common.{ℕ, ap, subst, Bool, ◌||◌, ◌∙◌, max}
use Rattle.rtps_audit.specs.Placed as placed
use Rattle.rtps_evidence.specs.Missed as missed
use Rattle.rtps_evidence.specs.Spans as spans
use Rattle.rtps_evidence.proofs.NewcomerLemmas.{owing_more}
use Rattle.rtps_evidence.proofs.newcomer.Owing.hear.Goals as goal

pub returns : goal.returns
returns c = λ acts are.
    let listener = c.listener-listener.result in
    let old = c.args.self.now in
    let x = placed.placed_value c.args.placed.now in
    owing_more c.args.newcomer.now acts x old _ listener c.brought_from-brought.result c.listener-listener.ensures are
    (c.max-announced.ensures ∙ ap (λ (n : ℕ). max old.announced n) c.number_before-before.ensures.value) (c.with-gone.ensures.gone acts) c.with-gone.ensures.rises
    (subst (λ (lo : ℕ). spans.IsLeastFrom (λ n. missed.brings_behind listener.since listener.pair.writer listener.pair.reader n x) lo c.brought_from-brought.result) c.owed-owed.ensures.owed c.brought_from-brought.ensures.least)
    (ap (λ (b : Bool). old.is_late || b) (c.is_below.ensures ∙ ap (λ (n : ℕ). spans.is_below n old.least) c.owed-owed.ensures.owed)) c.lesser.ensures
