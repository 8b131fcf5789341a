use Rattle.std.proofs.Common.{◌∙◌, ap, sym}
use Rattle.rtps_report.specs.NotTold as not_told
use Rattle.rtps_report.specs.declared.not_told.NotTold.{NotTold}
use Rattle.rtps_report.proofs.AnyLemmas.{any_at, none_up_to}
use Rattle.rtps_report.proofs.not_told.is_not_told_of.Goals as goal

pub returns-then-is_between : goal.returns-then-is_between
returns-then-is_between c =
    sym (any_at not_told.not_told_value (not_told.is_between c.args.from c.args.to) c.args.found.now c.loop-one.one-index c.one-item.result c.loop-one-test.true
    (ap (λ (one : NotTold). not_told.is_between c.args.from c.args.to (not_told.not_told_value one)) (sym c.one-item.is) ∙ sym c.is_between.ensures ∙ c.if-is_between.true))

pub loop-one-preserved : goal.loop-one-preserved
loop-one-preserved c =
    none_up_to not_told.not_told_value (not_told.is_between c.args.from c.args.to) c.args.found.now c.loop-one.one-index c.one-item.result c.loop-one-test.true c.loop-one.invariant
    (ap (λ (one : NotTold). not_told.is_between c.args.from c.args.to (not_told.not_told_value one)) (sym c.one-item.is) ∙ sym c.is_between.ensures ∙ c.if-is_between.false)
