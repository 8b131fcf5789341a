use Rattle.std.proofs.Common.{[], subst, sym}
use Rattle.std.proofs.lemmas.Result.{err_from_is_err_and}
use Rattle.rtps_audit.specs.Intake as intake
use Rattle.rtps_passes.specs.Comparison as comparison
use Rattle.rtps_passes.specs.Judging as judging
use Rattle.rtps_passes.specs.declared.comparison.Comparison.{Comparison}
use Rattle.rtps_tool.specs.Passes as passes
use Rattle.rtps_tool.specs.declared.passes.takers.Compared.{Compared}
use Rattle.rtps_tool.proofs.passes.compare_again.Goals as goal

pub returns-then-not-has_questions-clause-known : goal.returns-then-not-has_questions-clause-known
returns-then-not-has_questions-clause-known g c = λ all from known is surveyed judged.
    let told = intake.intake_of (passes.octets_in c.args.first all) in
    c.in_ok-report.ensures told from surveyed
    (c.of-comparison.ensures.unquestioned (c.has_questions.ensures c.if-not-has_questions.true) from (judging.pairs_in c.args.survey.now.directory) told.acts judged)

pub returns-clause-known : goal.returns-clause-known
returns-clause-known g c = λ all from known is surveyed judged.
    let told = intake.intake_of (passes.octets_in c.args.first all) in
    let pairs = judging.pairs_in c.args.survey.now.directory in
    let start = c.new-pass.result.taker in
    let begun = subst (λ (taker : Compared). comparison.IsComparisonBy from pairs told.acts [] taker.comparison) (sym c.new-pass.ensures.taker)
    (subst (λ (one : Comparison). comparison.IsComparisonBy from pairs told.acts [] one) (sym c.new.ensures) (c.of-comparison.ensures.begun from pairs told.acts judged)) in
    c.in_ok-report-2.ensures told from surveyed (c.in_ok-read_again.ensures.known all start known is c.new-pass.ensures.sum (λ from pairs recording is. is) from pairs told.acts begun)

pub returns-in_err-read_again-clause-known : goal.returns-in_err-read_again-clause-known
returns-in_err-read_again-clause-known g c = λ all from known is surveyed judged.
    let p = err_from_is_err_and c.from_residual-in_err-read_again.result c.from_residual-in_err-read_again.ensures.1 in
    rw (p.1, p.2) (c.in_err-read_again.ensures.known all c.new-pass.result.taker known is c.new-pass.ensures.sum (λ from pairs recording is. is))
