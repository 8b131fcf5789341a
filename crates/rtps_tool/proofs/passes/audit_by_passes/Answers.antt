use Rattle.std.proofs.Common.{◌≡◌, ◌∙◌, ℕ, ap, subst, sym}
use Rattle.std.proofs.lemmas.Result.{err_from_is_err_and}
use Rattle.std.specs.Prelude.{Option}
use Rattle.rtps_audit.specs.Intake as intake
use Rattle.rtps_passes.specs.Survey as survey
use Rattle.rtps_tool.specs.Passes as passes
use Rattle.rtps_tool.specs.declared.passes.takers.Surveyed.{Surveyed}
use Rattle.rtps_text.specs.ReportText as report_text
use Rattle.rtps_tool.proofs.PassesLemmas.{again_fails, audit_tells}
use Rattle.rtps_tool.proofs.passes.audit_by_passes.Goals as goal

pub returns-clause-known : goal.returns-clause-known
returns-clause-known g c = λ all known.
    let start = c.new-pass.result.taker in
    let first = c.in_ok-first.first in
    let begun = subst (λ (taker : Surveyed). survey.IsSurveyBy intake.no_intake taker.survey) (sym c.new-pass.ensures.taker) c.new.ensures in
    let found : (first.terms ≡ c.args.terms) × passes.IsFirstOf all first
    × (survey.IsSurveyBy intake.no_intake start.survey → survey.IsSurveyBy (intake.intake_of (passes.octets_in first all)) c.first_pass.new.pass.taker.survey) =
    c.in_ok-first.ensures.known all start known c.new-pass.ensures.sum (λ is. is) in
    let surveyed = found.2 begun in
    let report = c.in_ok-report.report in
    audit_tells c.course_is_told.ensures c.acts_are_heard_without_fragments.ensures c.args.terms all first c.args.asked report _ _ found.0 found.1 c.in-Skipped.is
    (c.skipped_fragments_are_not_sent.ensures (passes.octets_in first all)) (c.in_ok-report.ensures.known all known found.1 surveyed)
    (c.in_ok-told.ensures.text ∙ ap (λ (n : Option ℕ). report_text.report_text report.rows.items report.counts n) c.ignored-2.ensures) c.in_ok-told.ensures.ends

pub returns-in_err-report-clause-known : goal.returns-in_err-report-clause-known
returns-in_err-report-clause-known g c = λ all known.
    let p = err_from_is_err_and c.from_residual-in_err-report.result c.from_residual-in_err-report.ensures.1 in
    let start = c.new-pass.result.taker in
    let first = c.in_ok-first.first in
    let begun = subst (λ (taker : Surveyed). survey.IsSurveyBy intake.no_intake taker.survey) (sym c.new-pass.ensures.taker) c.new.ensures in
    let found : (first.terms ≡ c.args.terms) × passes.IsFirstOf all first
    × (survey.IsSurveyBy intake.no_intake start.survey → survey.IsSurveyBy (intake.intake_of (passes.octets_in first all)) c.first_pass.new.pass.taker.survey) =
    c.in_ok-first.ensures.known all start known c.new-pass.ensures.sum (λ is. is) in
    let surveyed = found.2 begun in
    rw (p.1, p.2) (again_fails c.args.terms.limits c.args.terms.captures all c.in_err-report.field-0.0 (c.in_err-report.ensures.known all known found.1 surveyed))
