use Rattle.std.proofs.Common.{◌≡◌, subst, sym}
use Rattle.rtps_audit.specs.Intake as intake
use Rattle.rtps_passes.specs.Survey as survey
use Rattle.rtps_tool.specs.Passes as passes
use Rattle.rtps_tool.specs.declared.passes.takers.Surveyed.{Surveyed}
use Rattle.rtps_tool.proofs.PassesLemmas.{list_tells}
use Rattle.rtps_tool.proofs.passes.list_by_passes.Goals as goal

pub returns-clause-known : goal.returns-clause-known
returns-clause-known g c = λ all known.
    let start = c.new-pass.result.taker in
    let first = c.in_ok-first.first in
    let begun = subst (λ (taker : Surveyed). survey.IsSurveyBy intake.no_intake taker.survey) (sym c.new-pass.ensures.taker) c.new.ensures in
    let found : (first.terms ≡ c.args.terms) × passes.IsFirstOf all first
    × (survey.IsSurveyBy intake.no_intake start.survey → survey.IsSurveyBy (intake.intake_of (passes.octets_in first all)) c.first_pass.new.pass.taker.survey) =
    c.in_ok-first.ensures.known all start known c.new-pass.ensures.sum (λ is. is) in
    let surveyed = found.2 begun in
    let told = intake.intake_of (passes.octets_in first all) in
    list_tells c.course_is_told.ensures c.args.terms all first c.args.fragments c.directory.result.now c.faults.result _ found.0 found.1 c.in-Skipped.is (c.directory.ensures.map told surveyed) (c.faults.ensures told surveyed) c.in_ok-text.ensures
