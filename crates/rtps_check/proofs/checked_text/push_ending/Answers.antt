use Rattle.std.proofs.Common.{◌++◌, ◌∙◌, List, ℕ, ap, ap₂, codes, map, string_bytes}
use Rattle.std.proofs.lemmas.Result.{on_ok_weaker}
use Rattle.rtps_report.specs.BestEfforts as best_efforts
use Rattle.rtps_evidence.specs.Explanation as explanation
use Rattle.rtps_report.specs.declared.best_effort.BestEffortNumbers.{BestEffortNumbers}
use Rattle.rtps_lines.specs.Causes as causes_spec
use Rattle.rtps_lines.proofs.Offered.{three_parts}
use Rattle.rtps_check.specs.CheckText as check_text
use Rattle.rtps_check.proofs.checked_text.push_ending.Goals as goal

pub returns : goal.returns
returns c =
    let told = c.args.told.now in
    let beside = check_text.beside_value told in
    let totals = c.args.totals.now in
    let old = string_bytes c.args.text.now in
    let noted = check_text.told_notes told.scope beside (map explanation.explanation_value told.rows.now) in
    let line : BestEffortNumbers → List (List ℕ) → List ℕ = λ numbers causes. causes_spec.last_line totals numbers beside.ending causes in
    let causes = causes_spec.causes_of beside.certain totals (causes_spec.findings_in beside.ending) in
    on_ok_weaker c.push_last.result
    (λ last. three_parts old (check_text.notes_block noted) (codes "\n") (line (best_efforts.numbers_told beside.talk.best_effort_total) causes)
    (c.in_ok-push_notes.ensures ∙ ap (λ (notes : List (List ℕ)). old ++ check_text.notes_block notes) (ap (map string_bytes) c.deref.ensures.value ∙ c.in_ok-notes.ensures))
    c.in_ok-push_str.ensures.bytes
    (last
    ∙ ap₂ (λ (numbers : BestEffortNumbers) (all : List (List ℕ)). string_bytes c.push_str.new.self ++ line numbers all) c.told.ensures (ap (map string_bytes) c.deref-2.ensures.value ∙ c.in_ok-causes.ensures)))
    c.push_last.ensures
