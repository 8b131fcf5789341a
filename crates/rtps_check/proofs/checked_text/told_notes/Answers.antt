use Rattle.std.proofs.Common.{◌∙◌, ℕ, List, ap, codes, map, true}
use Rattle.std.proofs.lemmas.Result.{IfOk-weaker}
use Rattle.rtps_evidence.specs.Explanation as explanation
use Rattle.rtps_report.specs.LateRows as late_rows
use Rattle.rtps_report.specs.Talk as talk
use Rattle.rtps_lines.specs.LateNotes as late_notes
use Rattle.rtps_lines.specs.Notes as notes
use Rattle.rtps_check.proofs.checked_text.told_notes.Goals as goal

pub returns : goal.returns
returns c =
    let told = c.args.told.now in
    let times = told.lost.times.now in
    let first = ap (map late_rows.late_row_value) c.deref.ensures.value ∙ c.in_ok-matched_late.ensures in
    let late = ap (map explanation.explanation_value) c.deref-2.ensures.value ∙ c.in_ok-late.ensures in
    let matched = ap (map late_rows.late_row_value) c.deref-3.ensures.value ∙ c.in_ok-matched_late.ensures in
    let lines = c.deref-4.ensures ∙ c.in_ok-late_lines.ensures ∙ ap (late_notes.late_lines times) first in
    let tails = ap (map explanation.explanation_value) c.deref-5.ensures.value ∙ c.in_ok-tails.ensures in
    let told_of : List explanation.ExplanationValue → List late_rows.LateRowValue → List ℕ → List explanation.ExplanationValue → List (List ℕ) = λ of_late of_matched of_lines of_tails.
    notes.notes (codes "\n  -> ") told.facts (record {
      talk = talk.talk_value told.talk.now;
      talking = told.talking.now;
      left_out = map talk.left_out_value told.left_out.now;
      late = of_late;
      matched_late = of_matched;
      late_lines = of_lines;
      tails = of_tails;
      rows = map explanation.explanation_value told.rows.now;
      side = told.side;
      named = true;
    }) in
    IfOk-weaker c.notes_of.result _ _ (λ noted found. found ∙ (λ i. told_of (late i) (matched i) (lines i) (tails i))) c.notes_of.ensures
