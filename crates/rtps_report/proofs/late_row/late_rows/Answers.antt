use Rattle.std.proofs.Common.{◌∙◌, ◌++◌, List, None, Option, Some, ap, append-nil, map, sym}
use Rattle.std.specs.Option.{option_map}
use Rattle.std.proofs.lemmas.List.{map_push}
use Rattle.rtps_evidence.specs.Explanation as explanation
use Rattle.rtps_report.specs.LateRows as late_rows
use Rattle.rtps_report.specs.Talk as talk
use Rattle.rtps_report.specs.declared.late_row.LateRow.{LateRow}
use Rattle.rtps_report.proofs.LateLemmas.{found_more}
use Rattle.rtps_report.proofs.late_row.late_rows.Goals as goal
use Rattle.rtps_report.proofs.late_row.late_rows.Goals.{in-Some+in_ok-push, in_default}

pub loop-row-preserved : goal.loop-row-preserved
loop-row-preserved c =
    let old = map late_rows.late_row_value c.loop-row.late.items in
    let found : Option LateRow → Option late_rows.LateRowValue = option_map late_rows.late_row_value in
    elim c.match-late_row_of.branch [
      | in-Some+in_ok-push w ↦
          rw w.late-is
          (ap (map late_rows.late_row_value) w.in_ok-push.ensures.items ∙ map_push late_rows.late_row_value c.loop-row.late.items _
          ∙ found_more explanation.explanation_value (late_rows.late_row_of (talk.talk_value c.args.talk.now)) c.args.rows.now c.loop-row.row-index _ (Some (late_rows.late_row_value w.in-Some.one)) old c.loop-row-test.true
          (sym (ap found w.in-Some.is) ∙ c.late_row_of.ensures) c.loop-row.invariant)
      | in_default w ↦
          rw w.late-is
          (sym (append-nil old)
          ∙ found_more explanation.explanation_value (late_rows.late_row_of (talk.talk_value c.args.talk.now)) c.args.rows.now c.loop-row.row-index _ None old c.loop-row-test.true (sym (ap found w.in_default.is) ∙ c.late_row_of.ensures)
          c.loop-row.invariant)
    ]
