use Rattle.std.proofs.Common.{◌∙◌, List, ap, map, sym, take}
use Rattle.std.specs.Prelude.{nat_lt}
use Rattle.std.specs.List.{insert, position_or_len}
use Rattle.std.proofs.lemmas.List.{take-map}
use Rattle.rtps_report.specs.LateRows as late_rows
use Rattle.rtps_report.specs.declared.late_row.LateRow.{LateRow}
use Rattle.rtps_lines.specs.LateNotes as late_notes
use Rattle.rtps_lines.proofs.TailLemmas.{map-insert}
use Rattle.rtps_lines.proofs.late_notes.keep.Goals as goal

pub returns : goal.returns
returns c =
    let rows = c.args.rows.now.items in
    let row = c.args.row in
    let place = c.place_among-place.result in
    let stands = c.place_among-place.ensures.place ∙ ap (λ (all : List LateRow). position_or_len (λ one. nat_lt one.late.delay row.late.delay) (map late_rows.late_row_value all)) c.deref.ensures.value in
    ap (map late_rows.late_row_value) (c.truncate.ensures.items ∙ ap (take late_notes.NAMED_LATE) c.in_ok-insert.ensures.items)
    ∙ sym (take-map late_rows.late_row_value late_notes.NAMED_LATE (insert rows place row))
    ∙ ap (take late_notes.NAMED_LATE) (map-insert late_rows.late_row_value rows place row)
    ∙ ap (λ n. take late_notes.NAMED_LATE (insert (map late_rows.late_row_value rows) n (late_rows.late_row_value row))) stands
