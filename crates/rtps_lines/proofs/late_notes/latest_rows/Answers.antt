use Rattle.std.proofs.lemmas.Grind.{common_steps}
use Rattle.std.proofs.lemmas.Bool.Decides.{nat_tests}
use Rattle.std.proofs.Common.{◌≡◌, ◌∙◌, ◌+◌, ◌<◌, ℕ, [], List, ap, arith, fold, get_or, length, map, sym, take}
use Rattle.rtps_ids.specs.declared.identity.Guid.{Guid}
use Rattle.rtps_report.specs.LateRows as late_rows
use Rattle.rtps_report.specs.declared.late_row.LateRow.{LateRow}
use Rattle.rtps_lines.specs.LateNotes as late_notes
use Rattle.rtps_lines.proofs.late_notes.latest_rows.Goals as goal

-- a fold with one more
one_more : {X Y A : Type 0} (f : A → Y → A) (a : A) (v : X → Y) (xs : List X) (i : ℕ) (d : X) → i < length xs → fold f a (map v (take (i + 1) xs)) ≡ f (fold f a (map v (take i xs))) (v (get_or xs i d))
one_more f a v xs i d lt = grind (arith, nat_tests, common_steps)

pub loop-row-preserved : goal.loop-row-preserved
loop-row-preserved c =
    let rows = c.args.rows.now in
    let i = c.loop-row.row-index in
    let guid : Guid = record { prefix = record { 0 = [] }; entity = record { 0 = [] } } in
    let none : LateRow = record {
      topic = record { ref_ptr = (0, 0); now = [] };
      pair = record { writer = guid; reader = guid };
      late = record { delay = 0; place = record { datagram = 0; at = 0 } };
    } in
    c.in_ok-keep.ensures
    ∙ ap (λ (latest : List late_rows.LateRowValue). late_notes.with_late latest (late_rows.late_row_value (get_or rows i none))) c.loop-row.invariant
    ∙ sym (one_more late_notes.with_late [] late_rows.late_row_value rows i none c.loop-row-test.true)
