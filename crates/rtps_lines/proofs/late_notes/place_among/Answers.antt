use Rattle.std.proofs.Common.{[], rules}
use Rattle.std.specs.Prelude.{nat_lt}
use Rattle.rtps_ids.specs.declared.identity.Guid.{Guid}
use Rattle.rtps_report.specs.LateRows as late_rows
use Rattle.rtps_report.specs.declared.late_row.LateRow.{LateRow}
use Rattle.rtps_lines.proofs.TailLemmas.{place_is}
use Rattle.rtps_lines.proofs.late_notes.place_among.Goals as goal

pub returns-then-rows-place-clause-place : goal.returns-then-rows-place-clause-place
returns-then-rows-place-clause-place c =
    let guid : Guid = record { prefix = record { 0 = [] }; entity = record { 0 = [] } } in
    let none : LateRow = record {
      topic = record { ref_ptr = (0, 0); now = [] };
      pair = record { writer = guid; reader = guid };
      late = record { delay = 0; place = record { datagram = 0; at = 0 } };
    } in
    place_is late_rows.late_row_value (λ one. nat_lt one.late.delay c.args.delay) c.args.rows.now c.loop-place.place none c.loop-place-test.true (search rules) c.loop-place.invariant
