use Rattle.std.proofs.Common.{[], get_or, refl}
use Rattle.rtps_ids.specs.declared.identity.Guid.{Guid}
use Rattle.rtps_report.specs.LateRows.{late_row_value}
use Rattle.rtps_report.specs.declared.late_row.LateRow.{LateRow}
use Rattle.rtps_json.specs.DiscoveryMembers.{late_json}
use Rattle.rtps_json.specs.JsonText.{clock_times}
use Rattle.rtps_json.proofs.ValueLemmas.{view_more}
use Rattle.rtps_json.proofs.discovery_members.late_member.Goals as goal

pub loop-one-preserved : goal.loop-one-preserved
loop-one-preserved c =
    let late = c.args.late.now in
    let i = c.loop-one.one-index in
    let guid : Guid = record { prefix = record { 0 = [] }; entity = record { 0 = [] } } in
    let none : LateRow = record {
      topic = record { ref_ptr = (0, 0); now = [] };
      pair = record { writer = guid; reader = guid };
      late = record { delay = 0; place = record { datagram = 0; at = 0 } };
    } in
    view_more (late_json (clock_times c.args.clock)) late_row_value late i (get_or late i none) none c.loop-one.values.items c.push.new.self.items c.in_ok-late_object.field-0 c.loop-one-test.true refl
    c.loop-one.invariant c.in_ok-late_object.ensures c.in_ok-push.ensures.items
