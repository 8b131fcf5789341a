use Rattle.std.proofs.Common.{◌++◌, [], arith, ap, get_or, length, length-append, map, take}
use Rattle.rtps_receiver.specs.Audience as audience
use Rattle.rtps_audit.specs.Placed as placed
use Rattle.rtps_evidence.specs.Locations as locations
use Rattle.rtps_page.specs.ChartEntries as chart_entries
use Rattle.rtps_page.proofs.TellingLemmas.{acts_more}
use Rattle.rtps_page.proofs.entry_counts.entries_of_writer.Goals as goal

pub loop-at-preserved : goal.loop-at-preserved
loop-at-preserved c =
    let acts = c.args.acts.now in
    let at = c.loop-at.at in
    let x = get_or acts at c.index-acts-at.result in
    let one = placed.placed_value x in
    record {
      value = λ readers are.
          let front = chart_entries.entries_behind readers [] (map placed.placed_value (take at acts)) in
          let said = chart_entries.entries_of one in
          let told = chart_entries.samples_counted c.args.tellings.now at one in
          let more = acts_more readers acts c.args.tellings.now at x are c.loop-at-test.true (ap (get_or acts at) c.index-acts-at.is) in
          omega (arith, c.loop-at.invariant.value readers are, c.entries_in.ensures.value (locations.location_of one) (chart_entries.audience_text (audience.audience_of one.act)), c.entries_told.ensures.value one.datagram, ap length more, length-append front (said ++ told), length-append said told);
      few = omega arith;
    }
