use Rattle.std.proofs.Common.{◌≡◌, true, get_or, map, take}
use Rattle.rtps_receiver.specs.Values as values
use Rattle.rtps_fragments.specs.SampleCounts as sample_counts
use Rattle.rtps_page.specs.ChartEntries as chart_entries
use Rattle.rtps_page.proofs.tellings.Told.are_alike.Given as goal

abbrev pub invariant-loop-telling : goal.invariant-loop-telling
invariant-loop-telling l = chart_entries.are_told_alike (values.spoken_value l.fn.act) (get_or (map sample_counts.number_of l.fn.self.tellings.now.all.items) l.fn.self.at 0)
    (map (chart_entries.told_of l.fn.self.at) (take l.telling-index l.telling-items)) ≡ true
