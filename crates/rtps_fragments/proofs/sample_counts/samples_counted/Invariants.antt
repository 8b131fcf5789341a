use Rattle.std.proofs.Common.{◌≡◌, [], map, take}
use Rattle.rtps_audit.specs.Placed as placed_spec
use Rattle.rtps_fragments.specs.Hearing as hearing_spec
use Rattle.rtps_fragments.specs.SampleCounts as sample_counts
use Rattle.rtps_fragments.proofs.sample_counts.samples_counted.Given as goal

abbrev pub invariant-loop-placed : goal.invariant-loop-placed
invariant-loop-placed l = record {
  reader : l.hearing.reader ≡ l.fn.reader;
  came : hearing_spec.HaveCome l.fn.reader (sample_counts.with_pieces (map placed_spec.placed_value (take l.placed-index l.acts))) l.hearing.makings;
  counts : map sample_counts.number_of l.counts.items ≡ sample_counts.counts_behind (sample_counts.samples_at l.fn.reader) [] (map placed_spec.placed_value (take l.placed-index l.acts));
}
