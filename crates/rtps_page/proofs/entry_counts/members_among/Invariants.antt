use Rattle.std.proofs.Common.{◌≡◌, ◌≤◌, filter, length}
use Rattle.std.specs.List.{range_with_len}
use Rattle.rtps_ids.specs.NumberSet as number_set
use Rattle.rtps_page.proofs.entry_counts.members_among.Given as goal

abbrev pub invariant-loop-bit : goal.invariant-loop-bit
invariant-loop-bit l = record {
  value : l.count ≡ length (filter (number_set.is_member l.set) (range_with_len l.set.base l.bit));
  few : l.count ≤ l.bit;
}
