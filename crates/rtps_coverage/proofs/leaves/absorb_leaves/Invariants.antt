use Rattle.std.proofs.Common.{◌≡◌, ◌≤◌, length, take, drop}
use Rattle.rtps_coverage.specs.Ranges as ranges
use Rattle.rtps_coverage.specs.Leaves as leaves_spec
use Rattle.rtps_coverage.proofs.leaves.absorb_leaves.Given as goal

-- the ranges that were taken out are taken in
abbrev pub invariant-later : goal.invariant-later
invariant-later l = record {
  place : l.place ≤ length l.leaves.items;
  front : take l.place l.leaves.items ≡ take l.place l.fn.leaves.items;
  filled : leaves_spec.AreFilled l.leaves.items;
  apart : ranges.AreApart (leaves_spec.ranges_in (drop l.place l.leaves.items));
  absorbs : ranges.Absorbs (leaves_spec.ranges_in (drop l.place l.fn.leaves.items)) (leaves_spec.ranges_in (drop l.place l.leaves.items)) l.hi l.end;
}

abbrev pub decreases-later : goal.decreases-later
decreases-later l = length l.leaves.items
