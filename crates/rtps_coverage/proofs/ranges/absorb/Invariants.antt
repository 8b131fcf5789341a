use Rattle.std.proofs.Common.{◌≡◌, ◌≤◌, length, take, drop}
use Rattle.rtps_coverage.specs.Ranges as ranges
use Rattle.rtps_coverage.proofs.ranges.absorb.Given as goal

-- the ranges that were taken out are taken in
abbrev pub invariant-loop-next : goal.invariant-loop-next
invariant-loop-next l = record {
  place : l.place ≤ length l.ranges.items;
  front : take l.place l.ranges.items ≡ take l.place l.fn.ranges.items;
  apart : ranges.AreApart (drop l.place l.ranges.items);
  absorbs : ranges.Absorbs (drop l.place l.fn.ranges.items) (drop l.place l.ranges.items) l.hi l.end;
}

abbrev pub decreases-loop-next : goal.decreases-loop-next
decreases-loop-next l = length l.ranges.items
