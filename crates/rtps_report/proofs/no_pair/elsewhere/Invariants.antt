use Rattle.std.proofs.Common.{◌≡◌, drop, find}
use Rattle.rtps_report.specs.NoPair as no_pair
use Rattle.rtps_report.proofs.no_pair.elsewhere.Given as goal

-- the first one is among those that are still to come
abbrev pub invariant-loop-other : goal.invariant-loop-other
invariant-loop-other l = find (no_pair.is_elsewhere l.one) l.others ≡ find (no_pair.is_elsewhere l.one) (drop l.other-index l.others)
