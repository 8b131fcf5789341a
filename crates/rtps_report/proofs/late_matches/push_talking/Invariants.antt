use Rattle.std.proofs.Common.{◌≡◌, ◌++◌, map, take}
use Rattle.rtps_policies.specs.Unmatched as unmatched
use Rattle.rtps_report.proofs.late_matches.push_talking.Given as goal

-- those so far
abbrev pub invariant-loop-one : goal.invariant-loop-one
invariant-loop-one l = l.pairs.items ≡ l.initial.pairs.items ++ map unmatched.pair_of (map unmatched.unmatched_value (take l.one-index l.talking))
