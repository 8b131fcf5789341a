use Rattle.std.proofs.Common.{◌≡◌, ◌++◌, filter, map, take}
use Rattle.rtps_policies.specs.Unmatched as unmatched
use Rattle.rtps_report.specs.Asked as asked
use Rattle.rtps_who.specs.Recorded as recorded
use Rattle.rtps_report.specs.Rows as rows
use Rattle.rtps_report.specs.RowPairs as row_pairs
use Rattle.rtps_report.proofs.row_pairs.push_talking.Given as goal

-- those of the pairs so far
abbrev pub invariant-loop-one : goal.invariant-loop-one
invariant-loop-one l =
    l.pairs.items ≡ l.initial.pairs.items
    ++ filter (row_pairs.is_pair_asked (rows.chosen_by (asked.asked_value l.wanted.asked.now) (recorded.node_in l.wanted.talk.now.who)) l.wanted.directory.now.endpoints) (map unmatched.pair_of (map unmatched.unmatched_value (take l.one-index l.one-items)))
