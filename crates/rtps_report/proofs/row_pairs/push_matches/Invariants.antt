use Rattle.std.proofs.Common.{◌≡◌, ◌++◌, filter, map, take}
use Rattle.rtps_report.specs.Asked as asked
use Rattle.rtps_who.specs.Recorded as recorded
use Rattle.rtps_report.specs.Rows as rows
use Rattle.rtps_report.specs.RowPairs as row_pairs
use Rattle.rtps_report.proofs.row_pairs.push_matches.Given as goal

-- those of the pairs so far
abbrev pub invariant-loop-row : goal.invariant-loop-row
invariant-loop-row l =
    l.pairs.items ≡ l.initial.pairs.items
    ++ filter (row_pairs.is_match_told l.wanted.talk.now (rows.chosen_by (asked.asked_value l.wanted.asked.now) (recorded.node_in l.wanted.talk.now.who)) l.wanted.directory.now.endpoints) (map (λ row. row.pair) (take l.row-index l.matched))
