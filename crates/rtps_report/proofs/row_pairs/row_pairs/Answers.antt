use Rattle.std.proofs.Common.{◌++◌, ◌∙◌, List, ap, filter, map, subst}
use Rattle.std.specs.List.Sorted.{IsPermutation}
use Rattle.std.proofs.lemmas.List.Filters.{dedup_is}
use Rattle.rtps_audit.specs.declared.report.Row.{Row}
use Rattle.rtps_discovery.specs.declared.matching.Pair.{Pair}
use Rattle.rtps_policies.specs.Unmatched as unmatched
use Rattle.rtps_report.specs.Asked as asked
use Rattle.rtps_discovery.specs.Directory as directory
use Rattle.rtps_discovery.specs.Matching as matching
use Rattle.rtps_who.specs.Recorded as recorded
use Rattle.rtps_report.specs.Rows as rows
use Rattle.rtps_report.proofs.EndLemmas.{choice_kept}
use Rattle.rtps_report.specs.RowPairs as row_pairs
use Rattle.rtps_report.proofs.RowPairLemmas.{rows_are}
use Rattle.rtps_report.proofs.TalkLemmas.{pair_alike}
use Rattle.rtps_report.proofs.row_pairs.row_pairs.Goals as goal

pub returns : goal.returns
returns c = λ intake traffic same kept.
    let wanted = c.args.wanted in
    let asked = asked.asked_value wanted.asked.now in
    let entries = wanted.directory.now.endpoints in
    let talk = wanted.talk.now in
    let talking = map unmatched.pair_of (map unmatched.unmatched_value talk.talking.items) in
    let chosen = rows.chosen_by asked (recorded.node_in talk.who) in
    rows_are asked intake traffic entries talk kept _ pair_alike c.sort.new.self.items c.dedup.new.self.items
    (subst (λ (those : List Pair). IsPermutation those c.sort.new.self.items)
    (c.in_ok-push_talking.ensures ∙ ap (λ (front : List Pair). front ++ filter (row_pairs.is_pair_asked chosen entries) talking) (c.in_ok-push_matches.ensures
    ∙ ap (λ (start : List Pair). start ++ filter (row_pairs.is_match_told talk chosen entries) (map (λ (row : Row). row.pair) c.args.matched.now)) c.new-pairs.ensures.items
    ∙ ap (filter (row_pairs.is_match_told talk chosen entries)) same)
    ∙ ap (λ (choice : rows.Choice). filter (row_pairs.is_match_told talk choice entries) (matching.reliable_pairs (matching.matches_among (directory.settled_in entries))) ++ filter (row_pairs.is_pair_asked choice entries) talking)
    (choice_kept asked intake entries talk.who kept.nodes)) c.sort.ensures.permutation)
    c.in_ok-sort.ensures.sorted (dedup_is _ _ _ c.dedup.ensures.filtered)
