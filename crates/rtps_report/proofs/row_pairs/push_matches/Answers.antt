use Rattle.std.proofs.Common.{◌∙◌, List, map, sym, take}
use Rattle.std.proofs.lemmas.List.{map_more}
use Rattle.rtps_audit.specs.declared.report.Row.{Row}
use Rattle.rtps_report.specs.Asked as asked
use Rattle.rtps_who.specs.Recorded as recorded
use Rattle.rtps_report.specs.Rows as rows
use Rattle.rtps_report.specs.RowPairs as row_pairs
use Rattle.rtps_discovery.specs.declared.matching.Pair.{Pair}
use Rattle.rtps_report.proofs.KeptLemmas.{kept_more, kept_skip}
use Rattle.rtps_report.proofs.row_pairs.push_matches.Goals as goal
use Rattle.rtps_report.proofs.row_pairs.push_matches.Goals.{then-is_match_told+in_ok-push, else-is_match_told}

pub loop-row-preserved : goal.loop-row-preserved
loop-row-preserved c =
    let wanted = c.args.wanted in
    let test = row_pairs.is_match_told wanted.talk.now (rows.chosen_by (asked.asked_value wanted.asked.now) (recorded.node_in wanted.talk.now.who)) wanted.directory.now.endpoints in
    let pairs_in : List Row → List Pair = map (λ (row : Row). row.pair) in
    let matched = c.args.matched.now in
    let place = c.loop-row.row-index in
    let more = map_more (λ (row : Row). row.pair) matched place _ c.loop-row-test.true in
    elim c.if-is_match_told.branch [
      | then-is_match_told+in_ok-push w ↦
          rw w.pairs-is
          (kept_more test c.args.pairs.now.items c.loop-row.pairs.items _ (pairs_in (take place matched)) _ _ more (sym c.is_match_told.ensures ∙ w.if-is_match_told.true) w.in_ok-push.ensures.items
          c.loop-row.invariant)
      | else-is_match_told w ↦
          rw w.pairs-is
          (kept_skip test c.args.pairs.now.items c.loop-row.pairs.items (pairs_in (take place matched)) _ _ more (sym c.is_match_told.ensures ∙ w.if-is_match_told.false) c.loop-row.invariant)
    ]
