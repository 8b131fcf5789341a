use Rattle.std.proofs.Common.{◌≡◌, ◌∙◌, ◌+◌, ◌++◌, ◌∷◌, [], ap, map, sym, take}
use Rattle.std.proofs.lemmas.List.{map_more, map_push}
use Rattle.rtps_policies.specs.Unmatched as unmatched
use Rattle.rtps_policies.specs.declared.unmatched.Unmatched.{Unmatched}
use Rattle.rtps_report.specs.Asked as asked
use Rattle.rtps_who.specs.Recorded as recorded
use Rattle.rtps_report.specs.Rows as rows
use Rattle.rtps_report.specs.RowPairs as row_pairs
use Rattle.rtps_discovery.specs.declared.matching.Pair.{Pair}
use Rattle.rtps_report.proofs.KeptLemmas.{kept_more, kept_skip}
use Rattle.rtps_report.proofs.row_pairs.push_talking.Goals as goal
use Rattle.rtps_report.proofs.row_pairs.push_talking.Goals.{then-is_asked+in_ok-push, else-is_asked}

pub loop-one-preserved : goal.loop-one-preserved
loop-one-preserved c =
    let wanted = c.args.wanted in
    let test = row_pairs.is_pair_asked (rows.chosen_by (asked.asked_value wanted.asked.now) (recorded.node_in wanted.talk.now.who)) wanted.directory.now.endpoints in
    let talking = c.deref-one-items.result.now in
    let place = c.loop-one.one-index in
    let one = c.one-item.result in
    let pair = c.pair_of-pair.result in
    let values = map unmatched.unmatched_value (take place talking) in
    let more : map unmatched.pair_of (map unmatched.unmatched_value (take (place + 1) talking)) ≡ map unmatched.pair_of values ++ pair ∷ [] =
    ap (map unmatched.pair_of)
    (map_more unmatched.unmatched_value talking place one c.loop-one-test.true ∙ ap (λ (found : Unmatched). values ++ unmatched.unmatched_value found ∷ []) (sym c.one-item.is))
    ∙ map_push unmatched.pair_of values (unmatched.unmatched_value one) ∙ ap (λ (found : Pair). map unmatched.pair_of values ++ found ∷ []) (sym c.pair_of-pair.ensures) in
    elim c.if-is_asked.branch [
      | then-is_asked+in_ok-push w ↦
          rw w.pairs-is
          (kept_more test c.args.pairs.now.items c.loop-one.pairs.items _ (map unmatched.pair_of values) _ pair more (sym c.is_asked.ensures ∙ w.if-is_asked.true) w.in_ok-push.ensures.items
          c.loop-one.invariant)
      | else-is_asked w ↦
          rw w.pairs-is
          (kept_skip test c.args.pairs.now.items c.loop-one.pairs.items (map unmatched.pair_of values) _ pair more (sym c.is_asked.ensures ∙ w.if-is_asked.false) c.loop-one.invariant)
    ]
