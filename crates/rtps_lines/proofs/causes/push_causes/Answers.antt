use Rattle.std.proofs.Common.{◌≡◌, ◌++◌, List, ℕ, map, rules}
use Rattle.std.proofs.lemmas.Result.{on_ok_weaker}
use Rattle.std.specs.String.{string_bytes}
use Rattle.rtps_lines.specs.Causes as causes
use Rattle.rtps_lines.proofs.PartLemmas.{eight_parts}
use Rattle.rtps_lines.proofs.causes.push_causes.Goals as goal

pub returns : goal.returns
returns c =
    let start : List (List ℕ) = map string_bytes c.args.causes.now.items in
    let found = c.args.found.now in
    let unmatched : map string_bytes c.push_cause.new.causes.items ≡ map string_bytes c.push_row_causes.new.causes.items ++ causes.cause found.unmatched causes.unmatched_words = search rules in
    on_ok_weaker c.push_unread.result
    (eight_parts start (causes.empty_cause found.empty) (causes.row_causes c.args.judged.totals.now c.args.judged.certain) (causes.cause found.unmatched causes.unmatched_words) (causes.discovery_causes found) (causes.order_causes found)
    (causes.lossy_cause found.lossy) (causes.few_cause found.few) (causes.unread_causes found)
    c.in_ok-push_empty.ensures c.in_ok-push_row_causes.ensures unmatched c.in_ok-push_discovery.ensures c.in_ok-push_order.ensures c.in_ok-push_lossy.ensures c.in_ok-push_few.ensures)
    c.push_unread.ensures
