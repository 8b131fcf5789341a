use Rattle.std.proofs.Common.{◌≡◌, ◌++◌, drop, map}
use Rattle.json.specs.Tree.{items_tokens}
use Rattle.rtps_json.specs.JsonText.{count_json, items_of}
use Rattle.rtps_json.proofs.json_writer.push_counts.Given as goal

abbrev pub invariant-loop-count : goal.invariant-loop-count
invariant-loop-count l =
    (l.writer.tokens ++ items_tokens (items_of (map count_json (drop l.count-index l.counts))) ≡ l.initial.writer.tokens ++ items_tokens (items_of (map count_json l.counts)))
    × (l.writer.before ≡ l.initial.writer.before)
