use Rattle.std.proofs.Common.{◌≡◌, ◌++◌, flat_map, map, take}
use Rattle.rtps_audit.specs.Placed as placed
use Rattle.rtps_page.proofs.Written.{answer_json, json_tokens}
use Rattle.rtps_page.proofs.chart_answers.push_answers.Given as goal

abbrev pub invariant-loop-placed : goal.invariant-loop-placed
invariant-loop-placed l = (l.writer.tokens ≡ l.initial.writer.tokens ++ flat_map (λ placed. json_tokens (answer_json placed)) (map placed.placed_value (take l.placed-index l.answers))) × (l.writer.before ≡ l.initial.writer.before)
