use Rattle.std.proofs.Common.{◌≡◌, ◌++◌, flat_map, take}
use Rattle.rtps_evidence.specs.Explanation as explanation
use Rattle.rtps_json.specs.JsonText as json_text
use Rattle.rtps_page.proofs.Written.{joining_json, json_tokens}
use Rattle.rtps_page.proofs.joining.push_all_joined.Given as goal

abbrev pub invariant-loop-row : goal.invariant-loop-row
invariant-loop-row l = (l.writer.tokens ≡ l.initial.writer.tokens ++ flat_map (λ row. json_tokens (joining_json (json_text.clock_times l.clock) (explanation.explanation_value row))) (take l.row-index l.rows))
    × (l.writer.before ≡ l.initial.writer.before)
