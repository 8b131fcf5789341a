use Rattle.std.proofs.Common.{◌≡◌, ◌++◌, take, option_map}
use Rattle.std.specs.List.{flat_map}
use Rattle.json.specs.Tree.{json_tokens}
use Rattle.rtps_evidence.specs.Explanation as explanation
use Rattle.rtps_json.specs.JsonText as json_text
use Rattle.rtps_json.proofs.json_object.push_pairs.Given as goal

abbrev pub invariant-loop-row : goal.invariant-loop-row
invariant-loop-row l =
    (l.writer.tokens ≡ l.initial.writer.tokens ++ flat_map (λ row. json_tokens (json_text.row_json (option_map json_text.telling_value l.form.telling) (json_text.clock_times l.form.clock) (explanation.explanation_value row))) (take l.row-index l.rows))
    × (l.writer.before ≡ l.initial.writer.before)
