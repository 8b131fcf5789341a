use Rattle.std.proofs.Common.{◌++◌, ◌∷◌, [], ◌∙◌, ap, codes, option_map}
use Rattle.std.proofs.lemmas.List.{take_all}
use Rattle.std.proofs.lemmas.Result.{on_ok_weaker}
use Rattle.std.specs.List.{flat_map}
use Rattle.json.specs.Token.{begin_array, end_array, key}
use Rattle.json.specs.Tree.{json_tokens}
use Rattle.rtps_evidence.specs.Explanation as explanation
use Rattle.rtps_json.specs.JsonText as json_text
use Rattle.rtps_json.proofs.JsonLemmas.{rows_tokens}
use Rattle.rtps_lines.proofs.Offered.{four_parts}
use Rattle.rtps_json.proofs.json_object.push_pairs.Goals as goal

pub returns-clause-tokens : goal.returns-clause-tokens
returns-clause-tokens c =
    let start = c.args.writer.now.tokens in
    let rows = c.args.rows.now in
    let telling = option_map json_text.telling_value c.args.form.telling in
    let times = (json_text.clock_times c.args.form.clock) in
    let written = c.loop-row.invariant.0
    ∙ ap (λ all. c.begin_array.new.self.tokens ++ flat_map (λ row. json_tokens (json_text.row_json telling times (explanation.explanation_value row))) all) (take_all c.loop-row.row-index rows c.loop-row-test.false) in
    let objects = flat_map (λ row. json_tokens (json_text.row_json telling times (explanation.explanation_value row))) rows in
    on_ok_weaker c.end_array.result
    (λ last.
    four_parts start (key (codes "pairs") ∷ []) (begin_array ∷ []) objects (end_array ∷ []) c.in_ok-key.ensures.ok c.in_ok-begin_array.ensures.ok written last
    ∙ ap (λ tokens. start ++ key (codes "pairs") ∷ begin_array ∷ tokens) (rows_tokens telling times rows))
    c.end_array.ensures.ok
