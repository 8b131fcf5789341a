use Rattle.std.proofs.Common.{◌++◌, ◌∷◌, [], ◌∙◌, List, ap, codes, flat_map, map, sym, take_all}
use Rattle.std.proofs.lemmas.List.Folds.{flat_map-map}
use Rattle.rtps_evidence.specs.Explanation as explanation
use Rattle.rtps_evidence.specs.declared.explanation.Explanation.{Explanation}
use Rattle.rtps_json.specs.JsonText as json_text
use Rattle.rtps_page.proofs.Written.{Token, begin_array, end_array, four_parts, joining_json, json_tokens, key, mapped_tokens, on_ok_weaker}
use Rattle.rtps_page.proofs.joining.push_all_joined.Goals as goal

pub returns-clause-tokens : goal.returns-clause-tokens
returns-clause-tokens c =
    let start : List Token = c.args.writer.now.tokens in
    let times = json_text.clock_times c.args.clock in
    let rows = c.args.rows.now in
    let one : explanation.ExplanationValue → List Token = λ row. json_tokens (joining_json times row) in
    let read : List Explanation → List Token = λ rows. flat_map (λ row. one (explanation.explanation_value row)) rows in
    let all = take_all c.loop-row.row-index rows c.loop-row-test.false in
    on_ok_weaker c.end_array.result
    (λ last.
    four_parts start (key (codes "joined") ∷ []) (begin_array ∷ []) (flat_map one (map explanation.explanation_value rows)) (end_array ∷ []) c.in_ok-key.ensures.ok c.in_ok-begin_array.ensures.ok
    (c.loop-row.invariant.0 ∙ ap (λ l. c.begin_array.new.self.tokens ++ l) (ap read all ∙ sym (flat_map-map one explanation.explanation_value rows))) last
    ∙ ap (λ tokens. start ++ key (codes "joined") ∷ tokens) (sym (mapped_tokens (joining_json times) (map explanation.explanation_value rows))))
    c.end_array.ensures.ok
