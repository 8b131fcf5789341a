use Rattle.std.proofs.Common.{◌++◌, ◌∷◌, [], ◌∙◌, List, ap, codes, flat_map, map, sym, take, take_all}
use Rattle.std.proofs.lemmas.List.{flat_map_more}
use Rattle.rtps_audit.specs.Placed as placed
use Rattle.rtps_audit.specs.declared.placed.Placed.{Placed}
use Rattle.rtps_fragments.proofs.Offered.{values_more}
use Rattle.rtps_page.proofs.EntryLemmas.{answered_tokens}
use Rattle.rtps_page.proofs.Written.{Token, answer_json, begin_array, begin_object, end_array, end_object, guid_text, json_tokens, key, on_ok_weaker, six_parts, string, three_parts, two_parts}
use Rattle.rtps_page.proofs.chart_answers.push_answers.Goals as goal

pub loop-placed-preserved : goal.loop-placed-preserved
loop-placed-preserved c =
    let answers = c.args.answers.now in
    let i = c.loop-placed.placed-index in
    let x = c.placed-item.result in
    let start : List Token = c.begin_array.new.self.tokens in
    let said : placed.PlacedValue → List Token = λ placed. json_tokens (answer_json placed) in
    let so_far = map placed.placed_value (take i answers) in (
      c.in_ok-push_answer.ensures.tokens ∙ ap (λ l. l ++ said (placed.placed_value x)) c.loop-placed.invariant.0 ∙ flat_map_more said start so_far (placed.placed_value x)
          ∙ ap (λ l. start ++ flat_map said l) (sym (values_more answers i x c.loop-placed-test.true c.placed-item.is)),
      c.in_ok-push_answer.ensures.before ∙ c.loop-placed.invariant.1,
    )

pub returns-clause-tokens : goal.returns-clause-tokens
returns-clause-tokens c =
    let start : List Token = c.args.writer.now.tokens in
    let pair = c.args.pair in
    let answers = map placed.placed_value c.args.answers.now in
    let each : List placed.PlacedValue → List Token = λ all. flat_map (λ placed. json_tokens (answer_json placed)) all in
    let all = ap (λ (l : List Placed). map placed.placed_value l) (take_all c.loop-placed.placed-index c.args.answers.now c.loop-placed-test.false) in
    on_ok_weaker c.end_object.result
    (λ last.
    six_parts start (begin_object ∷ []) (key (codes "writer") ∷ string (guid_text pair.writer) ∷ []) (key (codes "reader") ∷ string (guid_text pair.reader) ∷ []) (key (codes "bases") ∷ []) (begin_array ∷ [])
    (each answers ++ (end_array ∷ end_object ∷ [])) c.in_ok-begin_object.ensures.ok
    (two_parts c.begin_object.new.self.tokens (key (codes "writer") ∷ []) (string (guid_text pair.writer) ∷ []) c.in_ok-key.ensures.ok c.in_ok-push_guid.ensures.tokens)
    (two_parts c.push_guid.new.writer.tokens (key (codes "reader") ∷ []) (string (guid_text pair.reader) ∷ []) c.in_ok-key-2.ensures.ok c.in_ok-push_guid-2.ensures.tokens) c.in_ok-key-3.ensures.ok c.in_ok-begin_array.ensures.ok
    (three_parts c.begin_array.new.self.tokens (each answers) (end_array ∷ []) (end_object ∷ [])
    (c.loop-placed.invariant.0 ∙ ap (λ l. c.begin_array.new.self.tokens ++ each l) all) c.in_ok-end_array.ensures.ok last)
    ∙ ap (λ tokens. start ++ tokens) (sym (answered_tokens pair answers)))
    c.end_object.ensures.ok
