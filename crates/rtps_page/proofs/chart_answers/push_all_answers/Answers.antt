use Rattle.std.proofs.Common.{◌++◌, ◌∷◌, [], ◌∙◌, List, ap, codes, flat_map, get_or, map, sym, take, take_all}
use Rattle.std.proofs.lemmas.List.{flat_map_more, take_more}
use Rattle.rtps_ids.specs.declared.identity.Guid.{Guid}
use Rattle.rtps_audit.specs.Placed as placed
use Rattle.rtps_audit.specs.declared.placed.Placed.{Placed}
use Rattle.rtps_discovery.specs.declared.matching.Pair.{Pair}
use Rattle.rtps_page.specs.Page as page
use Rattle.rtps_page.proofs.Written.{Token, answers_json, begin_array, end_array, four_parts, json_tokens, key, mapped_tokens, on_ok_weaker, placed_in}
use Rattle.rtps_page.proofs.chart_answers.push_all_answers.Goals as goal

pub loop-pair-preserved : goal.loop-pair-preserved
loop-pair-preserved c =
    let pairs = c.args.pairs.now in
    let i = c.loop-pair.pair-index in
    let guid : Guid = record { prefix = record { 0 = [] }; entity = record { 0 = [] } } in
    let none : Pair = record { writer = guid; reader = guid } in (
      λ intake is.
          let answers : Pair → List Token = λ pair. json_tokens (answers_json (placed_in intake.acts) pair) in
          let start : List Token = c.begin_array.new.self.tokens in
          let acts = ap (λ (l : List Placed). map placed.placed_value l) c.deref.ensures.value ∙ c.in_ok-answers.ensures intake is in
          c.in_ok-push_answers.ensures.tokens
          ∙ ap (λ l. l ++ json_tokens (page.answered_json (get_or pairs i none) (map placed.placed_value c.deref.result.now))) (c.loop-pair.invariant.0 intake is)
          ∙ ap (λ (l : List placed.PlacedValue). (start ++ flat_map answers (take i pairs)) ++ json_tokens (page.answered_json (get_or pairs i none) l)) acts
          ∙ flat_map_more answers start (take i pairs) (get_or pairs i none)
          ∙ ap (λ (done : List Pair). start ++ flat_map answers done) (sym (take_more pairs i none c.loop-pair-test.true)),
      c.in_ok-push_answers.ensures.before ∙ c.loop-pair.invariant.1,
    )

pub returns-clause-tokens : goal.returns-clause-tokens
returns-clause-tokens c = λ intake is.
    let start : List Token = c.args.writer.now.tokens in
    let acts = placed_in intake.acts in
    let pairs = c.args.pairs.now in
    let all = take_all c.loop-pair.pair-index pairs c.loop-pair-test.false in
    on_ok_weaker c.end_array.result
    (λ last.
    four_parts start (key (codes "answers") ∷ []) (begin_array ∷ []) (flat_map (λ pair. json_tokens (answers_json acts pair)) pairs) (end_array ∷ []) c.in_ok-key.ensures.ok c.in_ok-begin_array.ensures.ok
    (c.loop-pair.invariant.0 intake is ∙ ap (λ l. c.begin_array.new.self.tokens ++ flat_map (λ pair. json_tokens (answers_json acts pair)) l) all) last
    ∙ ap (λ tokens. start ++ key (codes "answers") ∷ tokens) (sym (mapped_tokens (answers_json acts) pairs)))
    c.end_array.ensures.ok
