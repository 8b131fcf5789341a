use Rattle.std.proofs.Common.{◌++◌, ◌∷◌, [], ◌∙◌, List, None, ap, codes, flat_map, get_or, sym, take, take_all}
use Rattle.std.proofs.lemmas.List.{flat_map_more, take_more}
use Rattle.rtps_ids.specs.declared.identity.Guid.{Guid}
use Rattle.rtps_page.proofs.Written.{Token, begin_array, end_array, four_parts, json_tokens, key, mapped_tokens, placed_in, writer_json, writers_behind}
use Rattle.rtps_page.proofs.chart_writers.push_writers.Goals as goal

pub loop-guid-preserved : goal.loop-guid-preserved
loop-guid-preserved c =
    let guids = c.deref-guid-items.result.now in
    let i = c.loop-guid.guid-index in
    let none : Guid = record { prefix = record { 0 = [] }; entity = record { 0 = [] } } in (
      λ intake is.
          let said : Guid → List Token = λ guid. json_tokens (writer_json (placed_in intake.acts) c.args.said.pairs.now guid) in
          let start : List Token = c.begin_array.new.self.tokens in
          c.in_ok-push_writer.ensures.tokens intake is
          ∙ ap (λ l. l ++ said (get_or guids i none)) (c.loop-guid.invariant.0 intake is)
          ∙ flat_map_more said start (take i guids) (get_or guids i none)
          ∙ ap (λ (done : List Guid). start ++ flat_map said done) (sym (take_more guids i none c.loop-guid-test.true)),
      c.in_ok-push_writer.ensures.before ∙ c.loop-guid.invariant.1,
    )

pub returns-clause-tokens : goal.returns-clause-tokens
returns-clause-tokens c = λ intake is.
    let start : List Token = c.args.writer.now.tokens in
    let acts = placed_in intake.acts in
    let pairs = c.args.said.pairs.now in
    let writers = writers_behind None c.args.pairs.now in
    let flat : List Guid → List Token = λ guids. flat_map (λ guid. json_tokens (writer_json acts pairs guid)) guids in
    let all = take_all c.loop-guid.guid-index c.deref-guid-items.result.now c.loop-guid-test.false ∙ c.deref-guid-items.ensures.value ∙ c.in_ok-guids.ensures in
    four_parts start (key (codes "writers") ∷ []) (begin_array ∷ []) (flat writers) (end_array ∷ []) c.in_ok-key.ensures.ok c.in_ok-begin_array.ensures.ok
    (c.loop-guid.invariant.0 intake is ∙ ap (λ l. c.begin_array.new.self.tokens ++ flat l) all) c.in_ok-end_array.ensures.ok
    ∙ ap (λ tokens. start ++ key (codes "writers") ∷ tokens) (sym (mapped_tokens (writer_json acts pairs) writers))
