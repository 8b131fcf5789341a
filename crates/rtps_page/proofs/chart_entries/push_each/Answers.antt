use Rattle.std.proofs.Common.{◌++◌, ◌∷◌, [], ◌∙◌, List, ap, flat_map, sym, take}
use Rattle.std.proofs.lemmas.List.{flat_map_more, take_more}
use Rattle.rtps_page.specs.ChartEntries as chart_entries
use Rattle.rtps_page.specs.declared.tellings.Telling.{Telling}
use Rattle.rtps_page.proofs.Written.{json_tokens, Token}
use Rattle.rtps_page.proofs.chart_entries.push_each.Goals as goal

pub loop-telling-preserved : goal.loop-telling-preserved
loop-telling-preserved c =
    let start : List Token = c.args.writer.now.tokens in
    let each = c.args.each.now in
    let i = c.loop-telling.telling-index in
    let x = c.telling-item.result in
    let said : Telling → List Token = λ one. flat_map json_tokens (chart_entries.samples_to c.args.teller.now.place c.args.teller.now.number (chart_entries.told_of c.args.teller.now.at one)) in (
      c.in_ok-push_to.ensures.tokens ∙ ap (λ l. l ++ said x) c.loop-telling.invariant.0 ∙ flat_map_more said start (take i each) x
          ∙ ap (λ (done : List Telling). start ++ flat_map said done) (sym (take_more each i x c.loop-telling-test.true ∙ ap (λ y. take i each ++ y ∷ []) (sym c.telling-item.is))),
      c.in_ok-push_to.ensures.before ∙ c.loop-telling.invariant.1,
    )
