use Rattle.std.proofs.Common.{◌++◌, ◌∷◌, [], ◌∙◌, List, ap, arith, codes, pos}
use Rattle.std.proofs.lemmas.Int.{ints}
use Rattle.rtps_page.proofs.Written.{Token, entry_json, json_tokens, on_ok_weaker}
use Rattle.rtps_page.proofs.chart_entries.push_sample.Goals as goal

pub returns-clause-tokens : goal.returns-clause-tokens
returns-clause-tokens c =
    let start : List Token = c.args.writer.now.tokens in
    let value = c.get.ensures.value in
    let positive = c.get.ensures.positive in
    let small = c.get.type_inv in
    on_ok_weaker c.push_entry.result
    (λ last. last ∙ ap (λ n. start ++ json_tokens (entry_json c.args.head.place c.args.head.named.now (codes "sample") (n ∷ []))) {y = pos c.args.number} (omega (arith, ints)))
    c.push_entry.ensures.tokens
