use Rattle.std.proofs.Common.{◌++◌, ◌∷◌, [], ◌∙◌, List, ap, flat_map, sym}
use Rattle.rtps_page.proofs.EntryLemmas.{numbers_tokens}
use Rattle.rtps_page.proofs.Written.{Token, begin_array, count_json, end_array, json_tokens, members_of, on_ok_weaker, three_parts}
use Rattle.rtps_page.proofs.chart_answers.push_list.Goals as goal

pub returns-clause-tokens : goal.returns-clause-tokens
returns-clause-tokens c =
    let start : List Token = c.args.writer.now.tokens in
    let numbers = members_of c.args.set.now in
    on_ok_weaker c.end_array.result
    (λ last.
    three_parts start (begin_array ∷ []) (flat_map (λ number. json_tokens (count_json number)) numbers) (end_array ∷ []) c.in_ok-begin_array.ensures.ok c.in_ok-push_numbers.ensures.tokens last
    ∙ ap (λ tokens. start ++ tokens) (sym (numbers_tokens numbers)))
    c.end_array.ensures.ok
