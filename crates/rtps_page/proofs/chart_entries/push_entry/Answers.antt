use Rattle.std.proofs.Common.{◌++◌, ◌∷◌, [], ◌∙◌, List, ap, decimal, flat_map, sym, take_all}
use Rattle.rtps_page.proofs.EntryLemmas.{entry_tokens}
use Rattle.rtps_page.proofs.Written.{Token, begin_array, end_array, json_tokens, named_json, number, number_json, on_ok_weaker, seven_parts, string}
use Rattle.rtps_page.proofs.chart_entries.push_entry.Goals as goal

pub returns-clause-tokens : goal.returns-clause-tokens
returns-clause-tokens c =
    let start : List Token = c.args.writer.now.tokens in
    let place = c.args.head.place in
    let named = c.args.head.named.now in
    let numbers = c.args.numbers.now in
    let all = take_all c.loop-number.number-index numbers c.loop-number-test.false in
    on_ok_weaker c.end_array.result
    (λ last.
    seven_parts start (begin_array ∷ []) (number (decimal place.datagram) ∷ []) (number (decimal place.at) ∷ []) (string c.args.kind.now ∷ []) (flat_map (λ n. json_tokens (number_json n)) numbers)
    (flat_map json_tokens (named_json named)) (end_array ∷ []) c.in_ok-begin_array.ensures.ok c.in_ok-u64.ensures.ok c.in_ok-u64-2.ensures.ok c.in_ok-string.ensures.ok
    (c.loop-number.invariant.0 ∙ ap (λ l. c.string.new.self.tokens ++ flat_map (λ n. json_tokens (number_json n)) l) all) c.in_ok-push_named.ensures.tokens last
    ∙ ap (λ tokens. start ++ tokens) (sym (entry_tokens place named c.args.kind.now numbers)))
    c.end_array.ensures.ok
