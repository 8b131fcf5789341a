use Rattle.std.proofs.Common.{◌≡◌, ◌++◌, ◌∷◌, [], ◌∙◌, ℕ, List, true, ap, append-nil, codes, cond, flat_map, sym}
use Rattle.rtps_evidence.specs.Times as times_spec
use Rattle.rtps_json.specs.JsonText as json_text
use Rattle.rtps_page.specs.ChartTimes as chart_times
use Rattle.rtps_page.proofs.EntryLemmas.{array_tokens}
use Rattle.rtps_page.proofs.TimeLemmas.{times_tokens}
use Rattle.rtps_page.proofs.Written.{Token, array_of, begin_array, end_array, four_parts, json_tokens, key, on_ok_weaker, placed_in, times_member, tokens_of}
use Rattle.rtps_page.proofs.chart_times.push_times.Goals as goal

pub returns-clause-tokens : goal.returns-clause-tokens
returns-clause-tokens c = λ intake is.
    let start : List Token = c.args.writer.now.tokens in
    let begun : List Token = c.begin_array.new.self.tokens in
    let times = json_text.clock_times c.args.clock in
    let acts = placed_in intake.acts in
    let shown = chart_times.datagrams_shown acts c.args.pairs.now in
    let values = chart_times.times_json times shown in
    let said : List Token = flat_map json_tokens values in
    let flat : List ℕ → List Token = λ datagrams. flat_map (λ datagram. flat_map json_tokens (chart_times.time_of_json times datagram)) datagrams in
    let there : times_spec.are_there times.of_datagrams ≡ true = sym c.are_there.ensures ∙ c.if-not-are_there.false in
    let rising = c.in_ok-datagrams.datagrams.items in
    let written = c.in_ok-push_each_time.ensures.tokens
    ∙ ap (λ l. begun ++ l) (ap flat c.deref.ensures.value ∙ times_tokens times shown rising c.in_ok-datagrams.ensures.rising (c.in_ok-datagrams.ensures.same intake is)) in
    on_ok_weaker c.end_array.result
    (λ last.
    four_parts start (key (codes "times") ∷ []) (begin_array ∷ []) said (end_array ∷ []) c.in_ok-key.ensures.ok c.in_ok-begin_array.ensures.ok written last
    ∙ ap (λ tokens. start ++ key (codes "times") ∷ tokens) (sym (array_tokens values) ∙ sym (append-nil (json_tokens (array_of values))))
    ∙ ap (λ timed. start ++ tokens_of (cond timed (times_member times acts c.args.pairs.now ∷ []) [])) (sym there))
    c.end_array.ensures.ok
