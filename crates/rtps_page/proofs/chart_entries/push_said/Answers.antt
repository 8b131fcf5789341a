use Rattle.std.proofs.Common.{◌≡◌, ◌∙◌, ◌++◌, ◌∷◌, [], List, ap, append-nil, arith, codes, map, rules, sym, flat_map}
use Rattle.std.proofs.lemmas.Int.{ints}
use Rattle.std.proofs.lemmas.List.Concat.{flat_map-append}
use Rattle.std.proofs.lemmas.List.Folds.{flat_map-map}
use Rattle.json.specs.Json.{Json}
use Rattle.rtps_receiver.specs.Values as values
use Rattle.rtps_page.proofs.Written.{entries_at, entry_json, gone_json, json_tokens, members_of, on_ok_weaker, one_gone_json, Token, two_parts}
use Rattle.rtps_page.proofs.chart_entries.push_said.Goals as goal

pub returns-in_ok-push_gone-in-Act-Heartbeat-clause-tokens : goal.returns-in_ok-push_gone-in-Act-Heartbeat-clause-tokens
returns-in_ok-push_gone-in-Act-Heartbeat-clause-tokens c =
    let start : List Token = c.args.writer.now.tokens in
    let place = c.args.head.place in
    let named = c.args.head.named.now in
    let heartbeat = c.in-Act-Heartbeat.heartbeat in
    let is : values.spoken_body_value c.args.body.now ≡ values.ActBodyValue.Heartbeat heartbeat = search rules in
    let gone : List Json = gone_json place named 1 heartbeat.first in
    let last_one : Json = entry_json place named (codes "announced") (heartbeat.last ∷ []) in
    let first : c.cast_unsigned.result ≡ heartbeat.first = omega (arith, ints) in
    on_ok_weaker c.push_last.result
    (λ last.
    two_parts start (flat_map json_tokens gone) (json_tokens last_one) (c.in_ok-push_gone-in-Act-Heartbeat.ensures.tokens ∙ ap (λ n. start ++ flat_map json_tokens (gone_json place named 1 n)) first) last
    ∙ ap (λ l. start ++ (flat_map json_tokens gone ++ l)) (sym (append-nil (json_tokens last_one)))
    ∙ ap (λ l. start ++ l) (sym (flat_map-append json_tokens gone (last_one ∷ [])))
    ∙ ap (λ body. start ++ flat_map json_tokens (entries_at place named body)) (sym is))
    c.push_last.ensures.tokens

pub returns-in_ok-push_gone-in-Act-Gap-clause-tokens : goal.returns-in_ok-push_gone-in-Act-Gap-clause-tokens
returns-in_ok-push_gone-in-Act-Gap-clause-tokens c =
    let start : List Token = c.args.writer.now.tokens in
    let place = c.args.head.place in
    let named = c.args.head.named.now in
    let gap = c.in-Act-Gap.gap in
    let is : values.spoken_body_value c.args.body.now ≡ values.ActBodyValue.Gap gap = search rules in
    let gone : List Json = gone_json place named gap.start gap.list.base in
    let each : List Json = map (one_gone_json place named) (members_of gap.list) in
    let from : c.cast_unsigned-start.result ≡ gap.start = omega (arith, ints) in
    let past : c.cast_unsigned-in-Act-Gap.result ≡ gap.list.base = omega (arith, ints) in
    on_ok_weaker c.push_members.result
    (λ last.
    two_parts start (flat_map json_tokens gone) (flat_map json_tokens each)
    (c.in_ok-push_gone-in-Act-Gap.ensures.tokens ∙ ap (λ n. start ++ flat_map json_tokens (gone_json place named n c.cast_unsigned-in-Act-Gap.result)) from
    ∙ ap (λ n. start ++ flat_map json_tokens (gone_json place named gap.start n)) past)
    (last ∙ ap (λ l. c.push_gone-in-Act-Gap.new.writer.tokens ++ l) (sym (flat_map-map json_tokens (one_gone_json place named) (members_of gap.list))))
    ∙ ap (λ l. start ++ l) (sym (flat_map-append json_tokens gone each))
    ∙ ap (λ body. start ++ flat_map json_tokens (entries_at place named body)) (sym is))
    c.push_members.ensures.tokens
