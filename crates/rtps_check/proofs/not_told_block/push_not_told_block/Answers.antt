use Rattle.std.proofs.Common.{◌≡◌, ◌++◌, ◌∙◌, List, ℕ, ap, codes, flat_map, get_or, map, string_bytes, sym, take_all}
use Rattle.std.proofs.lemmas.List.{length-map}
use Rattle.rtps_lines.proofs.Offered.{two_parts}
use Rattle.rtps_report.specs.NotTold as not_told
use Rattle.rtps_report.specs.Talk as talk
use Rattle.rtps_report.specs.declared.not_told.NotTold.{NotTold}
use Rattle.rtps_check.specs.DiscoveryText as discovery_text
use Rattle.rtps_check.proofs.DiscoveryLemmas.{some_not_told, values_more}
use Rattle.rtps_check.proofs.not_told_block.push_not_told_block.Goals as goal

pub loop-one-preserved : goal.loop-one-preserved
loop-one-preserved c =
    let talk = talk.talk_value c.args.talk.now in
    let one = c.one-item.result in
    let told : string_bytes c.push_not_told.new.text ≡ string_bytes c.loop-one.text ++ discovery_text.not_told_lines talk (not_told.not_told_value (get_or c.deref-one-items.result.now c.loop-one.one-index one)) =
    c.in_ok-push_not_told.ensures ∙ ap (λ (found : NotTold). string_bytes c.loop-one.text ++ discovery_text.not_told_lines talk (not_told.not_told_value found)) c.one-item.is in
    values_more (discovery_text.not_told_lines talk) not_told.not_told_value c.deref-one-items.result.now c.loop-one.one-index one (string_bytes c.push_str.new.self) (string_bytes c.loop-one.text)
    (string_bytes c.push_not_told.new.text) c.loop-one-test.true c.loop-one.invariant told

pub returns : goal.returns
returns c =
    let talk = talk.talk_value c.args.talk.now in
    let old = string_bytes c.args.text.now in
    let stored = c.args.talk.now.not_told in
    let lines : List NotTold → List ℕ = λ ones. flat_map (discovery_text.not_told_lines talk) (map not_told.not_told_value ones) in
    let told : string_bytes c.loop-one.text ≡ string_bytes c.push_str.new.self ++ lines stored.items =
    c.loop-one.invariant
    ∙ ap (λ ones. string_bytes c.push_str.new.self ++ lines ones) (take_all c.loop-one.one-index c.deref-one-items.result.now c.loop-one-test.false ∙ c.deref-one-items.ensures.value) in
    two_parts old (codes "\ndiscovery is not complete\n") (lines stored.items) c.in_ok-push_str.ensures.bytes told
    ∙ ap (λ text. old ++ text)
    (some_not_told talk (map not_told.not_told_value stored.items) _ (length-map stored.items not_told.not_told_value ∙ sym stored.ok.0) (sym c.is_empty.ensures ∙ c.if-is_empty.false))
