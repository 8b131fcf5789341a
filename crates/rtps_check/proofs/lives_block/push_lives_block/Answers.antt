use Rattle.std.proofs.Common.{◌≡◌, ◌++◌, ◌∷◌, [], ◌∙◌, ◌==◌, ℕ, List, ap, codes, false, flat_map, length, string_bytes, sym, take_all}
use Rattle.std.proofs.lemmas.Result.{on_ok_weaker}
use Rattle.std.specs.List.{concat}
use Rattle.rtps_lines.proofs.Offered.{three_parts}
use Rattle.rtps_lines.specs.Causes as causes
use Rattle.rtps_parts.specs.Parts as parts
use Rattle.rtps_report.specs.Talk as talk
use Rattle.rtps_report.specs.declared.two_lives.TwoLives.{TwoLives}
use Rattle.rtps_check.specs.DiscoveryText as discovery_text
use Rattle.rtps_check.specs.TalkText as talk_text
use Rattle.rtps_check.proofs.DiscoveryLemmas.{some_lives}
use Rattle.rtps_check.proofs.OneWayLemmas.{lines_more}
use Rattle.rtps_check.proofs.lives_block.push_lives_block.Goals as goal
use Rattle.rtps_lines.specs.declared.sentences.block.TheConstants as said

pub loop-one-preserved : goal.loop-one-preserved
loop-one-preserved c =
    lines_more (discovery_text.lives_line c.args.times.now (talk.talk_value c.args.talk.now)) c.deref-one-items.result.now c.loop-one.one-index _ (string_bytes c.render.new.text) (string_bytes c.loop-one.text)
    (string_bytes c.push_lives.new.text) c.loop-one-test.true c.loop-one.invariant c.in_ok-push_lives.ensures

pub returns : goal.returns
returns c =
    let talk = talk.talk_value c.args.talk.now in
    let times = c.args.times.now in
    let old = string_bytes c.args.text.now in
    let stored = c.args.talk.now.lives in
    let headed = string_bytes c.render.new.text in
    let lines : List TwoLives → List ℕ = flat_map (discovery_text.lives_line times talk) in
    let number = c.len.result in
    let head : List ℕ = concat (codes "\n" ∷ parts.amount number causes.lives_words ∷ codes "\n" ∷ []) in
    let end = talk_text.remedy_line said.LIVES_REMEDY.now in
    let long : length stored.items ≡ number = sym stored.ok.0 ∙ sym c.len.ensures in
    let some : (number == 0) ≡ false = ap (λ (n : ℕ). n == 0) c.len.ensures ∙ sym c.is_empty.ensures ∙ c.if-is_empty.false in
    let begun : headed ≡ old ++ head =
    c.in_ok-render.ensures ∙ ap (λ (words : parts.WordsValue). old ++ concat (codes "\n" ∷ parts.amount number words ∷ codes "\n" ∷ [])) c.lives_words.ensures in
    let told : string_bytes c.loop-one.text ≡ headed ++ lines stored.items =
    c.loop-one.invariant ∙ ap (λ (ones : List TwoLives). headed ++ lines ones) (take_all c.loop-one.one-index c.deref-one-items.result.now c.loop-one-test.false ∙ c.deref-one-items.ensures.value) in
    on_ok_weaker c.writeln.result
    (λ last. three_parts old head (lines stored.items) end begun told last ∙ ap (λ text. old ++ text) (some_lives times talk stored.items number long some))
    c.writeln.ensures.bytes
