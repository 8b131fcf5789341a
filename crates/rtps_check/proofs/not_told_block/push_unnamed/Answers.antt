use Rattle.std.proofs.Common.{◌++◌, ◌∙◌, [], Bool, List, ℕ, ap, ap₂, codes, if◌then◌else◌, string_bytes, sym}
use Rattle.std.proofs.lemmas.Bool.{ne_eqb}
use Rattle.std.proofs.lemmas.Result.{on_ok_weaker}
use Rattle.rtps_lines.specs.Causes as causes
use Rattle.rtps_lines.specs.EventText as event_text
use Rattle.rtps_lines.proofs.Offered.{three_parts}
use Rattle.rtps_parts.specs.Parts as parts
use Rattle.rtps_report.specs.Talk as talk
use Rattle.rtps_check.proofs.DiscoveryLemmas.{parts_joined}
use Rattle.rtps_check.proofs.not_told_block.push_unnamed.Goals as goal

pub returns : goal.returns
returns c =
    let talk = talk.talk_value c.args.talk.now in
    let one = c.args.one.now in
    let old = string_bytes c.args.text.now in
    let to = event_text.called talk one.to.prefix in
    let from = event_text.called talk one.from.prefix in
    let number = parts.amount one.unnamed causes.endpoint_words in
    let end : List ℕ → List ℕ = λ who. codes " of " ++ (who ++ codes " that this recording does not name\n") in
    on_ok_weaker c.writeln.result
    (λ last. three_parts old (codes "  " ++ (to ++ codes " was never told of ")) (number ++ []) (end from)
    (c.in_ok-write.ensures.bytes ∙ ap (λ (told : List ℕ). old ++ (codes "  " ++ (told ++ codes " was never told of "))) c.called-told.ensures)
    (c.in_ok-render.ensures ∙ ap₂ (λ (n : ℕ) (words : parts.WordsValue). string_bytes c.write.new.self ++ (parts.amount n words ++ [])) c.from.ensures c.endpoint_words.ensures)
    (last ∙ ap (λ (told : List ℕ). string_bytes c.render.new.text ++ end told) c.called-from.ensures)
    ∙ ap (λ text. old ++ text) (parts_joined (codes "  ") to (codes " was never told of ") number [] (end from))
    ∙ ap (λ (none : Bool). old ++ (if none then [] else codes "  " ++ (to ++ (codes " was never told of " ++ (number ++ end from))))) (sym (ne_eqb one.unnamed 0 c.if-one-eq0.false)))
    c.writeln.ensures.bytes
