use Rattle.std.proofs.Common.{◌++◌, ◌∙◌, List, Option, ap, codes, map, string_bytes}
use Rattle.std.proofs.lemmas.Result.{on_ok_weaker}
use Rattle.rtps_lines.specs.Lines as lines
use Rattle.rtps_lines.proofs.Offered.{four_parts}
use Rattle.rtps_policies.specs.declared.host.Address.{Address}
use Rattle.rtps_report.specs.NotTold as not_told
use Rattle.rtps_report.specs.Silences as silences
use Rattle.rtps_report.specs.Talk as talk
use Rattle.rtps_report.specs.declared.not_told.TopicEnd.{TopicEnd}
use Rattle.rtps_check.specs.DiscoveryText as discovery_text
use Rattle.rtps_check.proofs.not_told_block.push_not_told.Goals as goal
use Rattle.rtps_lines.specs.declared.sentences.block.TheConstants as said

pub returns : goal.returns
returns c =
    let talk = talk.talk_value c.args.talk.now in
    let one = not_told.not_told_value c.args.one.now in
    let old = string_bytes c.args.text.now in
    let writer = said.NOT_TOLD_WRITER.now in
    let reader = said.NOT_TOLD_READER.now in
    let advice = lines.not_told_advice (silences.address_behind talk one.from one.to) in
    on_ok_weaker c.writeln.result
    (λ last. four_parts old (discovery_text.end_lines talk one writer one.writers) (discovery_text.end_lines talk one reader one.readers) (discovery_text.unnamed_line talk one) (codes "  -> " ++ (advice ++ codes "\n"))
    (c.in_ok-push_ends.ensures ∙ ap (λ (ends : List TopicEnd). old ++ discovery_text.end_lines talk one writer (map not_told.topic_end_value ends)) c.deref.ensures.value)
    (c.in_ok-push_ends-2.ensures ∙ ap (λ (ends : List TopicEnd). string_bytes c.push_ends.new.text ++ discovery_text.end_lines talk one reader (map not_told.topic_end_value ends)) c.deref-2.ensures.value)
    c.in_ok-push_unnamed.ensures
    (last ∙ ap (λ (address : Option Address). string_bytes c.push_unnamed.new.text ++ (codes "  -> " ++ (lines.not_told_advice address ++ codes "\n"))) c.address_behind-address.ensures))
    c.writeln.ensures.bytes
