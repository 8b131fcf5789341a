use Rattle.std.proofs.Common.{◌++◌, ◌∙◌, List, ℕ, ap, codes, string_bytes}
use Rattle.std.proofs.lemmas.Result.{on_ok_weaker}
use Rattle.rtps_lines.specs.EventText as event_text
use Rattle.rtps_lines.proofs.Offered.{three_parts}
use Rattle.rtps_parts.specs.RosNames as ros_names
use Rattle.rtps_report.specs.Ends as ends
use Rattle.rtps_report.specs.Talk as talk
use Rattle.rtps_check.specs.TalkText as talk_text
use Rattle.rtps_check.proofs.DiscoveryLemmas.{parts_joined}
use Rattle.rtps_check.proofs.EndLemmas.{end_is}
use Rattle.rtps_check.proofs.not_told_block.push_end.Goals as goal

pub returns : goal.returns
returns c =
    let talk = talk.talk_value c.args.by.1.now in
    let end = c.args.by.0 in
    let side = c.args.side.now in
    let old = string_bytes c.args.text.now in
    let who = event_text.called talk c.args.one.now.to.prefix in
    let topic = ros_names.topic_text end.topic.now in
    let name = talk_text.ended talk.ends end.guid in
    on_ok_weaker c.writeln.result
    (λ last. three_parts old (codes "  " ++ (who ++ side)) (topic ++ codes " ") (name ++ codes "\n")
    (c.in_ok-write.ensures.bytes ∙ ap (λ (told : List ℕ). old ++ (codes "  " ++ (told ++ side))) c.called-told.ensures) c.in_ok-render.ensures
    (last
    ∙ ap (λ (told : List ℕ). string_bytes c.render.new.text ++ (told ++ codes "\n"))
    (end_is talk.ends end.guid c.end_by.result.0 (ends.end_value c.end_by.result.1) c.end_by.ensures.guid c.end_by.ensures.end))
    ∙ ap (λ text. old ++ text) (parts_joined (codes "  ") who side topic (codes " ") (name ++ codes "\n")))
    c.writeln.ensures.bytes
