use Rattle.std.proofs.Common.{◌++◌, ◌∙◌, List, ℕ, ap, ap₂, codes, string_bytes}
use Rattle.std.proofs.lemmas.Result.{on_ok_weaker}
use Rattle.rtps_evidence.specs.declared.times.Seconds.{Seconds}
use Rattle.rtps_lines.specs.Lines as lines
use Rattle.rtps_report.specs.Ends as ends_spec
use Rattle.rtps_report.specs.Talk as talk
use Rattle.rtps_check.specs.TalkText as talk_text
use Rattle.rtps_check.proofs.EndLemmas.{end_is}
use Rattle.rtps_check.proofs.lives_block.push_lives.Goals as goal

pub returns : goal.returns
returns c =
    let ends = (talk.talk_value c.args.talk.now).ends in
    let guid = c.args.one.participant in
    let participant = c.end_by-participant in
    let line : List ℕ → Seconds → Seconds → List ℕ =
    λ who first other. string_bytes c.args.text.now
    ++ (codes "  participant " ++ (who ++ (codes ", announced by one number at " ++ (lines.seconds_text first ++ (codes " s and at " ++ (lines.seconds_text other ++ codes " s of its clock\n")))))) in
    on_ok_weaker c.writeln.result
    (λ told. told
    ∙ ap (λ who. line who c.sent_second.result c.sent_second-2.result)
    (end_is ends guid participant.result.0 (ends_spec.end_value participant.result.1) participant.ensures.guid participant.ensures.end)
    ∙ ap₂ (line (talk_text.ended ends guid)) c.sent_second.ensures c.sent_second-2.ensures)
    c.writeln.ensures.bytes
