use Rattle.std.proofs.Common.{◌++◌, ◌∷◌, ◌∙◌, List, ℕ, ap, codes, string_bytes}
use Rattle.std.proofs.lemmas.Result.{on_ok_weaker}
use Rattle.rtps_report.specs.Ends as ends
use Rattle.rtps_report.specs.Talk as talk
use Rattle.rtps_lines.specs.EndText as end_text
use Rattle.rtps_lines.specs.Lines as lines
use Rattle.rtps_text.proofs.text.why_text.push_pair.Goals as goal

pub returns : goal.returns
returns c =
    let old = string_bytes c.args.text.now in
    let row = c.args.row.now in
    let talk = talk.talk_value c.args.talk.now in
    let line : ends.EndValue → ends.EndValue → List ℕ = λ writer reader.
    old ++ (codes "pair " ++ (end_text.paired_text row.pair.writer writer ++ (codes " " ++ (end_text.paired_text row.pair.reader reader ++ (codes " " ++ (lines.verdict_text row.evidence.verdict ++ codes "\n")))))) in
    on_ok_weaker c.writeln.result
    (λ last. last ∙ ap (λ (writer : ends.EndValue). line writer (ends.end_value c.end-2.result)) c.end.ensures ∙ ap (line (talk.ends row.pair.writer)) c.end-2.ensures)
    c.writeln.ensures.bytes
