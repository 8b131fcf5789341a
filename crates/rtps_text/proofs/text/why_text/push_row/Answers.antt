use Rattle.std.proofs.Common.{string_bytes}
use Rattle.std.proofs.lemmas.Result.{on_ok_weaker}
use Rattle.rtps_evidence.specs.Explanation as explanation
use Rattle.rtps_lines.specs.Lines as lines
use Rattle.rtps_text.specs.WhyText as why_text
use Rattle.rtps_lines.proofs.Offered.{six_parts}
use Rattle.rtps_text.proofs.text.why_text.push_row.Goals as goal

pub returns : goal.returns
returns c =
    let row = explanation.explanation_value c.args.row.now in
    let evidence = row.evidence in
    let times = c.args.times.now in
    on_ok_weaker c.push_rest.result
    (six_parts (string_bytes c.args.text.now) (why_text.names_line row.topic row.type_name) (why_text.span_line times evidence.in_span) (lines.announced_line times evidence.announcement)
    (lines.acknowledged_line times evidence.acknowledgement) (why_text.amounts_line evidence.payloads evidence.gone evidence.untold) (why_text.rest_lines times evidence)
    c.in_ok-writeln.ensures.bytes c.in_ok-push_span.ensures c.in_ok-write.ensures.bytes c.in_ok-write-2.ensures.bytes c.in_ok-writeln-2.ensures.bytes)
    c.push_rest.ensures
