use Rattle.std.proofs.Common.{◌∙◌, Ok, ap, sym}
use Rattle.std.proofs.lemmas.Result.{err_from_is_err_and}
use Rattle.rtps_tool.specs.RecordingText as recording_text
use Rattle.rtps_tool.proofs.RecordingLemmas.{IsFaultOf-without_frames}
use Rattle.rtps_tool.proofs.UnfinishedLemmas.{octets_of-untimed}
use Rattle.rtps_tool.proofs.form.hex_lines.read_text.Goals as goal

pub returns-in_err-take_lines : goal.returns-in_err-take_lines
unfolding recording_text.recording_of_text
returns-in_err-take_lines c =
    let p = err_from_is_err_and c.from_residual.result c.from_residual.ensures.1 in
    rw (p.1, p.2) (IsFaultOf-without_frames _ c.in_err-take_lines.field-0.0 (c.in_err-take_lines.ensures c.new-list.result (λ is. is)))

pub returns : goal.returns
unfolding recording_text.recording_of_text
returns c =
    let all = c.in_ok-take_lines.ensures c.new-list.result (λ is. is) in
    let same = all.2 c.new-list.ensures ∙ octets_of-untimed all.0 in
    rw c.of_text.ensures (ap recording_text.without_frames (all.1 ∙ ap Ok (sym same)))
