use Rattle.std.proofs.Common.{◌∙◌}
use Rattle.std.proofs.lemmas.Result.{err_from_is_err_and}
use Rattle.rtps_tool.proofs.ReadingLemmas.{ReadsRecording-text}
use Rattle.rtps_tool.proofs.UnfinishedLemmas.{octets_of-untimed}
use Rattle.rtps_tool.proofs.streams.read_text_input.Goals as goal

pub returns-in_err-take_text : goal.returns-in_err-take_text
returns-in_err-take_text g c = λ before plain taken.
    let p = err_from_is_err_and c.from_residual.result c.from_residual.ensures.1 in
    rw (p.1, p.2) (c.in_err-take_text.ensures.told before c.new-list.result plain taken (λ is. is))

pub returns : goal.returns
returns g c = λ before plain taken.
    let all = c.in_ok-take_text.ensures.told before c.new-list.result plain taken (λ is. is) in
    rw c.of_text.ensures (ReadsRecording-text _ _ _ _ _ _ _ all (all.took c.new-list.ensures ∙ octets_of-untimed all.datagrams))
