use Rattle.std.proofs.Common.{◌∙◌, ap}
use Rattle.std.proofs.lemmas.Result.{err_from_is_err_and}
use Rattle.rtps_tool.specs.Collected as collected_spec
use Rattle.rtps_tool.specs.RecordingCapture as recording_capture
use Rattle.rtps_tool.proofs.BlocksLemmas.{whole_reads}
use Rattle.rtps_tool.proofs.form.capture_blocks.read_capture.Goals as goal

pub recording-requires : goal.recording-requires
recording-requires g c = c.in_ok-whole.whole.few

pub returns-in_err-whole : goal.returns-in_err-whole
returns-in_err-whole g c = λ before taken.
    let p = err_from_is_err_and c.from_residual.result c.from_residual.ensures.1 in
    rw (p.1, p.2) (c.in_err-whole.ensures before taken)

pub returns : goal.returns
returns g c = λ before taken.
    let all = c.in_ok-whole.ensures before taken in
    let now = g.R.Read.remaining c.take_capture.new.input in
    whole_reads c.course_is_told.ensures c.args.limits c.args.captures before now all.text all.datagrams c.in_ok-whole.whole.summary c.in_ok-recording.field-0
    all.began all.at_end all.within all.told
    (c.in_ok-recording.ensures
    ∙ ap (λ (value : collected_spec.CollectedValue). recording_capture.recording_collected c.args.captures value c.in_ok-whole.whole.summary) (all.took c.new-collected.result (λ is. is) c.new-collected.ensures))
