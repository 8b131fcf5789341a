use Rattle.std.proofs.Common.{◌≡◌, ◌∙◌, Ok, Some, subst, sym}
use Rattle.std.specs.Prelude.{MatchResult, Result}
use Rattle.rtps_capture.specs.declared.captures.Captures.{Captures}
use Rattle.rtps_report.specs.Recording as recording
use Rattle.rtps_tool.specs.Outcomes as outcomes
use Rattle.rtps_tool.specs.Runs as runs
use Rattle.rtps_tool.specs.declared.faults.RecFault.{RecFault}
use Rattle.rtps_tool.specs.declared.faults.RunFault.{RunFault}
use Rattle.rtps_tool.proofs.BlocksLemmas.{front_and_rest, front_begins, slice_fails, slice_reads}
use Rattle.rtps_tool.proofs.UnfinishedLemmas.{begins_capture-short, recording_in-text, recording_of-within}
use Rattle.rtps_tool.proofs.form.either.read_recording_within.Goals as goal

pub returns-then-input-lt-FORM : goal.returns-then-input-lt-FORM
returns-then-input-lt-FORM c =
    let input = c.args.input.now in
    let same =
    recording_of-within c.args.limits Captures.Classic input c.if-input-limits.false ∙ recording_in-text Captures.Classic c.args.limits.datagrams input (begins_capture-short Captures.Classic input c.if-input-lt-FORM.true) in
    subst (λ (is : Result recording.RecordingValue RecFault). MatchResult c.read_text.result (λ recording. is ≡ Ok recording) (outcomes.IsFaultOf is)) (sym same) c.read_text.ensures

pub read_capture-requires-clause-form : goal.read_capture-requires-clause-form
read_capture-requires-clause-form c = front_begins Captures.Classic c.args.input.now c.if-input-lt-FORM.false (sym c.begins_capture.ensures ∙ c.if-not-begins_capture.false)

pub returns-in-Ok : goal.returns-in-Ok
returns-in-Ok c =
    let input = c.args.input.now in
    slice_reads c.args.limits Captures.Classic input _ c.in-Ok.recording (c.in-Ok.ensures (Some input) (front_and_rest input))

pub returns-in-Err-Recording : goal.returns-in-Err-Recording
returns-in-Err-Recording c =
    let input = c.args.input.now in
    let left = Some c.read_capture.new.input.now in
    slice_fails c.args.limits Captures.Classic input left c.in-Err-Recording.fault c.if-input-limits.false
    (subst (λ (fault : RunFault). runs.FailsReading c.args.limits Captures.Classic (Some input) left fault) c.in-Err-Recording.field-0-is (c.in-Err-Recording.ensures (Some input) (front_and_rest input)))
