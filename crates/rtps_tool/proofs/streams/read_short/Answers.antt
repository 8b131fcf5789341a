use Rattle.std.proofs.Common.{◌∙◌, subst, sym}
use Rattle.std.specs.Prelude.{Result}
use Rattle.std.proofs.lemmas.Result.{err_from_is_err_and}
use Rattle.rtps_report.specs.Recording as recording
use Rattle.rtps_tool.specs.Outcomes as outcomes
use Rattle.rtps_tool.specs.declared.faults.RecFault.{RecFault}
use Rattle.rtps_tool.proofs.LimitsLemmas.{recording_of-short}
use Rattle.rtps_tool.proofs.ReadingLemmas.{FailsReading-text}
use Rattle.rtps_tool.proofs.streams.read_short.Goals as goal

pub returns-in_err-read_recording_within : goal.returns-in_err-read_recording_within
returns-in_err-read_recording_within c = λ captures old new taken end.
    let p = err_from_is_err_and c.from_residual.result c.from_residual.ensures.1 in
    let octets = c.args.octets.now in
    let fault = c.in_err-read_recording_within.field-0.0 in
    rw (p.1, p.2) (FailsReading-text c.args.limits captures old new octets fault record { taken = taken; whole = λ few. end }
    (subst (λ (all : Result recording.RecordingValue RecFault). outcomes.IsFaultOf all fault) (sym (recording_of-short c.args.limits captures octets c.requires)) c.in_err-read_recording_within.ensures))

pub returns : goal.returns
returns c = λ captures old new taken end. record {
  text = c.args.octets.now;
  taken = taken;
  whole = end;
  is_read = recording_of-short c.args.limits captures c.args.octets.now c.requires ∙ c.in_ok-read_recording_within.ensures;
}
