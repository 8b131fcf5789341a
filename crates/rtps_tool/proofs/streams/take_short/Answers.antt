use Rattle.std.proofs.Common.{subst, sym, arith}
use Rattle.std.specs.Prelude.{Result}
use Rattle.std.proofs.lemmas.Result.{err_from_is_err_and}
use Rattle.rtps_report.specs.Recording as recording
use Rattle.rtps_tool.specs.Outcomes as outcomes
use Rattle.rtps_tool.specs.declared.faults.RecFault.{RecFault}
use Rattle.rtps_tool.proofs.ReadingLemmas.{FailsReading-text, run_fault_is_read}
use Rattle.rtps_tool.proofs.RecordingLemmas.{IsFaultOf-without_frames}
use Rattle.rtps_tool.proofs.UnfinishedLemmas.{begins_capture-short, recording_of-past, recording_of-text}
use Rattle.rtps_tool.proofs.streams.take_short.Goals as goal

pub returns-then-size-terms-clause-told : goal.returns-then-size-terms-clause-told
returns-then-size-terms-clause-told g c = λ before now first taken end told.
    let limits = c.args.terms.limits in
    let captures = c.args.terms.captures in
    let octets = c.args.octets.now in
    FailsReading-text limits captures before now octets RecFault.TooMany record { taken = taken; whole = λ few. end } (recording_of-past limits captures octets (omega arith))

pub returns-in_err-take_lines-clause-told : goal.returns-in_err-take_lines-clause-told
returns-in_err-take_lines-clause-told g c = λ before now first taken end told.
    let p = err_from_is_err_and c.from_residual.result c.from_residual.ensures.1 in
    let limits = c.args.terms.limits in
    let captures = c.args.terms.captures in
    let octets = c.args.octets.now in
    let fault = c.in_err-take_lines.field-0.0 in
    let is = recording_of-text limits captures octets (omega arith) (begins_capture-short captures octets c.requires) in
    rw (p.1, p.2) (FailsReading-text limits captures before now octets fault record { taken = taken; whole = λ few. end }
    (subst (λ (all : Result recording.RecordingValue RecFault). outcomes.IsFaultOf all fault) (sym is) (IsFaultOf-without_frames _ fault (c.in_err-take_lines.ensures first told))))

pub returns-clause-told : goal.returns-clause-told
returns-clause-told g c = λ before now first taken end told.
    let all = c.in_ok-take_lines.ensures first told in
    let octets = c.args.octets.now in
    record {
      text = octets;
      datagrams = all.0;
      took = all.2;
      taken = taken;
      plain = begins_capture-short c.args.terms.captures octets c.requires;
      at_end = end;
      size = omega arith;
      within = omega arith;
      told = all.1;
    }

pub returns-in_err-take_lines-clause-fault : goal.returns-in_err-take_lines-clause-fault
returns-in_err-take_lines-clause-fault g c =
    let p = err_from_is_err_and c.from_residual.result c.from_residual.ensures.1 in
    rw (p.1, p.2) (run_fault_is_read c.in_err-take_lines.field-0.0)
