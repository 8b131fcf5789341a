use Rattle.std.proofs.Common.{map, subst}
use Rattle.std.specs.Prelude.{IfOk}
use Rattle.rtps_audit.specs.Delivered as delivered
use Rattle.rtps_audit.specs.Intake as intake
use Rattle.rtps_audit.specs.Speech as speech
use Rattle.rtps_audit.proofs.judging.judge_from.Goals as goal

pub returns : goal.returns
returns g c =
    let intake = intake.intake_of (map (λ datagram. datagram.now) c.args.recording.now) in
    subst (λ from. IfOk c.judge_said.result (delivered.IsExactVerdictFrom from (speech.speech_by c.args.pair.writer c.args.pair.reader intake.acts))) c.of.ensures (c.judge_said.ensures intake.acts (c.until-said.ensures intake c.in_ok-index.ensures))
