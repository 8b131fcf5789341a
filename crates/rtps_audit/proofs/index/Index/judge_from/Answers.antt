use Rattle.std.proofs.Common.{subst}
use Rattle.std.specs.Prelude.{IfOk}
use Rattle.rtps_audit.specs.Delivered as delivered
use Rattle.rtps_audit.specs.Speech as speech
use Rattle.rtps_audit.proofs.index.Index.judge_from.Goals as goal

pub returns : goal.returns
returns c = λ intake is. subst (λ from. IfOk c.judge_until.result (delivered.IsExactVerdictFrom from (speech.speech_by c.args.pair.writer c.args.pair.reader intake.acts))) c.of.ensures (c.judge_until.ensures intake is)
