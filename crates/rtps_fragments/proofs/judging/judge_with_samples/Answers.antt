use Rattle.std.proofs.lemmas.Bool.Decides.{nat_tests}
use Rattle.std.proofs.Common.{arith, subst}
use Rattle.std.specs.Prelude.{IfOk, Result}
use Rattle.rtps_audit.specs.Delivered as delivered
use Rattle.rtps_audit.specs.Speech as speech
use Rattle.rtps_audit.specs.declared.verdict.Verdict.{Verdict}
use Rattle.rtps_ids.specs.declared.memory.Memory.{Memory}
use Rattle.rtps_fragments.specs.Hearing as hearing
use Rattle.rtps_fragments.specs.RecordedSamples as recorded_samples
use Rattle.rtps_fragments.proofs.judging.judge_with_samples.Goals as goal

weaker : (result : Result Verdict Memory) (P Q : Verdict → Type 0) → ((verdict : Verdict) → P verdict → Q verdict) → IfOk result P → IfOk result Q
weaker result P Q h h2 = grind (arith, nat_tests)

pub returns : goal.returns
returns c = λ recording is.
    let acts = (recorded_samples.intake_with recording).acts in
    weaker c.judge_from.result _ _ (λ verdict exact. (c.recorded_verdict_is_of_runs.ensures c.args.from c.args.pair.writer c.args.pair.reader recording verdict).1 exact.verdict)
    (subst (λ from. IfOk c.judge_from.result (delivered.IsExactVerdictFrom from (speech.speech_by c.args.pair.writer c.args.pair.reader (hearing.heard_by c.args.pair.reader acts)))) c.of.ensures
    (c.judge_from.ensures (hearing.heard_by c.args.pair.reader acts) (c.in_ok-said.ensures acts (c.until.ensures (recorded_samples.intake_with recording) is))))
