use Rattle.std.proofs.Common.{ℕ, ◌≡◌, ◌∙◌, subst, sym}
use Rattle.rtps_audit.specs.Delivered as delivered
use Rattle.rtps_audit.specs.Delivery as delivery
use Rattle.rtps_audit.specs.RunVerdict as run_verdict
use Rattle.rtps_audit.specs.declared.verdict.Verdict.{Verdict}
use Rattle.rtps_fragments.specs.Hearing as hearing
use Rattle.rtps_fragments.proofs.sample_report.row_heard.Goals as goal

pub returns-then-not-sends-clause-judged : goal.returns-then-not-sends-clause-judged
returns-then-not-sends-clause-judged c = λ intake is judged.
    (c.verdicts_stay_without_fragments.ensures c.args.from c.args.row.pair.writer c.args.row.pair.reader intake.acts c.args.row.verdict (sym (c.requires intake is) ∙ c.if-not-sends.true)).1 judged

-- a verdict from one number is one from an equal number
verdict_from : (one other : ℕ) (said : delivery.Speech) (verdict : Verdict) → one ≡ other → delivered.IsExactVerdictFrom one said verdict → run_verdict.IsVerdictFrom other said verdict
verdict_from one other said verdict same exact = (subst (λ from. delivered.IsExactVerdictFrom from said verdict) same exact).verdict

pub returns-clause-judged : goal.returns-clause-judged
returns-clause-judged c = λ intake is judged.
    verdict_from _ _ _ _ c.of.ensures (c.in_ok-verdict.ensures (hearing.heard_by c.args.row.pair.reader intake.acts) (c.in_ok-said.ensures intake.acts (c.until.ensures intake is)))
