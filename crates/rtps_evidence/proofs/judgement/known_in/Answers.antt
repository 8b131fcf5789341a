use Rattle.std.proofs.Common.{◌≡◌, subst}
use Rattle.std.specs.Prelude.{IfSome}
use Rattle.rtps_discovery.specs.declared.matching.Pair.{Pair}
use Rattle.rtps_evidence.specs.Evidence as evidence
use Rattle.rtps_evidence.proofs.judgement.known_in.Goals as goal

pub returns-in-Some : goal.returns-in-Some
returns-in-Some c = λ acts known.
    subst (λ (p : Pair). IfSome c.verdict_in.result (evidence.IsVerdictIn c.args.span.now p acts)) c.in-Some.ensures.pair (c.verdict_in.ensures acts (c.in-Some.ensures.judged c.args.from acts known))
