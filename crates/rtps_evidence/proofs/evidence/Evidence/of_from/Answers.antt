use Rattle.std.proofs.Common.{◌≡◌, ◌∙◌, ap, false, subst, sym}
use Rattle.std.proofs.lemmas.List.Elements.{All-nil}
use Rattle.rtps_audit.specs.Report as report
use Rattle.rtps_discovery.specs.declared.matching.Pair.{Pair}
use Rattle.rtps_evidence.specs.Evidence as evidence_spec
use Rattle.rtps_evidence.specs.OtherSide as other_side
use Rattle.rtps_evidence.specs.Times as times
use Rattle.rtps_evidence.specs.Together as together
use Rattle.rtps_evidence.specs.declared.judgement.Judgement.{Judgement}
use Rattle.rtps_evidence.proofs.TogetherLemmas.{docket_is}
use Rattle.rtps_evidence.proofs.evidence.Evidence.of_from.Goals as goal

pub returns : goal.returns
returns c = λ intake is.
    let judgement = c.of-judgement.result in
    let notes = c.none-readers.ensures intake in
    let docket = c.in_ok-docket.docket in
    let setting : together.Setting = record { spans = false; from = c.args.from; beside = other_side.alone; intake = intake } in
    let found = c.in_ok-found.ensures setting (record { index = is; other = tt; times = ap (λ (t : times.TimesValue). t.of_datagrams) c.none-times.ensures })
    (docket_is setting docket judgement c.args.pair c.in_ok-docket.ensures.judgement c.of-judgement.ensures.pair c.of-judgement.ensures.in_spans (c.of-judgement.ensures.extent intake is notes) (λ yes. c.of-judgement.ensures.plain yes intake notes)
    (c.of-judgement.ensures.known intake.acts (All-nil (report.IsJudgedFrom c.args.from intake.acts))) (c.in_ok-docket.ensures.there intake other_side.alone (record { index = is; other = tt; times = ap (λ (t : times.TimesValue). t.of_datagrams) c.none-times.ensures }))) in
    subst (λ (p : Pair). evidence_spec.IsEvidenceFrom c.args.from p intake c.in_ok-found.found.evidence) (ap (λ (j : Judgement). j.pair) c.in_ok-docket.ensures.judgement ∙ c.of-judgement.ensures.pair) found.evidence
