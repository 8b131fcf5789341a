use Rattle.std.proofs.Common.{◌∙◌, subst, sym}
use Rattle.rtps_audit.specs.Said as said
use Rattle.rtps_evidence.specs.Evidence as evidence_spec
use Rattle.rtps_evidence.specs.Kinds as kinds
use Rattle.rtps_evidence.specs.OtherSide as other_side
use Rattle.rtps_evidence.specs.Spans as spans
use Rattle.rtps_evidence.proofs.evidence.Evidence.of_docket.Goals as goal

pub returns : goal.returns
returns c = λ setting sides docket.
    let acts = setting.intake.acts in
    let kept = c.args.docket.now in
    let pair = kept.judgement.pair in
    let span = kept.judgement.span in
    let found = c.in_ok-found.found in
    let recording = said.datagrams_until span.until acts in
    let heard = spans.heard_in span pair acts in
    let sent = c.until.ensures setting.intake sides.index in
    let there = subst (λ t. other_side.AreThere acts setting.beside.other pair kept.arrivals.way kept.arrivals.is_held t) (sym c.deref.ensures.value) docket.there in
    let shown = c.in_ok-found.ensures.shown recording (other_side.is_there acts setting.beside.other pair) sent docket.known there.numbers in
    let beside = c.in_ok-found.ensures.beside acts recording setting.beside sent docket.known there sides.times in
    record {
      evidence = record {
        span = span;
        extent = docket.extent;
        shown = shown;
        in_span = subst (λ b. evidence_spec.IsBeside b setting.beside span pair acts heard found.evidence.in_span) docket.in_spans beside.0;
      };
      lost = record {
        span = span;
        extent = docket.extent;
        losses = subst (λ b. kinds.IsLostIn b setting.beside span pair acts heard (kinds.lost_value found.lost)) docket.in_spans beside.1;
      };
    }
