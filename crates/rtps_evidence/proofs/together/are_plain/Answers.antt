use Rattle.std.proofs.Common.{◌≡◌, ◌∙◌, All, List, ap, arith, subst, sym, take}
use Rattle.std.proofs.lemmas.List.{take_all}
use Rattle.std.proofs.lemmas.List.Elements.{All-more}
use Rattle.rtps_fragments.specs.Hearing as hearing
use Rattle.rtps_evidence.specs.Together as together
use Rattle.rtps_evidence.specs.declared.docket.Docket.{Docket}
use Rattle.rtps_evidence.proofs.together.are_plain.Goals as goal

pub loop-docket-preserved : goal.loop-docket-preserved
loop-docket-preserved c =
    let all = c.args.dockets.now in
    let i = c.loop-docket.docket-index in
    let docket = c.docket-item.result in
    let lt = c.loop-docket-test.true in
    let yes = c.if-not-is_plain.false in
    record {
      writer = All-more (λ (docket : Docket). docket.judgement.pair.writer ≡ c.args.writer) all i docket lt c.loop-docket.invariant.writer
          (subst (λ (docket : Docket). docket.judgement.pair.writer ≡ c.args.writer) c.docket-item.is (c.is_plain.ensures.writer yes));
      plain = λ setting are.
          let this : together.IsDocket setting docket = subst (together.IsDocket setting) (sym c.docket-item.is) (are i docket lt) in
          All-more (λ (docket : Docket). together.is_plain setting docket.judgement.pair.reader) all i docket lt (c.loop-docket.invariant.plain setting are)
          (subst (λ (docket : Docket). together.is_plain setting docket.judgement.pair.reader) c.docket-item.is (this.plain (c.is_plain.ensures.plain yes)));
    }

pub returns : goal.returns
returns c =
    let all = take_all c.loop-docket.docket-index c.args.dockets.now (omega (arith, c.loop-docket-test.false)) in
    record {
      sends = λ yes setting is. ap hearing.have_fragments (sym (c.acts_of.ensures setting.intake is)) ∙ sym c.have_fragments.ensures ∙ c.if-have_fragments.false;
      writer = λ yes. subst (All (λ (docket : Docket). docket.judgement.pair.writer ≡ c.args.writer)) all c.loop-docket.invariant.writer;
      plain = λ yes setting are. subst (All (λ (docket : Docket). together.is_plain setting docket.judgement.pair.reader)) all (c.loop-docket.invariant.plain setting are);
    }
