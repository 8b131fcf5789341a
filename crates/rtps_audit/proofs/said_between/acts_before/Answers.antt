use Rattle.std.proofs.Common.{◌∙◌, ap, nat_lt, sym}
use Rattle.std.proofs.lemmas.List.{get_or_default}
use Rattle.rtps_audit.specs.declared.placed.Placed.{Placed}
use Rattle.rtps_audit.proofs.SaidLemmas.{not_before, one_kept}
use Rattle.rtps_audit.proofs.said_between.acts_before.Goals as goal

pub loop-place-preserved : goal.loop-place-preserved
loop-place-preserved c =
    one_kept (λ (at : Placed). nat_lt at.datagram c.args.datagram) c.args.acts.now c.loop-place.place c.index-acts-place.result c.loop-place-test.true
    (ap (λ (at : Placed). nat_lt at.datagram c.args.datagram) (sym c.index-acts-place.is) ∙ sym c.is_act_before.ensures ∙ c.if-not-is_act_before.false) c.loop-place.invariant

pub returns-then-not-is_act_before-clause-next : goal.returns-then-not-is_act_before-clause-next
returns-then-not-is_act_before-clause-next c = λ d lt.
    let other = get_or_default c.args.acts.now c.loop-place.place d c.index-acts-place.result lt in
    not_before _ c.args.datagram (ap (λ (at : Placed). nat_lt at.datagram c.args.datagram) (other ∙ sym c.index-acts-place.is) ∙ sym c.is_act_before.ensures ∙ c.if-not-is_act_before.true)
