use Rattle.std.proofs.Common.{◌∙◌, ◌++◌, ap, append_assoc, arith, map, subst, sym, take}
use Rattle.std.proofs.lemmas.List.{take_all}
use Rattle.rtps_receiver.specs.Values as values
use Rattle.rtps_audit.specs.Placed as placed_spec
use Rattle.rtps_audit.proofs.Offered.{placed_more}
use Rattle.rtps_passes.specs.Judging as judging
use Rattle.rtps_passes.proofs.judging.Judging.hear_all.Goals as goal

pub loop-act-preserved : goal.loop-act-preserved
loop-act-preserved c =
    let acts = c.args.acts.now in
    let k = c.loop-act.act-index in
    record {
      datagrams = c.in_ok-hear.ensures.datagrams ∙ c.loop-act.invariant.datagrams;
      taken = λ from datagram pairs asked heard known.
          let so_far = placed_spec.placed_at datagram (map values.spoken_value (take k acts)) in
          subst (λ l. judging.HaveTakenIn from datagram pairs asked l c.hear.new.self.writers.items) (append_assoc heard so_far _ ∙ ap (λ l. heard ++ l) (sym (placed_more datagram acts k c.act-item.result c.loop-act-test.true c.act-item.is)))
          (c.in_ok-hear.ensures.taken from datagram pairs asked (heard ++ so_far) (c.loop-act.invariant.taken from datagram pairs asked heard known));
    }

pub returns-clause-taken : goal.returns-clause-taken
returns-clause-taken c = λ from datagram pairs asked heard known.
    subst (λ l. judging.HaveTakenIn from datagram pairs asked (heard ++ placed_spec.placed_at datagram (map values.spoken_value l)) c.loop-act.self.writers.items)
    (take_all c.loop-act.act-index c.args.acts.now (omega (arith, c.loop-act-test.false))) (c.loop-act.invariant.taken from datagram pairs asked heard known)
