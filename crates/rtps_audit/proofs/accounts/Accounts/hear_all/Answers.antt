use Rattle.std.proofs.Common.{◌∙◌, ◌++◌, ◌∷◌, [], ap, append_assoc, append-nil, arith, map, refl, subst, sym, take}
use Rattle.std.proofs.lemmas.List.{take_all}
use Rattle.rtps_audit.specs.Account as account
use Rattle.rtps_audit.specs.Placed as placed_spec
use Rattle.rtps_audit.specs.declared.placed.Placed.{Placed}
use Rattle.rtps_audit.proofs.PlacedActs.{map_next}
use Rattle.rtps_audit.proofs.accounts.Accounts.hear_all.Goals as goal

pub loop-placed-init : goal.loop-placed-init
loop-placed-init g c = record { counted = refl; stand = λ from since writer pairs placed asks of behind known. subst (λ l. account.AllStand g.C.Coverage.covered from writer pairs l asks c.args.self.now) (sym (append-nil placed)) known }

pub loop-placed-preserved : goal.loop-placed-preserved
loop-placed-preserved g c = record {
  counted = c.in_ok-hear.ensures.counted ∙ c.loop-placed.invariant.counted;
  stand = λ from since writer pairs placed asks of behind known.
      let covered = g.C.Coverage.covered in
      let acts = c.args.acts.now in
      let k = c.loop-placed.placed-index in
      let at = c.placed-item.result in
      let lt = c.loop-placed-test.true in
      let so_far = map placed_spec.placed_value (take k acts) in
      let is = subst (account.IsSince writer since) (sym c.placed-item.is) (of k at lt) in
      let next = map_next placed_spec.placed_value acts k at lt ∙ ap (λ (q : Placed). so_far ++ placed_spec.placed_value q ∷ []) (sym c.placed-item.is) in
      let old = c.loop-placed.invariant.stand from since writer pairs placed asks of behind known in
      let more = c.in_ok-hear.ensures.stand from (placed_spec.placed_value at).datagram writer pairs (placed ++ so_far) asks is.from (λ place d within. let early = behind place d within in let later = is.since in omega (arith, early, later)) old in
      subst (λ l. account.AllStand covered from writer pairs l asks c.hear.new.self) (append_assoc placed so_far (placed_spec.placed_value at ∷ []) ∙ ap (λ l. placed ++ l) (sym next)) more;
}

pub returns-clause-stand : goal.returns-clause-stand
returns-clause-stand g c = λ from since writer pairs placed asks of behind known.
    let all = take_all c.loop-placed.placed-index c.args.acts.now (omega (arith, c.loop-placed-test.false)) in
    subst (λ l. account.AllStand g.C.Coverage.covered from writer pairs (placed ++ map placed_spec.placed_value l) asks c.loop-placed.self) all (c.loop-placed.invariant.stand from since writer pairs placed asks of behind known)
