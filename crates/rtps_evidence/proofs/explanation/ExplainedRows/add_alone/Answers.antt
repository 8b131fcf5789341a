use Rattle.std.proofs.Common.{◌++◌, List, append-nil, arith, map, subst, sym, take}
use Rattle.std.proofs.lemmas.List.{take_all}
use Rattle.rtps_discovery.specs.declared.matching.Pair.{Pair}
use Rattle.rtps_evidence.specs.Together as together
use Rattle.rtps_evidence.specs.declared.docket.Docket.{Docket}
use Rattle.rtps_evidence.proofs.TogetherLemmas.{next_behind}
use Rattle.rtps_evidence.proofs.explanation.ExplainedRows.add_alone.Goals as goal

pub loop-docket-init : goal.loop-docket-init
loop-docket-init c = λ setting pairs sides dockets rows. subst (λ (l : List Pair). together.AreRows setting l c.args.self.now) (sym (append-nil pairs)) rows

pub loop-docket-preserved : goal.loop-docket-preserved
loop-docket-preserved c = λ setting pairs sides dockets rows.
    let all = c.args.dockets.now in
    let i = c.loop-docket.docket-index in
    let docket = c.docket-item.result in
    let lt = c.loop-docket-test.true in
    let pair_of = λ (docket : Docket). docket.judgement.pair in
    let is = subst (together.IsDocket setting) (sym c.docket-item.is) (dockets i docket lt) in
    subst (λ (l : List Pair). together.AreRows setting l c.add.new.self) (next_behind pair_of pairs all i docket lt c.docket-item.is)
    (c.in_ok-add.ensures setting (pairs ++ map pair_of (take i all)) (c.directory-directory.ensures setting.intake sides.index) (c.loop-docket.invariant setting pairs sides dockets rows) (c.in_ok-found.ensures setting sides is))

pub returns : goal.returns
returns c = λ setting pairs sides dockets rows.
    let all = take_all c.loop-docket.docket-index c.args.dockets.now (omega (arith, c.loop-docket-test.false)) in
    subst (λ (l : List Docket). together.AreRows setting (pairs ++ map (λ (docket : Docket). docket.judgement.pair) l) c.loop-docket.self) all (c.loop-docket.invariant setting pairs sides dockets rows)
