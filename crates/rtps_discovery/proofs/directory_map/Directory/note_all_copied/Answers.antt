use Rattle.std.proofs.Common.{◌++◌, ◌∷◌, [], ◌∙◌, ◌<◌, Err, Ok, Result, ap, append_assoc, arith, map, refl, subst, sym, take}
use Rattle.std.specs.Prelude.{OnErr}
use Rattle.std.proofs.lemmas.List.{append-nil, length-map, take-map, take_all}
use Rattle.rtps_receiver.specs.Values as values
use Rattle.rtps_receiver.specs.declared.spoken.Spoken.{Spoken}
use Rattle.rtps_discovery.specs.Directory as directory
use Rattle.rtps_discovery.specs.Notice as notice
use Rattle.rtps_discovery.proofs.Faults.{acts_more, faults_of, faults_more, one_fault}
use Rattle.rtps_discovery.proofs.directory_map.Directory.note_all_copied.Goals as goal

pub loop-act-init : goal.loop-act-init
loop-act-init c = record { map = λ before is. subst (λ l. directory.IsMapOf l c.args.self.now) (sym (append-nil before)) is; faults = refl; few = omega arith }

pub loop-act-preserved : goal.loop-act-preserved
loop-act-preserved c =
    let old = c.loop-act.invariant in
    let acts = c.args.acts.now in
    let i = c.loop-act.act-index in
    let done = map values.spoken_value (take i acts) in
    let more = acts_more acts i c.act-item.result c.loop-act-test.true ∙ ap (λ (a : Spoken). done ++ values.spoken_value a ∷ []) (sym c.act-item.is) in
    let same = c.fault_count-faults.ensures ∙ ap faults_of c.in_ok-noted.ensures.noted in
    record {
      map = λ before is. subst (λ l. directory.IsMapOf l c.note_copied.new.self) (append_assoc before done _ ∙ ap (λ l. before ++ l) (sym more)) (c.in_ok-noted.ensures.map (before ++ done) (old.map before is));
      faults = omega (arith, old.faults, same, ap notice.faults_in more, faults_more done (values.spoken_value c.act-item.result));
      few = omega (arith, old.few, same, one_fault (notice.answer_of (notice.announcement_of (values.spoken_value c.act-item.result))));
    }

pub returns-clause-map : goal.returns-clause-map
returns-clause-map c = λ before is. subst (λ l. directory.IsMapOf (before ++ map values.spoken_value l) c.loop-act.self) (take_all _ _ (omega arith)) (c.loop-act.invariant.map before is)

on_err : {T E P : Type 0} (r : Result T E) → P → OnErr r P
on_err (Ok x) p = tt
on_err (Err e) p = p

pub returns-in_err-noted-clause-err : goal.returns-in_err-noted-clause-err
returns-in_err-noted-clause-err c =
    let acts = c.args.acts.now in
    let i = c.loop-act.act-index in
    let same = c.in_err-noted.ensures.err in
    let some : directory.HasNotedSome (map values.spoken_value acts) c.args.self.now c.note_copied.new.self = (
      i,
      subst (λ n. i < n) (sym (length-map acts values.spoken_value)) c.loop-act-test.true,
      λ before is. subst (λ (d : directory.DirectoryValue). directory.IsMapOf (before ++ take i (map values.spoken_value acts)) d) (sym same)
          (subst (λ l. directory.IsMapOf (before ++ l) c.loop-act.self) (sym (take-map values.spoken_value i acts)) (c.loop-act.invariant.map before is)),
    ) in
    on_err c.from_residual.result some
