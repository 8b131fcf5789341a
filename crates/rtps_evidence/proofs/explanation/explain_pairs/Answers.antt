use Rattle.std.proofs.Common.{◌≡◌, ◌∙◌, ◌+◌, ◌-◌, ◌≤◌, ◌++◌, All, List, ap, arith, length, map, refl, subst, sym, take}
use Rattle.std.specs.List.{slice_range}
use Rattle.std.proofs.Math.Seq.{take-add}
use Rattle.std.proofs.lemmas.List.{take_all}
use Rattle.std.proofs.lemmas.List.Elements.{All-nil}
use Rattle.rtps_discovery.specs.declared.matching.Pair.{Pair}
use Rattle.rtps_evidence.specs.Evidence as evidence_spec
use Rattle.rtps_evidence.specs.Explanation as explanation
use Rattle.rtps_evidence.specs.Together as together
use Rattle.rtps_evidence.specs.declared.docket.Docket.{Docket}
use Rattle.rtps_evidence.proofs.TogetherLemmas.{no_rows}
use Rattle.rtps_evidence.proofs.explanation.explain_pairs.Goals as goal

pub writers-init : goal.writers-init
writers-init g c = record {
  within = omega arith;
  rows = λ intake beside sides known.
      let setting : together.Setting = record { spans = c.args.extent.in_spans; from = c.args.extent.from; beside = beside; intake = intake } in
      no_rows setting (record { rows = c.in_ok-rows.rows; lost = c.in_ok-lost.lost }) c.args.sides.now.index.now.directory sides.index.directory c.in_ok-rows.ensures.items c.in_ok-lost.ensures.items;
}

pub writers-preserved : goal.writers-preserved
writers-preserved g c =
    let pairs = c.args.pairs.now in
    let start = c.writers.start in
    let end = c.writer_end-end.result in
    let whole : start + (end - start) ≡ end = omega (arith, c.writer_end-end.ensures.onward) in
    let joined : take start pairs ++ slice_range pairs start end ≡ take end pairs = sym (take-add start (end - start) pairs) ∙ ap (λ n. take n pairs) whole in
    let pair_of = λ (docket : Docket). docket.judgement.pair in
    record {
      within = c.writer_end-end.ensures.within;
      rows = λ intake beside sides known.
          let setting : together.Setting = record { spans = c.args.extent.in_spans; from = c.args.extent.from; beside = beside; intake = intake } in
          let dockets = subst (All (together.IsDocket setting)) (sym c.deref.ensures.value) (c.in_ok-dockets.ensures.dockets setting sides refl refl (c.in_ok-readers.ensures intake sides.index) known) in
          let added = c.in_ok-add_dockets.ensures setting (take start pairs) sides dockets (c.writers.invariant.rows intake beside sides known) in
          subst (λ (l : List Pair). together.AreRows setting l c.add_dockets.new.self) (ap (λ l. take start pairs ++ l) (ap (map pair_of) c.deref.ensures.value ∙ c.in_ok-dockets.ensures.pairs) ∙ joined) added;
    }

pub returns : goal.returns
returns g c = λ intake beside sides known.
    let setting : together.Setting = record { spans = c.args.extent.in_spans; from = c.args.extent.from; beside = beside; intake = intake } in
    subst (λ (l : List Pair). together.AreRows setting l c.writers.explained) (take_all c.writers.start c.args.pairs.now (omega (arith, c.writers-test.false))) (c.writers.invariant.rows intake beside sides known)
