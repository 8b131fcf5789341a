use Rattle.std.proofs.Common.{◌≡◌, ◌∙◌, ◌+◌, ◌-◌, ◌++◌, All, ap, arith, get_or, map, refl, subst, sym, take}
use Rattle.std.specs.List.{slice_range}
use Rattle.std.proofs.Math.Seq.{take-add}
use Rattle.std.proofs.lemmas.List.{get_or_default, map-append, take_all}
use Rattle.std.proofs.lemmas.List.Elements.{All-append, All-nil}
use Rattle.rtps_discovery.specs.declared.matching.Pair.{Pair}
use Rattle.rtps_audit.specs.Account as account
use Rattle.rtps_audit.specs.Report as report
use Rattle.rtps_audit.specs.declared.report.Row.{Row}
use Rattle.rtps_audit.proofs.PlacedLemmas.{all_between, all_with_first, no_pair}
use Rattle.rtps_audit.proofs.report.rows_of.Goals as goal

pub writers-init : goal.writers-init
writers-init g c = λ intake is. record {
  pairs_are = ap (map (λ row. row.pair)) c.new-rows.ensures.items;
  judged = subst (All (report.IsJudgedFrom c.args.from intake.acts)) (sym c.new-rows.ensures.items) (All-nil (report.IsJudgedFrom c.args.from intake.acts));
}

pub rows_of_writer-requires : goal.rows_of_writer-requires
rows_of_writer-requires g c =
    let pairs = c.args.pairs.now in
    let start = c.writers.start in
    let first = get_or pairs start no_pair in
    let of_writer = λ (pair : Pair). pair.writer ≡ first.writer in
    all_between of_writer pairs start c.writer_end-end.result
    (all_with_first of_writer pairs start c.writer_end-end.result first (get_or_default pairs start no_pair first c.writers-test.true) c.writers-test.true refl c.writer_end-end.ensures.of_writer)

pub writers-preserved : goal.writers-preserved
writers-preserved g c = λ intake is.
    let pairs = c.args.pairs.now in
    let start = c.writers.start in
    let end = c.writer_end-end.result in
    let rows = c.writers.rows.items in
    let old = c.writers.invariant intake is in
    let more = c.in_ok-more.ensures intake is in
    let pair_of = λ (row : Row). row.pair in
    let added = c.in_ok-extend_from_slice.ensures.items ∙ ap (λ l. rows ++ l) c.deref.ensures.value in
    let whole : start + (end - start) ≡ end = omega (arith, c.writer_end-end.ensures.onward) in
    let joined : take start pairs ++ slice_range pairs start end ≡ take end pairs = sym (take-add start (end - start) pairs) ∙ ap (λ n. take n pairs) whole in
    record {
      pairs_are = ap (map pair_of) added ∙ map-append pair_of rows _ ∙ ap (λ l. l ++ map pair_of c.in_ok-more.more.items) old.pairs_are ∙ ap (λ l. take start pairs ++ l) more.pairs_are ∙ joined;
      judged = subst (All (report.IsJudgedFrom c.args.from intake.acts)) (sym added) (All-append (report.IsJudgedFrom c.args.from intake.acts) rows _ old.judged more.judged);
    }

pub returns : goal.returns
returns g c = λ intake is.
    subst (λ l. account.AreRowsOf c.args.from intake.acts l c.writers.rows.items) (take_all c.writers.start c.args.pairs.now (omega (arith, c.writers-test.false))) (c.writers.invariant intake is)
