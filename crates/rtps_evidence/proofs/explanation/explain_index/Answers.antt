use Rattle.std.proofs.Common.{◌≡◌, ◌∙◌, All, List, ap, length, map, refl, subst, sym}
use Rattle.rtps_audit.specs.Report as report
use Rattle.rtps_audit.specs.declared.report.Row.{Row}
use Rattle.rtps_discovery.specs.declared.matching.Pair.{Pair}
use Rattle.rtps_evidence.specs.Explanation as explanation
use Rattle.rtps_evidence.specs.Kinds as kinds
use Rattle.rtps_evidence.proofs.explanation.explain_index.Goals as goal

pub returns : goal.returns
returns g c = λ intake beside are.
    let extent = c.args.extent in
    let reports = (c.in_ok-report.ensures intake are.index).report in
    let rows = c.in_ok-report.report.rows.items in
    let pairs : c.deref-2.result.now ≡ map (λ (row : Row). row.pair) rows = c.deref-2.ensures.value ∙ c.in_ok-pairs.ensures ∙ ap (map (λ (row : Row). row.pair)) c.deref.ensures.value in
    record {
      directory = reports.directory;
      is_map = reports.is_map;
      pairs = map (λ (row : Row). row.pair) rows;
      are_pairs = reports.pairs;
      rows = subst (λ (those : List Pair). explanation.AreExplained extent.in_spans extent.from beside intake those c.in_ok-found.found.rows.items (map kinds.lost_value c.in_ok-found.found.lost.items)) pairs
          (c.in_ok-found.ensures intake beside are (subst (All (report.IsJudgedFrom extent.from intake.acts)) (sym c.deref-3.ensures.value) reports.judged));
      counts = reports.counts;
    }
