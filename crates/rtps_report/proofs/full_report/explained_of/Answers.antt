use Rattle.std.proofs.Common.{◌≡◌, ◌∙◌, All, List, ap, length, map, subst, sym, true}
use Rattle.rtps_audit.specs.Intake as intake_spec
use Rattle.rtps_audit.specs.Report as report_spec
use Rattle.rtps_audit.specs.declared.report.Row.{Row}
use Rattle.rtps_discovery.specs.Directory as directory_spec
use Rattle.rtps_discovery.specs.Matching as matching
use Rattle.rtps_discovery.specs.declared.matching.Pair.{Pair}
use Rattle.rtps_evidence.specs.Explanation as explanation
use Rattle.rtps_evidence.specs.Kinds as kinds
use Rattle.rtps_evidence.specs.declared.exchange.Extent.{Extent}
use Rattle.rtps_report.specs.Asked as asked
use Rattle.rtps_report.specs.Talk as talk
use Rattle.rtps_report.proofs.full_report.explained_of.Goals as goal

pub returns : goal.returns
returns g c = λ intake beside traffic are kept.
    let report = (c.in_ok-matched.ensures intake are.index).report in
    let acts = intake_spec.acts_together intake.announcing in
    let own = c.args.sides.now.index.now.directory in
    let directory = c.directory-directory.result.now in
    let is_map = c.directory-directory.ensures intake are.index in
    let here : own ≡ directory = c.one_map.ensures.unique acts own directory are.index.directory is_map in
    let same : report.directory ≡ directory = c.one_map.ensures.unique acts report.directory directory report.is_map is_map in
    let pairs = ap (map (λ (row : Row). row.pair)) c.deref.ensures.value ∙ report.pairs ∙ ap (λ (of : directory_spec.DirectoryValue). matching.reliable_pairs (matching.matches_among (directory_spec.settled_in of.endpoints))) same in
    let judged = subst (λ (extent : Extent). All (report_spec.IsJudgedFrom extent.from intake.acts) c.deref-3.result.now) (sym c.extent.ensures)
    (subst (All (report_spec.IsJudgedFrom c.args.asked.now.from intake.acts)) (sym c.deref-3.ensures.value) report.judged) in
    record {
      directory = directory;
      is_map = is_map;
      pairs = c.in_ok-pairs.pairs.items;
      are_pairs = c.in_ok-pairs.ensures intake traffic pairs (subst (λ (of : directory_spec.DirectoryValue). talk.IsKeptOf (asked.asked_value c.args.asked.now) intake traffic of.endpoints c.args.talk.now) here kept);
      rows = subst (λ (those : List Pair). explanation.AreExplained true c.args.asked.now.from beside intake those c.in_ok-found.found.rows.items (map kinds.lost_value c.in_ok-found.found.lost.items)) c.deref-2.ensures.value
          (subst (λ (extent : Extent). explanation.AreExplained extent.in_spans extent.from beside intake c.deref-2.result.now c.in_ok-found.found.rows.items (map kinds.lost_value c.in_ok-found.found.lost.items)) c.extent.ensures
          (c.in_ok-found.ensures intake beside are judged));
      counts = report.counts ∙ ap (λ (of : directory_spec.DirectoryValue). report_spec.counts_of intake (length (directory_spec.unsettled_in of.endpoints))) same;
    }
