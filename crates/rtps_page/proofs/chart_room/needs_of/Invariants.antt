use Rattle.std.proofs.Common.{◌≡◌, length, map, take, IfSome}
use Rattle.rtps_evidence.specs.Explanation as explanation
use Rattle.rtps_audit.specs.Intake as intake
use Rattle.rtps_audit.specs.Index as index
use Rattle.rtps_page.specs.ChartRoom as chart_room
use Rattle.rtps_page.proofs.Written.{entries_by, placed_in}
use Rattle.rtps_page.proofs.chart_room.needs_of.Given as goal

abbrev pub invariant-loop-row : goal.invariant-loop-row
invariant-loop-row l = (intake : intake.Intake) → index.IsIndexBy intake l.fn.said.index.now → record {
  needs : l.needs.items ≡ map (λ row. chart_room.need_of l.fn.tail (placed_in intake.acts) l.fn.said.pairs.now (explanation.explanation_value row)) (take l.row-index l.rows);
  known : IfSome l.before (λ known. known.entries ≡ length (entries_by l.fn.said.pairs.now known.writer (placed_in intake.acts)));
}
