use Rattle.std.proofs.Common.{◌∙◌, ◌+◌, ℕ, List, ap, ap₂, arith, map, sym}
use Rattle.rtps_evidence.specs.Explanation as explanation
use Rattle.rtps_report.specs.LateRows as late_rows
use Rattle.rtps_report.specs.Talk as talk
use Rattle.rtps_report.proofs.NotToldLemmas.{bit_small}
use Rattle.rtps_report.proofs.LateLemmas.{counted_row}
use Rattle.rtps_report.proofs.late_row.count_lacking_before.Goals as goal

pub loop-row-preserved : goal.loop-row-preserved
loop-row-preserved c =
    let more = counted_row explanation.explanation_value (late_rows.lacks_before (talk.talk_value c.args.talk.now) c.args.from) c.args.rows.now c.loop-row.row-index _ c.lacks_before.result c.loop-row-test.true (sym c.lacks_before.ensures) in (
      ap₂ (λ (a b : ℕ). a + b) c.loop-row.invariant.0 c.from-count.ensures ∙ more,
      omega (arith, c.loop-row.invariant.1, c.from-count.ensures, bit_small c.lacks_before.result),
    )
