use Rattle.std.proofs.Common.{◌≡◌, ◌++◌, flat_map, take}
use Rattle.rtps_audit.specs.Index as index
use Rattle.rtps_audit.specs.Intake as intake
use Rattle.rtps_page.proofs.Written.{answers_json, json_tokens, placed_in}
use Rattle.rtps_page.proofs.chart_answers.push_all_answers.Given as goal

abbrev pub invariant-loop-pair : goal.invariant-loop-pair
invariant-loop-pair l = ((intake : intake.Intake) → index.IsIndexBy intake l.index → l.writer.tokens ≡ l.initial.writer.tokens ++ flat_map (λ pair. json_tokens (answers_json (placed_in intake.acts) pair)) (take l.pair-index l.pairs))
    × (l.writer.before ≡ l.initial.writer.before)
