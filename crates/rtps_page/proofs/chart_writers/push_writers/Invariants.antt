use Rattle.std.proofs.Common.{◌≡◌, ◌++◌, flat_map, take}
use Rattle.rtps_audit.specs.Index as index
use Rattle.rtps_audit.specs.Intake as intake
use Rattle.rtps_page.proofs.Written.{json_tokens, placed_in, writer_json}
use Rattle.rtps_page.proofs.chart_writers.push_writers.Given as goal

abbrev pub invariant-loop-guid : goal.invariant-loop-guid
invariant-loop-guid l = ((intake : intake.Intake) → index.IsIndexBy intake l.fn.said.index.now → l.writer.tokens ≡ l.initial.writer.tokens ++ flat_map (λ guid. json_tokens (writer_json (placed_in intake.acts) l.fn.said.pairs.now guid)) (take l.guid-index l.guid-items))
    × (l.writer.before ≡ l.initial.writer.before)
