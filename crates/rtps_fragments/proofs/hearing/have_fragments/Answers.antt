use Rattle.std.proofs.Common.{◌∙◌, map, sym}
use Rattle.rtps_audit.specs.Placed as placed_spec
use Rattle.rtps_audit.proofs.Offered.{mapped_contains}
use Rattle.rtps_fragments.specs.Hearing as hearing_spec
use Rattle.rtps_fragments.proofs.Lists.{any_from}
use Rattle.rtps_fragments.proofs.hearing.have_fragments.Goals as goal

pub returns-then-sends_fragments : goal.returns-then-sends_fragments
returns-then-sends_fragments c =
    let acts = c.args.acts.now in
    let here = c.placed-item.result in
    let sends = λ (at : placed_spec.PlacedValue). hearing_spec.sends_fragments at.act.body in
    sym (any_from sends (map placed_spec.placed_value acts) (placed_spec.placed_value here) (mapped_contains placed_spec.placed_value acts here (c.loop-placed.placed-index, c.loop-placed-test.true, sym c.placed-item.is)) (sym c.sends_fragments.ensures ∙ c.if-sends_fragments.true))
