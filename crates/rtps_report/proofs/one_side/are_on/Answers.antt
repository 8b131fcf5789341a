use Rattle.std.proofs.Common.{◌∙◌, sym}
use Rattle.rtps_discovery.specs.Endpoint as endpoint
use Rattle.rtps_report.specs.OneSides as one_sides
use Rattle.rtps_report.proofs.AnyLemmas.{all_at}
use Rattle.rtps_report.proofs.one_side.are_on.Goals as goal

pub returns-then-not-is_on : goal.returns-then-not-is_on
returns-then-not-is_on c =
    sym (all_at endpoint.endpoint_value (λ end. one_sides.is_side end.side c.args.side) c.args.endpoints.now c.loop-endpoint.endpoint-index _ c.loop-endpoint-test.true
    (sym c.is_on.ensures ∙ c.if-not-is_on.true))
