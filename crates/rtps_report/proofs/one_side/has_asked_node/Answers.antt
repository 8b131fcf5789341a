use Rattle.std.proofs.Common.{◌∙◌, sym}
use Rattle.rtps_discovery.specs.Endpoint as endpoint
use Rattle.rtps_report.specs.Asked as asked
use Rattle.rtps_report.specs.Rows as rows
use Rattle.rtps_report.specs.Talk as talk
use Rattle.rtps_report.proofs.AnyLemmas.{any_at, none_up_to}
use Rattle.rtps_report.proofs.one_side.has_asked_node.Goals as goal

pub returns-then-is_node_asked : goal.returns-then-is_node_asked
returns-then-is_node_asked c =
    sym (any_at endpoint.endpoint_value (λ end. rows.has_node (asked.asked_value c.args.asked.now).nodes ((talk.talk_value c.args.talk.now).node end.guid)) c.args.endpoints.now c.loop-endpoint.endpoint-index _
    c.loop-endpoint-test.true (sym c.is_node_asked.ensures ∙ c.if-is_node_asked.true))

pub loop-endpoint-preserved : goal.loop-endpoint-preserved
loop-endpoint-preserved c =
    none_up_to endpoint.endpoint_value (λ end. rows.has_node (asked.asked_value c.args.asked.now).nodes ((talk.talk_value c.args.talk.now).node end.guid)) c.args.endpoints.now c.loop-endpoint.endpoint-index _
    c.loop-endpoint-test.true c.loop-endpoint.invariant (sym c.is_node_asked.ensures ∙ c.if-is_node_asked.false)
