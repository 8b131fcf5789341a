use Rattle.std.proofs.Common.{◌≡◌, false, map, take}
use Rattle.std.specs.List.{list_any}
use Rattle.rtps_discovery.specs.Endpoint as endpoint
use Rattle.rtps_report.specs.Asked as asked
use Rattle.rtps_report.specs.Rows as rows
use Rattle.rtps_report.specs.Talk as talk
use Rattle.rtps_report.proofs.one_side.has_asked_node.Given as goal

-- none so far has a node that is asked for
abbrev pub invariant-loop-endpoint : goal.invariant-loop-endpoint
invariant-loop-endpoint l =
    list_any (λ end. rows.has_node (asked.asked_value l.asked).nodes ((talk.talk_value l.talk).node end.guid)) (map endpoint.endpoint_value (take l.endpoint-index l.endpoints)) ≡ false
