use Rattle.std.proofs.Common.{◌≡◌, map, take}
use Rattle.json.specs.Json.{string}
use Rattle.rtps_parts.specs.Names.{guid_text}
use Rattle.rtps_report.specs.NotTold.{topic_end_value}
use Rattle.rtps_json.specs.Values.{items_json}
use Rattle.rtps_json.proofs.discovery_members.ends_value.Given as goal

abbrev pub invariant-loop-end : goal.invariant-loop-end
invariant-loop-end l = items_json l.values.items ≡ map (λ end. string (guid_text end.guid)) (map topic_end_value (take l.end-index l.ends))
