use Rattle.std.proofs.Common.{◌≡◌, ◌++◌, ◌≤◌, ◌-◌, drop, length, map}
use Rattle.rtps_discovery.specs.Endpoint as endpoint
use Rattle.rtps_report.specs.Asked as asked
use Rattle.rtps_report.specs.OneSides as one_sides
use Rattle.rtps_report.specs.Talk as talk
use Rattle.rtps_report.proofs.one_side.one_sides_among.Given as goal

abbrev pub invariant-topics : goal.invariant-topics
invariant-topics l = record {
  within : l.start ≤ length l.endpoints;
  same : map one_sides.one_sided_value l.found.items ++ one_sides.one_sides_among (asked.asked_value l.asked) (talk.talk_value l.talk).node (map endpoint.endpoint_value (drop l.start l.endpoints))
      ≡ one_sides.one_sides_among (asked.asked_value l.asked) (talk.talk_value l.talk).node (map endpoint.endpoint_value l.endpoints);
}

abbrev pub decreases-topics : goal.decreases-topics
decreases-topics l = length l.endpoints - l.start
